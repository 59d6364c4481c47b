-- The first lines of what is written well are written well.
use Rattle.std.proofs.Common.{◌≡◌, ℕ, zero, suc, ◌+◌, true, List, [], ◌∷◌, ◌++◌, get_or, take, drop, sym, ap, ◌∙◌, subst, arith, append_assoc, length-append}
use Rattle.std.specs.Prelude.{AllPairs}
use Rattle.std.proofs.lemmas.List.{take-append-drop}
use Rattle.std.proofs.lemmas.List.Elements.{All-take, filter_map-append}
use Rattle.hw_lemmas.proofs.Lists.{front_at}
use Rattle.hw_model.specs.Problem.{Problem}
use Rattle.hw_model.specs.Rooms.{RoomWithin}
use Rattle.hw_cert_lines.specs.declared.line.Line.{Line}
use Rattle.hw_cert_lines.specs.Tolled.{is_plain}
use Rattle.hw_cert_lines.specs.Lines.{clause_count}
use Rattle.hw_cert_lines.specs.Valid.{LineFits, ValidFrom, denied_room}
use Rattle.hw_cert_lines.specs.Lemmas.{lemma_of, lemmas_of, LeanFrom}
use Rattle.hw_cert_laws.proofs.Numbered.{count_append}
use Rattle.hw_search_laws.specs.Living.{FewLiveFrom}
use Rattle.hw_search_laws.specs.Turns.{WritesWell}
use Rattle.hw_search_laws.specs.Laws.{PartMeets}

valid_part : (f : Problem) (before more : List Line) (n : ℕ) → ValidFrom f before more → ValidFrom f before (take n more)
valid_part f before [] zero h = tt
valid_part f before [] (suc n) h = tt
valid_part f before (x ∷ xs) zero h = tt
valid_part f before (x ∷ xs) (suc n) h = (h.0, valid_part f (before ++ x ∷ []) xs n h.1)

lean_part : (f : Problem) (before more : List Line) (n : ℕ) → LeanFrom f before more → LeanFrom f before (take n more)
lean_part f before [] zero h = tt
lean_part f before [] (suc n) h = tt
lean_part f before (x ∷ xs) zero h = tt
lean_part f before (x ∷ xs) (suc n) h = (h.0, lean_part f (before ++ x ∷ []) xs n h.1)

live_part : (f : Problem) (before more : List Line) (n : ℕ) → FewLiveFrom f before more → FewLiveFrom f before (take n more)
live_part f before [] zero h = tt
live_part f before [] (suc n) h = tt
live_part f before (x ∷ xs) zero h = tt
live_part f before (x ∷ xs) (suc n) h = (h.0, live_part f (before ++ x ∷ []) xs n h.1)

pairs_front : {A : Type 0} (R : A → A → Type 0) (xs ys : List A) → AllPairs R (xs ++ ys) → AllPairs R xs
pairs_front R xs ys h = λ i j d lt in_xs.
    subst (λ b. R (get_or xs i d) b) (front_at xs ys j d in_xs)
    (subst (λ a. R a (get_or (xs ++ ys) j d)) (front_at xs ys i d (omega (arith, lt, in_xs)))
    (h i j d lt (omega (arith, in_xs, length-append xs ys))))

pub part_well : (f : Problem) (before more : List Line) (n : ℕ) → WritesWell f before more → FewLiveFrom f before more → PartMeets f before more (take n more)
part_well f before more n w l =
    let whole : take n more ++ drop n more ≡ more = take-append-drop n more in
    let split : lemmas_of (before ++ more) ≡ lemmas_of (before ++ take n more) ++ lemmas_of (drop n more) =
    ap (λ xs. lemmas_of (before ++ xs)) (sym whole) ∙ ap lemmas_of (sym (append_assoc before (take n more) (drop n more))) ∙ filter_map-append lemma_of (before ++ take n more) (drop n more) in
    let counts : clause_count more ≡ clause_count (take n more) + clause_count (drop n more) = ap clause_count (sym whole) ∙ count_append (take n more) (drop n more) in
    record {
      well = record {
        plain = λ none. All-take (λ line. is_plain line ≡ true) n more (w.plain none);
        fit = All-take (LineFits f) n more w.fit;
        valid = valid_part f before more n w.valid;
        lean = lean_part f before more n w.lean;
        new = λ old. pairs_front (λ earlier later. RoomWithin (denied_room f later) (denied_room f earlier) → ⊥) (lemmas_of (before ++ take n more)) (lemmas_of (drop n more))
            (subst (AllPairs (λ earlier later. RoomWithin (denied_room f later) (denied_room f earlier) → ⊥)) split (w.new old));
      };
      few_live = live_part f before more n l;
      few = omega (arith, counts);
    }
