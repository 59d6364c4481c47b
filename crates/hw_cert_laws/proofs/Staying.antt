-- The deletions that renewing adds are valid after the new lines.
use Rattle.std.proofs.Common.{◌≡◌, ℕ, ◌≤◌, true, false, ◌&&◌, not, List, [], ◌∷◌, ◌++◌, Some, All, IsSome, refl, sym, ◌∙◌, subst, arith, append_assoc, append-nil}
use Rattle.std.proofs.lemmas.Bool.{or_left, or_right, both_ways, not-true, and_parts}
use Rattle.std.proofs.lemmas.List.Elements.{All-nil, All-cons, All-weaker, All-filter, filter_passes}
use Rattle.hw_model.specs.declared.lit.Lit.{Lit}
use Rattle.hw_model.specs.Problem.{Problem}
use Rattle.hw_cert_lines.specs.declared.line.Line.{Line}
use Rattle.hw_cert_lines.specs.Lines.{clause_of, clause_count, clause_at, live, is_closed}
use Rattle.hw_cert_lines.specs.Valid.{ValidFrom}
use Rattle.hw_cert_lines.proofs.Pushed.{deletes_none, one_more}
use Rattle.hw_cert_lines.proofs.Deleted.{live_in}
use Rattle.hw_cert_laws.specs.Renewing.{has_hint, is_hint_of, last_named, never_named, deletion}
use Rattle.hw_cert_laws.proofs.Alike.{same_chain, same_deletion, Spares, spares_more, spares_deletion, Keeps, at_same, spared_live, same_live}

-- ---- a step: new lines that are valid, and what they keep

pub record Step (f : Problem) (before made more later : List Line) : Type 0 where
  pub valid : ValidFrom f made more
  pub keeps : Keeps before (made ++ more) later

pub valid_append : (f : Problem) (xs before ys : List Line) → ValidFrom f before xs → ValidFrom f (before ++ xs) ys → ValidFrom f before (xs ++ ys)
valid_append f [] before ys a b = subst (λ all. ValidFrom f all ys) (append-nil before) b
valid_append f (x ∷ xs) before ys a b = (a.0, valid_append f xs (before ++ x ∷ []) ys a.1 (subst (λ all. ValidFrom f all ys) (sym (append_assoc before (x ∷ []) xs)) b))

-- ---- a deletion

valid_deletion : (f : Problem) (made : List Line) (ids : List ℕ) → is_closed made ≡ false → All (λ id. IsSome (live made id)) ids → ValidFrom f made (deletion ids)
valid_deletion f made [] going lives = tt
valid_deletion f made (id ∷ ids) going lives = (record { goes_on = going; numbered = tt; claim = lives }, tt)

delete_step : (f : Problem) (before made named later : List Line) (ids : List ℕ) → Keeps before made named → is_closed made ≡ false → All (λ id. IsSome (live made id)) ids → All (λ id. id ≤ clause_count before) ids → All (λ id. is_hint_of later id ≡ false) ids → ((id : ℕ) → is_hint_of later id ≡ true → is_hint_of named id ≡ true) → Step f before made (deletion ids) later
delete_step f before made named later ids keeps going lives within unnamed fewer = record {
  valid = valid_deletion f made ids going lives;
  keeps = record {
    same = same_chain before made (made ++ deletion ids) keeps.same (same_deletion made ids);
    named = λ id e. spares_more made (deletion ids) id (keeps.named id (fewer id e)) (spares_deletion ids id (λ k d lt is. both_ways _ (unnamed k d lt) (subst (λ n. is_hint_of later n ≡ true) (sym is) e)));
    fresh = λ id lt. spares_more made (deletion ids) id (keeps.fresh id lt) (spares_deletion ids id (λ k d less is.
        let most = within k d less in
        omega (arith, most, lt, is)));
  };
}

-- what the deleted hints are
pub last_parts : (line : Line) (later : List Line) → All (λ id. (has_hint id line ≡ true) × (is_hint_of later id ≡ false)) (last_named line later)
last_parts line later = All-weaker (λ id. (has_hint id line && not (is_hint_of later id)) ≡ true) (λ id. (has_hint id line ≡ true) × (is_hint_of later id ≡ false)) (λ id e. let parts = and_parts _ _ e in (parts.0, not-true _ parts.1)) (last_named line later) (filter_passes (λ id. has_hint id line && not (is_hint_of later id)) _)

pub never_is : (n : ℕ) (later : List Line) → All (λ id. id ≡ n) (never_named n later)
never_is n later = All-filter (λ id. not (is_hint_of later id)) (λ id. id ≡ n) (n ∷ []) (All-cons (λ id. id ≡ n) n [] refl (All-nil (λ id. id ≡ n)))

never_unnamed : (n : ℕ) (later : List Line) → All (λ id. is_hint_of later id ≡ false) (never_named n later)
never_unnamed n later = All-weaker (λ id. not (is_hint_of later id) ≡ true) (λ id. is_hint_of later id ≡ false) (λ id e. not-true _ e) (never_named n later) (filter_passes (λ id. not (is_hint_of later id)) (n ∷ []))

pub last_step : (f : Problem) (before made later : List Line) (line : Line) (clause : List Lit) → clause_of line ≡ Some clause → ((id : ℕ) → has_hint id line ≡ true → IsSome (live before id)) → Keeps (before ++ line ∷ []) made (line ∷ later) → is_closed made ≡ false → Step f (before ++ line ∷ []) made (deletion (last_named line later)) later
last_step f before made later line clause of lives keeps going =
    let parts = last_parts line later in
    let ids = last_named line later in
    let old : All (λ id. IsSome (live before id)) ids = λ k d lt. lives _ (parts k d lt).0 in
    let new : All (λ id. IsSome (live (before ++ line ∷ []) id)) ids = λ k d lt. subst IsSome (sym ((one_more f before line).earlier _ (live_in before _ (old k d lt)) (deletes_none line clause _ of))) (old k d lt) in
    delete_step f (before ++ line ∷ []) made (line ∷ later) later ids keeps going
    (λ k d lt. subst IsSome (sym (same_live (before ++ line ∷ []) made _ keeps.same (keeps.named _ (or_left _ _ (parts k d lt).0)) (new k d lt))) (new k d lt))
    (λ k d lt. live_in (before ++ line ∷ []) _ (new k d lt))
    (λ k d lt. (parts k d lt).1)
    (λ id e. or_right _ _ e)

pub own_step : (f : Problem) (before made later : List Line) (n : ℕ) → Keeps before made later → is_closed made ≡ false → n ≤ clause_count before → IsSome (clause_at before n) → Spares made n → Step f before made (deletion (never_named n later)) later
own_step f before made later n keeps going within some spares =
    let is = never_is n later in
    let here : IsSome (live made n) = subst IsSome (sym (spared_live made n spares ∙ at_same before made n keeps.same.clauses)) some in
    delete_step f before made later later (never_named n later) keeps going
    (λ k d lt. subst (λ id. IsSome (live made id)) (sym (is k d lt)) here)
    (λ k d lt. subst (λ id. id ≤ clause_count before) (sym (is k d lt)) within)
    (never_unnamed n later)
    (λ id e. e)
