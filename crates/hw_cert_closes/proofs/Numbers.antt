-- Numbers of clause lines, one line after another.
use Rattle.std.proofs.Common.{◌≡◌, ◌∙◌, ◌+◌, ◌-◌, ◌^◌, ◌<◌, ◌≤◌, ◌++◌, ◌∷◌, ◌&&◌, ◌||◌, ℕ, Bool, true, false, cond, not, min, List, [], Option, Some, None, get_or, length, take, refl, sym, ap, subst, inl, inr, ◌⊎◌, arith}
use Rattle.std.specs.List.{cons_option}
use Rattle.std.proofs.lemmas.Bool.{cases_lt, cases_order, false≢true}
use Rattle.std.proofs.lemmas.List.{length_push, take_more}
use Rattle.std.proofs.lemmas.List.Folds.{list_any_more}
use Rattle.hw_model.specs.declared.lit.Lit.{Lit}
use Rattle.hw_model.specs.Rooms.{RoomModel}
use Rattle.hw_cert_lines.specs.declared.line.Line.{Line}
use Rattle.hw_cert_lines.specs.Lines.{clause_count, clause_of, clauses_of}
use Rattle.hw_cert_lines.proofs.Counted.{last_one, same_earlier}
use Rattle.hw_cert_lines.proofs.Live.{count_front}
use Rattle.hw_cert_lines.proofs.Pushed.{at_past, clauses_push, same_at}
use Rattle.hw_cert_laws.proofs.Numbered.{count_append}
use Rattle.hw_cert_closes.specs.Closing.{closes_room, is_clause_false}
use Rattle.hw_cert_closes.specs.Numbers.{FindsLast, IsClosing, IsLastClosing, LastClosing, preferred}
use Rattle.hw_cert_laws.specs.Renewing.{is_marked}

-- ---- how many clause lines there are

next : (all : List Line) (i : ℕ) (line : Line) → i < length all → line ≡ get_or all i line → take (i + 1) all ≡ take i all ++ line ∷ []
next all i line lt is = take_more all i line lt ∙ ap (λ one. take i all ++ one ∷ []) (sym is)

-- a count up to the greatest number, with one more line
pub counted_next : (all : List Line) (i : ℕ) (line : Line) (count more : ℕ) → i < length all → line ≡ get_or all i line → count ≡ min (clause_count (take i all)) (2 ^ 32 - 1) → more ≡ min (count + clause_count (line ∷ [])) (2 ^ 32 - 1) → more ≡ min (clause_count (take (i + 1) all)) (2 ^ 32 - 1)
counted_next all i line count more lt is counted e =
    let sum : clause_count (take (i + 1) all) ≡ clause_count (take i all) + clause_count (line ∷ []) = ap clause_count (next all i line lt is) ∙ count_append (take i all) (line ∷ []) in
    omega (arith, sum, counted, e)

-- ---- clauses that are true of nothing in a room

-- such a clause has a number of a clause line
within : (room : RoomModel) (all : List Line) (m : ℕ) → IsClosing room all m → m ≤ clause_count all
within room all m h = elim (cases_lt (clause_count all) m) [
  | inl past ↦ absurd (false≢true (sym (ap (is_clause_false room) (at_past all m past)) ∙ h))
  | inr le ↦ le
]

pushed : (before : List Line) (line : Line) (clause : List Lit) → clause_of line ≡ Some clause → clauses_of (before ++ line ∷ []) ≡ clauses_of before ++ clause ∷ []
pushed before line clause e = clauses_push before line ∙ ap (λ (o : Option (List Lit)). clauses_of before ++ cons_option o []) e

-- with one more line it still has it
kept : (room : RoomModel) (before : List Line) (line : Line) (m : ℕ) → IsClosing room before m → IsClosing room (before ++ line ∷ []) m
kept room before line m h = ap (is_clause_false room) (same_earlier before (before ++ line ∷ []) _ m (clauses_push before line) (within room before m h)) ∙ h

-- where the line has such a clause, its number is the last one
here : (room : RoomModel) (before : List Line) (line : Line) (number : ℕ) (o : Option (List Lit)) → clause_of line ≡ o → is_clause_false room o ≡ true → number ≡ clause_count (before ++ line ∷ []) → (number ≡ clause_count before + 1) × IsClosing room (before ++ line ∷ []) number
here room before line number None e h is = absurd cc
here room before line number (Some clause) e h is =
    let last : number ≡ clause_count before + 1 = is ∙ ap length (pushed before line clause e) ∙ length_push (clauses_of before) clause in
    (last, ap (is_clause_false room) (last_one before (before ++ line ∷ []) clause number (pushed before line clause e) last) ∙ h)

-- such a number is one of the lines before, or the line's own
either : (room : RoomModel) (before : List Line) (line : Line) (m : ℕ) (o : Option (List Lit)) → clause_of line ≡ o → IsClosing room (before ++ line ∷ []) m → IsClosing room before m ⊎ ((m ≡ clause_count before + 1) × (is_clause_false room o ≡ true))
either room before line m None e h = inl (sym (ap (is_clause_false room) (same_at before line m e)) ∙ h)
either room before line m (Some clause) e h = elim (cases_order m (clause_count before + 1)) [
  | inl last ↦ inr (last, sym (ap (is_clause_false room) (last_one before (before ++ line ∷ []) clause m (pushed before line clause e) last)) ∙ h)
  | inr (inl lt) ↦ inl (sym (ap (is_clause_false room) (same_earlier before (before ++ line ∷ []) _ m (clauses_push before line) (omega (arith, lt)))) ∙ h)
  | inr (inr past) ↦ absurd (omega (arith, past, within room (before ++ line ∷ []) m h, ap length (pushed before line clause e) ∙ length_push (clauses_of before) clause))
]

-- ---- the last of them

-- a line that has no such clause
pub quiet_next : (room : RoomModel) (before : List Line) (line : Line) (marks : List Bool) (found : Option ℕ) → is_clause_false room (clause_of line) ≡ false → LastClosing room before marks found → LastClosing room (before ++ line ∷ []) marks found
quiet_next room before line marks found e h = by found h
  where
    old : (m : ℕ) → IsClosing room (before ++ line ∷ []) m → IsClosing room before m
    old m h = elim (either room before line m (clause_of line) refl h) [
      | inl was ↦ was
      | inr new ↦ absurd (false≢true (sym e ∙ new.1))
    ]

    by : (found : Option ℕ) → LastClosing room before marks found → LastClosing room (before ++ line ∷ []) marks found
    by None none = λ m h. none m (old m h)
    by (Some n) last = record {
      closing = kept room before line n last.closing;
      later = λ m h lt. last.later m (old m h) lt;
      marked = λ k m h. last.marked k m (old m h);
    }

-- a line that has one
pub closing_next : (room : RoomModel) (before : List Line) (line : Line) (number : ℕ) (marks : List Bool) (found : Option ℕ) → is_clause_false room (clause_of line) ≡ true → number ≡ clause_count (before ++ line ∷ []) → LastClosing room before marks found → IsLastClosing room (before ++ line ∷ []) marks (preferred marks found number)
closing_next room before line number marks found e is h = by found h
  where
    own : (number ≡ clause_count before + 1) × IsClosing room (before ++ line ∷ []) number
    own = here room before line number (clause_of line) refl e is

    -- it is the one, where all before have marks if it has one
    newest : (is_marked marks number ≡ true → (m : ℕ) → IsClosing room before m → is_marked marks m ≡ true) → IsLastClosing room (before ++ line ∷ []) marks number
    newest all = record {
      closing = own.1;
      later = λ m h lt. absurd (omega (arith, lt, within room (before ++ line ∷ []) m h, is));
      marked = λ k m h. (
        omega (arith, within room (before ++ line ∷ []) m h, is),
        elim (either room before line m (clause_of line) refl h) [
          | inl was ↦ all k m was
          | inr new ↦ ap (is_marked marks) (new.0 ∙ sym own.0) ∙ k
        ],
      );
    }

    chosen : (n : ℕ) → IsLastClosing room before marks n → (a b : Bool) → is_marked marks number ≡ a → is_marked marks n ≡ b → IsLastClosing room (before ++ line ∷ []) marks (cond (a && not b) n number)
    chosen n last false b ea eb = newest (λ k. absurd (false≢true (sym ea ∙ k)))
    chosen n last true true ea eb = newest (λ k m was. (last.marked eb m was).1)
    chosen n last true false ea eb = record {
      closing = kept room before line n last.closing;
      later = λ m h lt. elim (either room before line m (clause_of line) refl h) [
        | inl was ↦ last.later m was lt
        | inr new ↦ ap (is_marked marks) (new.0 ∙ sym own.0) ∙ ea
      ];
      marked = λ k. absurd (false≢true (sym eb ∙ k));
    }

    by : (found : Option ℕ) → LastClosing room before marks found → IsLastClosing room (before ++ line ∷ []) marks (preferred marks found number)
    by None none = newest (λ k m was. absurd (none m was))
    by (Some n) last = chosen n last (is_marked marks number) (is_marked marks n) refl refl

-- ---- one line of a list after another

-- whether those up to a line close the room
pub closes_more : (room : RoomModel) (all : List Line) (i : ℕ) (line : Line) {was now : Bool} → i < length all → line ≡ get_or all i line → was ≡ closes_room room (take i all) → now ≡ (was || is_clause_false room (clause_of line)) → now ≡ closes_room room (take (i + 1) all)
closes_more room all i line lt is before e =
    let closes : Line → Bool = λ line. is_clause_false room (clause_of line) in
    e ∙ ap (λ (b : Bool). b || closes line) before ∙ ap (λ (one : Line). closes_room room (take i all) || closes one) is ∙ sym (list_any_more closes all i line lt)

-- what is found up to one
pub found_more : (room : RoomModel) (all : List Line) (i : ℕ) (line : Line) (marks : List Bool) (found after : Option ℕ) (number : ℕ) → i < length all → line ≡ get_or all i line → number ≡ min (clause_count (take (i + 1) all)) (2 ^ 32 - 1) → FindsLast room marks found number line after → (clause_count all < 2 ^ 32 → LastClosing room (take i all) marks found) → clause_count all < 2 ^ 32 → LastClosing room (take (i + 1) all) marks after
found_more room all i line marks found after number lt is counted finds last few =
    let parts = next all i line lt is in
    let exact : number ≡ clause_count (take i all ++ line ∷ []) = omega (arith, counted, count_front all (i + 1), few, ap clause_count parts) in
    subst (λ (front : List Line). LastClosing room front marks after) (sym parts) (finds (take i all) exact (last few))
