-- A replay keeps the timetables inside that make its clauses true.
use Rattle.std.proofs.Common.{◌≡◌, ◌⊎◌, ℕ, ◌+◌, Bool, true, false, cond, List, [], ◌∷◌, All, IsTrue, refl, sym, subst, inl, inr}
use Rattle.std.proofs.lemmas.Bool.{or_cases, or_parts, or_left, or_right, both_ways}
use Rattle.std.proofs.lemmas.List.Elements.{All-head, All-tail, All-filter}
use Rattle.std.specs.List.{list_any}
use Rattle.hw_model.specs.declared.lit.Lit.{Lit}
use Rattle.hw_model.specs.declared.lit.LitTruth.{LitTruth}
use Rattle.hw_model.specs.declared.lit.LitTruth.TheVariants.{True, False, Free}
use Rattle.hw_model.specs.declared.narrowing.Narrowed.{Narrowed}
use Rattle.hw_model.specs.declared.narrowing.Narrowed.TheVariants.{Same, Cut, Conflict, Loose}
use Rattle.hw_model.specs.Lits.{lit_holds, clause_holds, IsLitOf}
use Rattle.hw_model.specs.Rooms.{RoomModel, Inside}
use Rattle.hw_model.specs.Narrowing.{truth}
use Rattle.hw_model.specs.Replay.{is_true, is_free, some_true, free_lits, step_by, narrowing, room_after, ends_by, Replayed, conflict, replay_from}
use Rattle.hw_model_laws.proofs.Truths.{false_inside}
use Rattle.hw_model_laws.proofs.Ranges.{IsFull}
use Rattle.hw_model_laws.proofs.Cuts.{into_cut, full_cut, same_ships}

-- a literal that isn't True and that holds is Free
must_be_free : (t : LitTruth) → is_true t ≡ false → (t ≡ False → ⊥) → is_free t ≡ true
must_be_free True e never = absurd cc
must_be_free False e never = absurd (never refl)
must_be_free Free e never = refl

any_kept : (table : List ℕ) (b : Bool) (lit : Lit) (more : List Lit) → list_any (lit_holds table) more ≡ true → list_any (lit_holds table) (cond b (lit ∷ more) more) ≡ true
any_kept table true lit more e = or_right (lit_holds table lit) _ e
any_kept table false lit more e = e

any_here : (table : List ℕ) (b : Bool) (lit : Lit) (more : List Lit) → b ≡ true → lit_holds table lit ≡ true → list_any (lit_holds table) (cond b (lit ∷ more) more) ≡ true
any_here table true lit more e h = or_left (lit_holds table lit) _ h
any_here table false lit more e h = absurd cc

-- where no literal is True, one of the Free ones is true of a timetable inside that makes the clause true
pub free_holds : (room : RoomModel) (table : List ℕ) (clause : List Lit) → All (IsLitOf room.ships) clause → Inside table room → some_true room clause ≡ false → clause_holds table clause ≡ true → list_any (lit_holds table) (free_lits room clause) ≡ true
free_holds room table [] fits h none e = absurd cc
free_holds room table (lit ∷ more) fits h none e =
    let parts = or_parts (is_true (truth room lit)) (some_true room more) none in
    elim (or_cases (lit_holds table lit) (clause_holds table more) e) [
      | inl here ↦
          let free = must_be_free (truth room lit) parts.0 (λ f. both_ways _ (false_inside room table lit (All-head (IsLitOf room.ships) lit more fits) h f) here) in
          any_here table (is_free (truth room lit)) lit (free_lits room more) free here
      | inr later ↦ any_kept table (is_free (truth room lit)) lit (free_lits room more) (free_holds room table more (All-tail (IsLitOf room.ships) lit more fits) h parts.1 later)
    ]

-- what is kept over a step that is no conflict
record IsKept (table : List ℕ) (room : RoomModel) (step : Narrowed) : Type 0 where
  goes_on : step ≡ Conflict → ⊥
  inside : Inside table (room_after step room)
  full : IsFull (room_after step room)
  same : (room_after step room).ships ≡ room.ships

none_in : (table : List ℕ) (free : List Lit) → free ≡ [] → list_any (lit_holds table) free ≡ true → ⊥
none_in table [] e h = absurd cc
none_in table (lit ∷ more) e h = absurd cc

one_in : (table : List ℕ) (lit : Lit) → list_any (lit_holds table) (lit ∷ []) ≡ true → lit_holds table lit ≡ true
one_in table lit e = elim (or_cases (lit_holds table lit) false e) [
  | inl h ↦ h
  | inr h ↦ absurd cc
]

step_kept : (room : RoomModel) (table : List ℕ) (clause : List Lit) (some : Bool) (free : List Lit) → IsFull room → All (IsLitOf room.ships) clause → Inside table room → clause_holds table clause ≡ true → some_true room clause ≡ some → free_lits room clause ≡ free → IsKept table room (step_by some free)
step_kept room table clause true free full fits h e s g = record { goes_on = λ x. absurd cc; inside = h; full = full; same = refl }
step_kept room table clause false [] full fits h e s g = absurd (none_in table (free_lits room clause) g (free_holds room table clause fits h s e))
step_kept room table clause false (lit ∷ []) full fits h e s g =
    let holds : lit_holds table lit ≡ true = one_in table lit (subst (λ l. list_any (lit_holds table) l ≡ true) g (free_holds room table clause fits h s e)) in
    let lits : All (IsLitOf room.ships) (lit ∷ []) = subst (All (IsLitOf room.ships)) g (All-filter (λ l. is_free (truth room l)) (IsLitOf room.ships) clause fits) in
    let of : IsLitOf room.ships lit = All-head (IsLitOf room.ships) lit [] lits in
    record { goes_on = λ x. absurd cc; inside = into_cut room table lit full of h holds; full = full_cut room lit full; same = same_ships room lit }
step_kept room table clause false (a ∷ b ∷ more) full fits h e s g = record { goes_on = λ x. absurd cc; inside = h; full = full; same = refl }

ends_at : (step : Narrowed) (place : ℕ) (rest : Replayed) → ends_by step place rest ≡ conflict → (step ≡ Conflict) ⊎ (rest ≡ conflict)
ends_at Same place rest e = inr e
ends_at (Cut lit) place rest e = inr e
ends_at Conflict place rest e = inl refl
ends_at (Loose a b) place rest e = absurd cc

pub no_conflict_inside : (table : List ℕ) (clauses : List (List Lit)) (room : RoomModel) (place : ℕ) → IsFull room → All (All (IsLitOf room.ships)) clauses → Inside table room → All (λ clause. IsTrue (clause_holds table clause)) clauses → replay_from place room clauses ≡ conflict → ⊥
no_conflict_inside table [] room place full fits h all e = absurd cc
no_conflict_inside table (clause ∷ more) room place full fits h all e =
    let kept = step_kept room table clause (some_true room clause) (free_lits room clause) full (All-head (All (IsLitOf room.ships)) clause more fits) h (All-head (λ clause. IsTrue (clause_holds table clause)) clause more all) refl refl in
    let rest : All (All (IsLitOf room.ships)) more = All-tail (All (IsLitOf room.ships)) clause more fits in
    elim (ends_at (narrowing clause room) place _ e) [
      | inl ended ↦ kept.goes_on ended
      | inr later ↦ no_conflict_inside table more (room_after (narrowing clause room) room) (place + 1) kept.full (subst (λ n. All (All (IsLitOf n)) more) (sym kept.same) rest) kept.inside (All-tail (λ clause. IsTrue (clause_holds table clause)) clause more all) later
    ]
