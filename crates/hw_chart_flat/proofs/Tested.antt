-- Where a ship alone could move: the test, and what the problem permits.
use Rattle.std.proofs.Common.{◌≡◌, ◌↔◌, ◌<◌, ℕ, Bool, true, false, not, List, length-set, Option, Some, None, is_some, is_none, refl, ◌∙◌}
use Rattle.std.proofs.lemmas.List.Elements.{All-set}
use Rattle.hw_model.specs.Problem.{Problem, IsTimetable}
use Rattle.hw_model.specs.Timetables.{Permits, first_broken}
use Rattle.hw_rules.proofs.Permitted.{test_permits}
use Rattle.hw_chart_flat.specs.Moves.{with_move, move_is_open}

some_or_none : {A : Type 0} (o : Option A) → is_some o ≡ not (is_none o)
some_or_none None = refl
some_or_none (Some a) = refl

-- with another slot for a ship a timetable is one still
pub moved_listed : (f : Problem) (table : List ℕ) (ship slot : ℕ) → IsTimetable f table → slot < f.slots → IsTimetable f (with_move table ship slot)
moved_listed f table ship slot listed lt = record {
  each_ship = length-set table ship slot ∙ listed.each_ship;
  each_slot = All-set (λ s. s < f.slots) table ship slot lt listed.each_slot;
}

-- a slot is open exactly where the problem permits the timetable with that slot for the ship
pub open_permits : (f : Problem) (table : List ℕ) (ship slot : ℕ) → IsTimetable f table → slot < f.slots → (move_is_open f table ship slot ≡ true) ↔ Permits f (with_move table ship slot)
open_permits f table ship slot listed lt =
    let other = with_move table ship slot in
    test_permits f other (first_broken f other) (is_none (first_broken f other)) (moved_listed f table ship slot listed lt) refl (some_or_none (first_broken f other))

-- so a test with that answer is whether the slot is open
pub same_open : (f : Problem) (table : List ℕ) (ship slot : ℕ) (flag : Bool) → IsTimetable f table → slot < f.slots → ((flag ≡ true) ↔ Permits f (with_move table ship slot)) → flag ≡ move_is_open f table ship slot
same_open f table ship slot flag listed lt means = both flag (move_is_open f table ship slot) (λ e. here.1 (means.0 e)) (λ e. means.1 (here.0 e))
  where
    here : (move_is_open f table ship slot ≡ true) ↔ Permits f (with_move table ship slot)
    here = open_permits f table ship slot listed lt

    both : (a b : Bool) → (a ≡ true → b ≡ true) → (b ≡ true → a ≡ true) → a ≡ b
    both true true h k = refl
    both true false h k = absurd (let e = h refl in cc)
    both false true h k = absurd (let e = k refl in cc)
    both false false h k = refl
