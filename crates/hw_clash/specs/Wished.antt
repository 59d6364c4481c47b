-- A problem with wishes of its ships, as a plan has them, and its restrictions: those of the problem by their numbers, and then a wish for each ship.
use Rattle.std.specs.Prelude.{ℕ, ◌+◌, ◌-◌, ◌≤◌, Bool, true, nat_lt, if◌then◌else◌, List, [], length, Option, Some, None, slice_get, IsTrue}
use Rattle.hw_model.specs.Limits.{IsFlat}
use Rattle.hw_model.specs.Problem.{Problem}
use Rattle.hw_model.specs.Timetables.{Permits, restriction_count, restriction_holds}
use Rattle.hw_model.specs.declared.rule.Rule.{Rule}
use Rattle.hw_model.specs.declared.limits.TheConstants.{MOST_SHIPS}
use Rattle.hw_repair.specs.Wishes.{grants}
use Rattle.hw_repair.specs.declared.plan.Wish.{Wish}

-- wishes are those of ship 0 first; without a plan there are none
pub record Wished : Type 0 where
  pub problem : Problem
  pub wishes : List Wish

abbrev pub with_wishes : Problem → List Wish → Wished
with_wishes f wishes = record { problem = f; wishes = wishes }

-- the problem alone
abbrev pub unplanned : Problem → Wished
unplanned f = with_wishes f []

-- the problem with other rules
abbrev pub ruled : Problem → List Rule → Problem
ruled f rules = record { ships = f.ships; slots = f.slots; stay = f.stay; values = f.values; rules = rules }

-- within the limits of a flat problem, and no more wishes than it can have ships
pub record IsWished (f : Wished) : Type 0 where
  pub limits : IsFlat f.problem
  pub few_wishes : length f.wishes ≤ MOST_SHIPS

-- ---- restrictions

-- the slot of a ship, if it is there, is one that the ship's wish grants, if it has one
abbrev pub is_granted : Option Wish → Option ℕ → Bool
is_granted None slot = true
is_granted (Some wish) None = true
is_granted (Some wish) (Some slot) = grants wish slot

-- how many restrictions there are
abbrev pub wished_count : Wished → ℕ
wished_count f = restriction_count f.problem + length f.wishes

-- the wish of this ship holds of a timetable
abbrev pub wish_holds : Wished → List ℕ → ℕ → Bool
wish_holds f table ship = is_granted (slice_get f.wishes ship) (slice_get table ship)

-- the restriction of this number holds
abbrev pub wished_holds : Wished → List ℕ → ℕ → Bool
wished_holds f table n = if nat_lt n (restriction_count f.problem) then restriction_holds f.problem table n else wish_holds f table (n - restriction_count f.problem)

-- ---- timetables

-- permitted, and each wish holds
pub record PermitsWished (f : Wished) (table : List ℕ) : Type 0 where
  pub permitted : Permits f.problem table
  pub granted : (ship : ℕ) → IsTrue (wish_holds f table ship)

-- no timetable is permitted that meets all wishes
abbrev pub NoneWished : Wished → Type 0
NoneWished f = (table : List ℕ) → PermitsWished f table → ⊥
