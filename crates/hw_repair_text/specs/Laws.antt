-- What the text says, in the words of plans and of cargo.
use Rattle.std.specs.Prelude.{◌≡◌, ◌≢◌, ◌↔◌, ℕ, ◌+◌, ◌-◌, List, [], ◌∷◌, length, map, count_by, Some, None}
use Rattle.hw_model.specs.Problem.{Problem, value_at}
use Rattle.hw_flat.specs.Carried.{worth}
use Rattle.hw_model.specs.Timetables.{cargo}
use Rattle.hw_repair.specs.declared.plan.Wish.{Wish}
use Rattle.hw_repair.specs.Wishes.{PlanParts, wished, moved}
use Rattle.hw_repair_text.specs.declared.fate.Fate.TheVariants.{Moved}
use Rattle.hw_repair_text.specs.Fates.{fate, fates, is_moved, worths}

-- a ship is told as moved exactly where its slot isn't the wish's, and as many are as the repair moves
pub record AreMoved (f : Problem) : Type 0 where
  pub each : (wish : Wish) (slot : ℕ) → (fate f wish slot ≡ Moved ↔ slot ≢ wished wish)
  pub many : (plan : PlanParts) (table : List ℕ) → count_by is_moved (fates f plan.wishes table) ≡ moved plan table

abbrev pub EachIsMoved : Type 0
EachIsMoved = (f : Problem) → AreMoved f

-- a sum is the cargo of its timetable, where each ship has a value in its slot
abbrev pub SumsAreCargo : Type 0
SumsAreCargo = (f : Problem) (table : List ℕ) (c : ℕ) → cargo f table ≡ Some c → worths f 0 table ≡ c

-- what the ships from this one on win, each against its planned slot
abbrev pub won : Problem → ℕ → List Wish → List ℕ → ℕ
won f ship [] table = 0
won f ship (wish ∷ plan) [] = 0
won f ship (wish ∷ plan) (slot ∷ table) = (worth f ship slot - worth f ship (wished wish)) + won f (ship + 1) plan table

-- and what they lose
abbrev pub lost : Problem → ℕ → List Wish → List ℕ → ℕ
lost f ship [] table = 0
lost f ship (wish ∷ plan) [] = 0
lost f ship (wish ∷ plan) (slot ∷ table) = (worth f ship (wished wish) - worth f ship slot) + lost f (ship + 1) plan table

-- the plan's sum with all that is won is the repair's with all that is lost
abbrev pub TotalIsOfChanges : Type 0
TotalIsOfChanges = (f : Problem) (plan : List Wish) (table : List ℕ) → length plan ≡ length table → worths f 0 (map wished plan) + won f 0 plan table ≡ worths f 0 table + lost f 0 plan table

-- a ship's value in a slot is what it carries there, and without one it carries nothing
pub record IsValueOrNothing (f : Problem) (ship slot : ℕ) : Type 0 where
  pub value : (c : ℕ) → value_at f ship slot ≡ Some c → worth f ship slot ≡ c
  pub nothing : value_at f ship slot ≡ None → worth f ship slot ≡ 0

abbrev pub ValueOrNothing : Type 0
ValueOrNothing = (f : Problem) (ship slot : ℕ) → IsValueOrNothing f ship slot
