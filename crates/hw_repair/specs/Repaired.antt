-- The problem of a plan's repair, and its best repairs.
use Rattle.std.specs.Prelude.{◌≡◌, ◌==◌, ℕ, ◌+◌, ◌-◌, ◌*◌, ◌/◌, ◌%◌, ◌≤◌, if◌then◌else◌, List, map, Option, Some, None, option_map, option_and_then, slice_get}
use Rattle.hw_plan_texts.specs.Fleets.{lessened_rule}
use Rattle.hw_plan_texts.specs.Grids.{grid_of_values}
use Rattle.hw_model.specs.Problem.{Problem, value_at}
use Rattle.hw_model.specs.Timetables.{cargo}
use Rattle.hw_repair.specs.declared.plan.Wish.{Wish}
use Rattle.hw_repair.specs.Wishes.{PlanParts, wished, grants, PermitsPlan, moved}

-- the value times one more than the number of ships, and 1 more in the wish's slot. So any more cargo outweighs all ships that keep their slots
abbrev pub repaired_worth : ℕ → Wish → ℕ → ℕ → ℕ
repaired_worth ships wish slot value = value * (ships + 1) + (if slot == wished wish then 1 else 0)

-- none where the problem has no value there or the wish doesn't grant the slot
abbrev pub repaired_value : ℕ → Wish → ℕ → Option ℕ → Option ℕ
repaired_value ships wish slot value = if grants wish slot then option_map (repaired_worth ships wish slot) value else None

-- the value of a ship in a slot, by the ship's wish and the problem's value there
abbrev pub value_by : Problem → PlanParts → ℕ → ℕ → Option ℕ
value_by f plan ship slot = option_and_then (λ wish. repaired_value f.ships wish slot (value_at f ship slot)) (slice_get plan.wishes ship)

-- the sizes and the staying of the problem, its rules with the tugs that are left, and the values by the plan
abbrev pub repaired : Problem → PlanParts → Problem
repaired f plan = record { ships = f.ships; slots = f.slots; stay = f.stay; values = grid_of_values (value_by f plan) f.ships f.slots; rules = map (lessened_rule plan.withdrawn) f.rules }

-- the cargo, by the problem's own values, for which a cargo of the repair's problem stands
abbrev pub own_cargo : ℕ → ℕ → ℕ
own_cargo ships d = d / (ships + 1)

-- the number of moved ships for which it stands
abbrev pub own_moved : ℕ → ℕ → ℕ
own_moved ships d = ships - d % (ships + 1)

-- meets the plan, with this cargo and this number of moved ships
pub record MeetsPlanWith (f : Problem) (plan : PlanParts) (table : List ℕ) (c n : ℕ) : Type 0 where
  pub meets : PermitsPlan f plan table
  pub worth : cargo f table ≡ Some c
  pub moves : moved plan table ≡ n

-- meets the plan, with this cargo; and no timetable that meets the plan has more cargo, or as much with fewer moved ships
pub record IsBestRepair (f : Problem) (plan : PlanParts) (table : List ℕ) (c : ℕ) : Type 0 where
  pub meets : PermitsPlan f plan table
  pub worth : cargo f table ≡ Some c
  pub greatest : (other : List ℕ) (d : ℕ) → PermitsPlan f plan other → cargo f other ≡ Some d → d ≤ c
  pub fewest : (other : List ℕ) → PermitsPlan f plan other → cargo f other ≡ Some c → moved plan table ≤ moved plan other

-- no timetable meets the plan
abbrev pub NoRepair : Problem → PlanParts → Type 0
NoRepair f plan = (table : List ℕ) → PermitsPlan f plan table → ⊥
