-- The laws of a plan's repair.
use Rattle.std.specs.Prelude.{◌≡◌, ◌↔◌, ℕ, ◌+◌, ◌-◌, ◌*◌, ◌<◌, ◌≤◌, List, length, true, Some, Ok, slice_get}
use Rattle.std.specs.List.{list_all}
use Rattle.hw_model.specs.declared.limits.TheConstants.{MOST_PLAIN_FLEET}
use Rattle.hw_model.specs.Problem.{Problem, value_at}
use Rattle.hw_model.specs.Limits.{IsFlat}
use Rattle.hw_model.specs.Timetables.{Permits, cargo, IsBest, NonePermitted}
use Rattle.hw_flat.specs.TextWritten.{IsWritable}
use Rattle.hw_repair.specs.declared.plan.Wish.{Wish}
use Rattle.hw_repair.specs.Wishes.{PlanParts, PlanFits, PermitsPlan, moved}
use Rattle.hw_repair.specs.Text.{rule_has_tugs, plan_text}
use Rattle.hw_repair.specs.Written.{written_plan}
use Rattle.hw_repair.specs.Repaired.{repaired_value, repaired, own_cargo, own_moved, MeetsPlanWith, IsBestRepair, NoRepair}

-- the value of a ship in a slot, by the ship's wish and the problem's value there
abbrev pub RepairedValue : Type 0
RepairedValue = (f : Problem) (plan : PlanParts) (ship slot : ℕ) (wish : Wish) → length plan.wishes ≡ f.ships → slice_get plan.wishes ship ≡ Some wish → slot < f.slots → value_at (repaired f plan) ship slot ≡ repaired_value f.ships wish slot (value_at f ship slot)

-- the problem of a repair keeps the limits of a flat problem
abbrev pub RepairedFits : Type 0
RepairedFits = (f : Problem) (plan : PlanParts) → IsFlat f → IsWritable f → PlanFits f plan → IsFlat (repaired f plan)

-- the problem of a repair permits exactly the timetables that meet the plan
abbrev pub RepairedPermits : Type 0
RepairedPermits = (f : Problem) (plan : PlanParts) (table : List ℕ) → PlanFits f plan → (Permits (repaired f plan) table ↔ PermitsPlan f plan table)

-- what a timetable that meets the plan carries by the repair's problem: its cargo times one more than the number of ships, and 1 for each ship that isn't moved
pub record CarriesRepaired (f : Problem) (plan : PlanParts) (table : List ℕ) (c : ℕ) : Type 0 where
  pub few : moved plan table ≤ f.ships
  pub carries : cargo (repaired f plan) table ≡ Some ((f.ships + 1) * c + f.ships - moved plan table)

abbrev pub RepairedCargo : Type 0
RepairedCargo = (f : Problem) (plan : PlanParts) (table : List ℕ) (c : ℕ) → PlanFits f plan → PermitsPlan f plan table → cargo f table ≡ Some c → CarriesRepaired f plan table c

-- a timetable that the repair's problem permits meets the plan, with the cargo and the moved ships for which its cargo there stands
abbrev pub RepairedMeets : Type 0
RepairedMeets = (f : Problem) (plan : PlanParts) (table : List ℕ) (d : ℕ) → PlanFits f plan → Permits (repaired f plan) table → cargo (repaired f plan) table ≡ Some d
    → MeetsPlanWith f plan table (own_cargo f.ships d) (own_moved f.ships d)

-- a best timetable of the repair's problem is a best repair, with the cargo and the moved ships for which its cargo there stands; and the other way round
pub record BestBoth (f : Problem) (plan : PlanParts) (table : List ℕ) : Type 0 where
  pub is_repair : (d : ℕ) → IsBest (repaired f plan) table d → IsBestRepair f plan table (own_cargo f.ships d) × (moved plan table ≡ own_moved f.ships d)
  pub is_best : (c : ℕ) → IsBestRepair f plan table c → IsBest (repaired f plan) table ((f.ships + 1) * c + f.ships - moved plan table)

abbrev pub BestRepair : Type 0
BestRepair = (f : Problem) (plan : PlanParts) (table : List ℕ) → PlanFits f plan → BestBoth f plan table

-- a plan that fits, with no more tugs withdrawn than each rule on tugs has in some slot, and no more than 1000, is what its written text says
abbrev pub WrittenReads : Type 0
WrittenReads = (f : Problem) (plan : PlanParts) → IsFlat f → PlanFits f plan → plan.withdrawn ≤ MOST_PLAIN_FLEET → list_all (rule_has_tugs plan.withdrawn) f.rules ≡ true → plan_text f (written_plan plan) ≡ Ok plan

-- none is permitted by the repair's problem exactly where none meets the plan
abbrev pub NoneRepair : Type 0
NoneRepair = (f : Problem) (plan : PlanParts) → PlanFits f plan → (NonePermitted (repaired f plan) ↔ NoRepair f plan)
