-- Plans: the tugs withdrawn, what each wish says, which timetables meet a plan, and how many ships they move.
use Rattle.std.specs.Prelude.{◌≡◌, ◌==◌, ℕ, ◌+◌, ◌*◌, ◌<◌, ◌≤◌, Bool, not, nat_le, List, length, All, count_by, zip, unwrap_or, slice_get, slice_index, IfSome}
use Rattle.hw_model.specs.declared.limits.TheConstants.{MOST_VALUE}
use Rattle.hw_model.specs.Problem.{Problem}
use Rattle.hw_model.specs.Timetables.{Permits}
use Rattle.hw_plan_texts.specs.Fleets.{lessened}
use Rattle.hw_repair.specs.declared.plan.Wish.{Wish}
use Rattle.hw_repair.specs.declared.plan.Wish.TheVariants.{Kept, Planned}

-- the slot in which the ship has sailed, or for which it was planned
abbrev pub wished : Wish → ℕ
wished (Kept slot) = slot
wished (Planned slot from) = slot

-- the slot is the one kept, or from the earliest one on
abbrev pub Grants : Wish → ℕ → Type 0
Grants (Kept kept) slot = slot ≡ kept
Grants (Planned planned from) slot = from ≤ slot

-- the same as a test
abbrev pub grants : Wish → ℕ → Bool
grants (Kept kept) slot = slot == kept
grants (Planned planned from) slot = nat_le from slot

-- the wish names slots that the problem has
abbrev pub WishFits : ℕ → Wish → Type 0
WishFits slots (Kept kept) = kept < slots
WishFits slots (Planned planned from) = (planned < slots) × (from < slots)

-- the value can be repaired: the most that it can become is within the limit of a value
abbrev pub IsRepairable : ℕ → ℕ → Type 0
IsRepairable ships value = value * (ships + 1) + 1 ≤ MOST_VALUE

-- a plan: how many tugs of the fleet are withdrawn, and a wish for each ship
pub record PlanParts : Type 0 where
  pub withdrawn : ℕ
  pub wishes : List Wish

-- a wish for each ship, with slots of the problem, and all values can be repaired
pub record PlanFits (f : Problem) (plan : PlanParts) : Type 0 where
  pub each_ship : length plan.wishes ≡ f.ships
  pub each_wish : All (WishFits f.slots) plan.wishes
  pub each_value : All (λ value. IsRepairable f.ships (unwrap_or value 0)) f.values

-- permitted with the tugs that are left, and each ship has its kept slot or a slot from its earliest one on
pub record PermitsPlan (f : Problem) (plan : PlanParts) (table : List ℕ) : Type 0 where
  pub permitted : Permits (lessened plan.withdrawn f) table
  pub granted : (ship : ℕ) → IfSome (slice_get plan.wishes ship) (λ wish. Grants wish (slice_index table ship))

-- the ship has another slot than its wish's
abbrev pub moves_from_wish : Wish × ℕ → Bool
moves_from_wish given = not (given.1 == wished given.0)

-- how many ships have another slot than their wish's
abbrev pub moved : PlanParts → List ℕ → ℕ
moved plan table = count_by moves_from_wish (zip plan.wishes table)
