-- The slots to which a ship alone could move.
use Rattle.std.specs.Prelude.{◌≡◌, ◌↔◌, ◌<◌, ◌+◌, ◌*◌, ℕ, Bool, true, false, is_none, if◌then◌else◌, List, length, slice_index_or, slice_set}
use Rattle.hw_model.specs.declared.limits.TheConstants.{MOST_SLOTS}
use Rattle.hw_model.specs.Problem.{Problem, IsTimetable, horizon}
use Rattle.hw_model.specs.Timetables.{Permits, first_broken}

-- the timetable with another slot for one ship; all other ships stay where they are
abbrev pub with_move : List ℕ → ℕ → ℕ → List ℕ
with_move table ship slot = slice_set table ship slot

-- no restriction is broken with this slot for the ship
abbrev pub move_is_open : Problem → List ℕ → ℕ → ℕ → Bool
move_is_open f table ship slot = is_none (first_broken f (with_move table ship slot))

-- the top of a window one unit tall where the slot is open, and otherwise its foot
abbrev pub flat_open_level : Problem → List ℕ → ℕ → ℕ → ℕ
flat_open_level f table ship slot = if move_is_open f table ship slot then 0 else 1

-- where the flag of a ship and a slot stands among all flags
abbrev pub flag_place : ℕ → ℕ → ℕ
flag_place ship slot = ship * MOST_SLOTS + slot

-- a flag is set exactly where the problem permits the timetable with that slot for the ship
abbrev pub TellsPermittedMove : Problem → List ℕ → ℕ → ℕ → Bool → Type 0
TellsPermittedMove f table ship slot flag = (flag ≡ true) ↔ Permits f (with_move table ship slot)

-- the flag at a place tells that of the ship and the slot whose place it is
abbrev pub TellsAt : Problem → List ℕ → ℕ → Bool → Type 0
TellsAt f table place flag = (ship slot : ℕ) → place ≡ flag_place ship slot → ship < f.ships → slot < horizon f → TellsPermittedMove f table ship slot flag

-- and so does each of all flags
abbrev pub TellAll : Problem → List ℕ → List Bool → Type 0
TellAll f table flags = (ship slot : ℕ) → ship < f.ships → slot < horizon f → TellsPermittedMove f table ship slot (slice_index_or flags (flag_place ship slot) false)

-- a timetable, and a flag for each ship and slot
pub record PlanModel : Type 0 where
  pub table : List ℕ
  pub flags : List Bool

-- each flag tells whether the problem permits the timetable with that slot for the ship
pub record IsPlan (f : Problem) (plan : PlanModel) : Type 0 where
  pub listed : IsTimetable f plan.table
  pub each_flag : length plan.flags ≡ 20_480
  pub flagged : TellAll f plan.table plan.flags

-- a level is 0 exactly where the problem permits the timetable with that slot for the ship
abbrev pub FlatMovesArePermitted : Type 0
FlatMovesArePermitted = (f : Problem) (table : List ℕ) (ship slot : ℕ) → IsTimetable f table → slot < f.slots → (flat_open_level f table ship slot ≡ 0) ↔ Permits f (with_move table ship slot)
