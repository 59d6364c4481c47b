-- What the marks say, in the words of plans.
use Rattle.std.specs.Prelude.{◌≡◌, ◌≢◌, ◌↔◌, ◌<◌, ℕ, Some}
use Rattle.hw_model.specs.Problem.{Problem, horizon}
use Rattle.hw_repair.specs.Wishes.{Grants, wished}
use Rattle.hw_repair.specs.declared.plan.Wish.{Wish}
use Rattle.hw_repair.specs.declared.plan.Wish.TheVariants.{Kept, Planned}
use Rattle.hw_chart_repair.specs.Marks.{ghost_slot, hatch_end, sailed_slot}

-- a ghost stands in this slot
pub record IsGhost (f : Problem) (wish : Wish) (slot old : ℕ) : Type 0 where
  pub moved : slot ≢ wished wish
  pub planned : old ≡ wished wish
  pub sails : old < horizon f

-- just where the ship was planned for it, and has another slot now
abbrev pub GhostsAreMoved : Type 0
GhostsAreMoved = (f : Problem) (wish : Wish) (slot old : ℕ) → (ghost_slot f wish slot ≡ Some old ↔ IsGhost f wish slot old)

-- a ship is marked as one that has sailed in this slot
pub record HasSailed (f : Problem) (wish : Wish) (slot marked : ℕ) : Type 0 where
  pub kept : wish ≡ Kept marked
  pub own : slot ≡ marked
  pub sails : marked < horizon f

-- just where the plan keeps it there, and it sails
abbrev pub MarkedHaveSailed : Type 0
MarkedHaveSailed = (f : Problem) (wish : Wish) (slot marked : ℕ) → (sailed_slot f wish slot ≡ Some marked ↔ HasSailed f wish slot marked)

-- of a ship that hasn't sailed just the slots that the plan doesn't leave it are striped, and of one that has none
pub record HatchedIsNotGranted : Type 0 where
  pub planned : (slot from k : ℕ) → (k < hatch_end (Planned slot from) ↔ (Grants (Planned slot from) k → ⊥))
  pub kept : (slot : ℕ) → hatch_end (Kept slot) ≡ 0
