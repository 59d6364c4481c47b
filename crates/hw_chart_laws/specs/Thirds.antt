-- What the hatches of a port's picture say, and what the bars of stays do.
use Rattle.std.specs.Prelude.{◌≡◌, ◌↔◌, ◌<◌, ◌≤◌, ◌-◌, ℕ, Bool, true, List, Some, Contains}
use Rattle.hw_port.specs.declared.parts.AfterPair.{AfterPair}
use Rattle.hw_port.specs.Whole.{Parts}
use Rattle.hw_tide.specs.Levels.{TideParts}
use Rattle.hw_port_model.specs.Numbers.{horizon_of}
use Rattle.hw_port_model.specs.Permitted.{PortPermits}
use Rattle.hw_port_model.specs.Timetables.{slot_of}
use Rattle.hw_chart_port.specs.declared.stays.Wait.{Wait}
use Rattle.hw_chart_port.specs.Closings.{run_begins, run_end}
use Rattle.hw_chart_port.specs.Pictures.{chart_of}
use Rattle.hw_chart_port.specs.Stays.{wait_of}

-- a hatch that begins in a slot of a window reaches over another slot
pub record Hatches (shut : ℕ → Bool) (first end slot : ℕ) : Type 0 where
  pub from : ℕ
  pub inside : first ≤ from
  pub begins : run_begins shut first from ≡ true
  pub reached : from ≤ slot
  pub not_over : slot < run_end shut from (end - from)

-- a hatch reaches over a slot of a window exactly where that is closed
abbrev pub HatchesAreClosings : Type 0
HatchesAreClosings = (shut : ℕ → Bool) (first end slot : ℕ) → first ≤ slot → slot < end → (shut slot ≡ true) ↔ Hatches shut first end slot

-- the bar of the time that a ship must wait ends with that of its stay, or before, and the stay is at least as long in minutes
pub record IsWaited (wait : Wait) : Type 0 where
  pub within : wait.free ≤ wait.until
  pub long : wait.least ≤ wait.waited

-- where the port permits the timetable, each ship that sails after another one has waited
abbrev pub WaitsAreKept : Type 0
WaitsAreKept = (p : Parts) (h : TideParts) (table : List ℕ) (a : AfterPair) → PortPermits p h table → Contains p.after a → slot_of table a.second < horizon_of p → IsWaited (wait_of (chart_of p h (Some table)) a)
