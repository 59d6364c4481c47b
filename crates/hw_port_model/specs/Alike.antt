-- When a flat problem says the same as a port.
use Rattle.std.specs.Prelude.{◌≡◌, ◌↔◌, ℕ, List, Some}
use Rattle.hw_model.specs.Problem.{Problem}
use Rattle.hw_model.specs.Timetables.{Permits, cargo}
use Rattle.hw_port.specs.Whole.{Parts}
use Rattle.hw_tide.specs.Levels.{TideParts}
use Rattle.hw_port_model.specs.Permitted.{PortPermits, port_cargo}

-- of every list of slots: the problem permits it exactly where the port does, and then it carries the same by both
pub record IsSameProblem (p : Parts) (h : TideParts) (f : Problem) : Type 0 where
  pub permitted : (table : List ℕ) → (PortPermits p h table ↔ Permits f table)
  pub carries : (table : List ℕ) → PortPermits p h table → (c : ℕ) × (port_cargo p h table ≡ Some c) × (cargo f table ≡ Some c)
