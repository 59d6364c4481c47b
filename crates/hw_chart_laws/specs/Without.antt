-- Ships that have no slot, and what is said of them.
use Rattle.std.specs.Prelude.{◌≡◌, ◌↔◌, ◌≤◌, ℕ, true}
use Rattle.hw_port.specs.Kept.{ShipKept}
use Rattle.hw_port.specs.Parts.{ShipParts}
use Rattle.hw_port_model.specs.Numbers.{whole}
use Rattle.hw_port_windows.specs.Statuses.{status_in}
use Rattle.hw_chart_port.specs.declared.reasons.Reason.{Reason}
use Rattle.hw_chart_port.specs.Charts.{ChartParts}
use Rattle.hw_chart_port.specs.Reasons.{has_no_slot, is_reason, keeps_in}

-- a slot for which the ship asks, against which `windows` tells this reason
pub record KeepsFrom (chart : ChartParts) (v : ℕ) (s : ShipParts) (reason : Reason) (slot : ℕ) : Type 0 where
  pub from : whole s.earliest ≤ slot
  pub to : slot ≤ whole s.latest
  pub told : is_reason reason (status_in chart.port chart.tide v slot) ≡ true

-- where a ship has no slot, a reason is named exactly if it is that against one of the slots for which the ship asks
abbrev pub ReasonsAreTold : Type 0
ReasonsAreTold = (chart : ChartParts) (v : ℕ) (s : ShipParts) (reason : Reason) → ShipKept chart.port s → has_no_slot chart v ≡ true → (keeps_in chart v s reason ≡ true) ↔ ((slot : ℕ) × KeepsFrom chart v s reason slot)
