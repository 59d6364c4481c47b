-- A sailing in numbers.
use Rattle.std.specs.Prelude.{ℕ, pos, Option, Some, None}
use Rattle.hw_port_model.specs.Numbers.{whole}
use Rattle.hw_draft.specs.declared.passage.Passage.{Passage}
use Rattle.hw_draft.specs.Passages.{limiting, under_keel}
use Rattle.hw_chart_port.specs.declared.sailing.Control.{Control}
use Rattle.hw_chart_port.specs.declared.sailing.Sailing.{Sailing}
use Rattle.hw_chart_port.specs.Charts.{ChartParts, allowed_in, cargo_in, draft_in, minutes_to}

-- what the pass that limits a draft shows of a ship of this draft: its waypoint, and the water under the keel and the clearance there
abbrev pub control_by : Option Passage → ℕ → Control
control_by None draft = record { by = 0; keel = 0; clearance = 0 }
control_by (Some m) draft = record { by = m.waypoint; keel = whole (under_keel m (pos draft)); clearance = whole m.clearance }

-- what decides the allowed draft of a ship
abbrev pub deciding : ChartParts → ℕ → ℕ → Control
deciding chart v slot = control_by (limiting chart.port chart.tide v slot) (draft_in chart v slot)

-- what a ship that sails in a slot shows: when, with which draft, how deep it might be and by which pass, and its cargo
abbrev pub sailing_of : ChartParts → ℕ → ℕ → Sailing
sailing_of chart v slot = record {
  slot = slot;
  time = minutes_to chart slot;
  draft = draft_in chart v slot;
  allowed = whole (allowed_in chart v slot);
  by = (deciding chart v slot).by;
  keel = (deciding chart v slot).keel;
  clearance = (deciding chart v slot).clearance;
  cargo = cargo_in chart v slot;
}
