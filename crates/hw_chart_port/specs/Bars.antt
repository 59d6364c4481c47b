-- The bars of a sailing: when its berth isn't clear yet, when it stays after another ship, when it is under way, and when it holds
-- its tugs.
use Rattle.std.specs.Prelude.{ℕ, ◌+◌, List, [], ◌∷◌, ◌++◌, codes, nat_eq, nat_lt, if◌then◌else◌}
use Rattle.std.specs.List.{concat}
use Rattle.hw_chart_svg.specs.Sheets.{svg_end}
use Rattle.hw_port.specs.declared.parts.BerthPair.{BerthPair}
use Rattle.hw_port.specs.Parts.{ShipParts}
use Rattle.hw_port_model.specs.Numbers.{whole, hold_of}
use Rattle.hw_chart.specs.Rows.{bar, bars_begin}
use Rattle.hw_chart_port.specs.Charts.{ChartParts, slot_in_chart, way}
use Rattle.hw_draft.specs.LastPasses.{last_pass}
use Rattle.hw_chart_port.specs.Stays.{stays_of}

-- from the sailing of the outgoing ship until the berth is clear
abbrev pub clearing : ChartParts → BerthPair → List ℕ
clearing chart b = bar (codes "be") (slot_in_chart chart (whole b.outgoing)) (slot_in_chart chart (whole b.outgoing) + whole b.clear) 0

abbrev pub clearing_for : ChartParts → ℕ → BerthPair → List ℕ
clearing_for chart v b = if nat_eq (whole b.incoming) v then clearing chart b else []

-- the berth pairs in which this ship is the incoming one
abbrev pub clearings : ChartParts → ℕ → List BerthPair → List ℕ
clearings chart v [] = []
clearings chart v (b ∷ more) = clearing_for chart v b ++ clearings chart v more

-- from sailing to the last pass
abbrev pub voyage : ShipParts → ℕ → List ℕ
voyage s slot = bar (way s) slot (slot + (last_pass s.route).offset + 1) 0

-- the job of the tugs, and then their turnaround
abbrev pub tug_bars : ChartParts → ShipParts → ℕ → List ℕ
tug_bars chart s slot = bar (codes "tu") slot (slot + whole s.job) 1 ++ bar (codes "ba") (slot + whole s.job) (slot + hold_of chart.port s) 1

-- where the ship has tugs
abbrev pub tugs_where : ChartParts → ShipParts → ℕ → List ℕ
tugs_where chart s slot = if nat_lt 0 (whole s.tugs) then tug_bars chart s slot else []

abbrev pub bars : ChartParts → ℕ → ShipParts → ℕ → ℕ → List ℕ
bars chart v s slot y = concat (bars_begin y chart.span ∷ clearings chart v chart.port.berths ∷ stays_of chart v chart.port.after ∷ voyage s slot ∷ tugs_where chart s slot ∷ svg_end ∷ [])
