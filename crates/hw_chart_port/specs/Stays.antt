-- How long a ship stays in port that sails after another one: from the slot of that one to its own.
use Rattle.std.specs.Prelude.{ℕ, ◌+◌, ◌-◌, ◌*◌, List, [], ◌∷◌, ◌++◌, codes, nat_eq, slice_get, if◌then◌else◌}
use Rattle.std.specs.Option.{option_map_or}
use Rattle.std.specs.List.{concat}
use Rattle.hw_chart_svg.specs.Names.{escaped}
use Rattle.hw_chart_svg.specs.Numbers.{clock}
use Rattle.hw_chart_svg.specs.Shapes.{titled}
use Rattle.hw_port.specs.declared.parts.AfterPair.{AfterPair}
use Rattle.hw_port_model.specs.Numbers.{whole}
use Rattle.hw_chart.specs.Rows.{bar}
use Rattle.hw_chart_port.specs.declared.stays.Wait.{Wait}
use Rattle.hw_chart_port.specs.Charts.{ChartParts, slot_in_chart}

-- the name of a ship
abbrev pub chart_ship_name : ChartParts → ℕ → List ℕ
chart_ship_name chart place = option_map_or (λ s. s.name) (slice_get chart.port.ships place) []

-- from the slot of the first ship to that of the second, which may sail once the gap is over; and both times in minutes
abbrev pub wait_of : ChartParts → AfterPair → Wait
wait_of chart a = record {
  from = slot_in_chart chart (whole a.first);
  until = slot_in_chart chart (whole a.second);
  free = slot_in_chart chart (whole a.first) + whole a.gap;
  waited = (slot_in_chart chart (whole a.second) - slot_in_chart chart (whole a.first)) * whole chart.port.slot_minutes;
  least = whole a.gap * whole chart.port.slot_minutes;
}

unfoldable pub wait_title : List ℕ → List ℕ → Wait → List ℕ
wait_title second first wait = concat (escaped second ∷ codes " after " ∷ escaped first ∷ codes ": " ∷ clock wait.waited ∷ codes ", at least " ∷ clock wait.least ∷ [])

-- the whole stay, and over it the time that the ship must wait
abbrev pub wait_bars : List ℕ → List ℕ → Wait → List ℕ
wait_bars second first wait = titled (codes "wi") (record { left = wait.from; right = wait.until; top = 0; bottom = 1 }) (wait_title second first wait) ++ bar (codes "be") wait.from wait.free 0

abbrev pub stay : ChartParts → AfterPair → List ℕ
stay chart a = wait_bars (chart_ship_name chart (whole a.second)) (chart_ship_name chart (whole a.first)) (wait_of chart a)

abbrev pub stay_for : ChartParts → ℕ → AfterPair → List ℕ
stay_for chart v a = if nat_eq (whole a.second) v then stay chart a else []

-- the pairs in which this ship is the second one
abbrev pub stays_of : ChartParts → ℕ → List AfterPair → List ℕ
stays_of chart v [] = []
stays_of chart v (a ∷ more) = stay_for chart v a ++ stays_of chart v more
