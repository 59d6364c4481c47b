-- The slots of a ship's window that are closed for it, hatched in its row.
use Rattle.std.specs.Prelude.{ℕ, zero, suc, ◌+◌, ◌-◌, Bool, not, ◌&&◌, nat_lt, List, [], ◌∷◌, ◌++◌, codes, decimal, if◌then◌else◌}
use Rattle.std.specs.List.{concat}
use Rattle.hw_chart_svg.specs.Numbers.{clock}
use Rattle.hw_chart_svg.specs.Shapes.{titled}
use Rattle.hw_port_windows.specs.Closings.{closed_in}
use Rattle.hw_chart.specs.declared.row.Sailings.{Sailings}
use Rattle.hw_chart.specs.Layout.{plot_place}
use Rattle.hw_chart_port.specs.Charts.{ChartParts, minutes_to}

-- where the closed slots end that follow one another from this one on, among this many
abbrev pub run_end : (ℕ → Bool) → ℕ → ℕ → ℕ
run_end shut slot zero = slot
run_end shut slot (suc more) = if shut slot then run_end shut (slot + 1) more else slot

-- a slot is closed, and the one before it isn't, or comes before the first
abbrev pub run_begins : (ℕ → Bool) → ℕ → ℕ → Bool
run_begins shut first slot = shut slot && not (nat_lt first slot && shut (slot - 1))

unfoldable pub closing_title : ChartParts → ℕ → ℕ → List ℕ
closing_title chart from end = concat (codes "closed in slots " ∷ decimal from ∷ codes " to " ∷ decimal (end - 1) ∷ codes ", " ∷ clock (minutes_to chart from) ∷ codes " to " ∷ clock (minutes_to chart end) ∷ [])

-- slots up to the end, hatched; on the picture itself, since a window would stretch the hatch
abbrev pub hatched : ChartParts → ℕ → ℕ → ℕ → List ℕ
hatched chart y from end = titled (codes "ha") (record { left = plot_place from chart.span; right = plot_place end chart.span; top = y + 3; bottom = y + 24 }) (closing_title chart from end)

-- the closed slots that begin with this one
abbrev pub closing_at : ChartParts → ℕ → Sailings → ℕ → List ℕ
closing_at chart v window slot = if run_begins (closed_in chart.port v) window.first slot then hatched chart window.y slot (run_end (closed_in chart.port v) slot (window.end - slot)) else []

abbrev pub closings_from : ChartParts → ℕ → Sailings → ℕ → ℕ → List ℕ
closings_from chart v window slot zero = []
closings_from chart v window slot (suc more) = closing_at chart v window slot ++ closings_from chart v window (slot + 1) more

-- the longest runs of closed slots in a ship's window
abbrev pub closings : ChartParts → ℕ → Sailings → List ℕ
closings chart v window = closings_from chart v window window.first (window.end - window.first)
