-- The grid over the plot: marks on its axis, and lines down the picture.
use Rattle.std.specs.Prelude.{ℕ, ◌+◌, ◌*◌, ◌/◌, ◌%◌, zero, suc, Bool, ◌&&◌, nat_eq, nat_lt, nat_le, if◌then◌else◌, List, [], ◌∷◌, ◌++◌, codes, decimal, find, unwrap_or}
use Rattle.std.specs.Int.{div_ceil}
use Rattle.std.specs.List.{concat}
use Rattle.hw_chart_svg.specs.Lettering.{line}
use Rattle.hw_chart_svg.specs.Numbers.{clock}
use Rattle.hw_chart_svg.specs.Shapes.{shape}
use Rattle.hw_chart.specs.declared.grid.TheConstants.{MINUTES, SLOTS}
use Rattle.hw_chart.specs.declared.grid.Axis.{Axis}
use Rattle.hw_chart.specs.declared.grid.Scale.{Scale}
use Rattle.hw_chart.specs.declared.grid.Scale.TheVariants.{Minutes, Slots}
use Rattle.hw_chart.specs.Layout.{plot_place}

-- how much an axis over this many slots counts
abbrev pub total_of : Scale → ℕ → ℕ
total_of (Minutes minutes) span = span * minutes
total_of Slots span = span

-- the first step by which at most twelve marks stand on an axis
abbrev pub step_among : List ℕ → ℕ → ℕ
step_among steps total = unwrap_or (find (λ step. nat_le total (12 * step)) steps) 1

abbrev pub step_of : Scale → ℕ → ℕ
step_of (Minutes minutes) total = step_among MINUTES total
step_of Slots total = step_among SLOTS total

abbrev pub axis_of : Scale → ℕ → ℕ → Axis
axis_of scale span bottom = record { scale = scale; total = total_of scale span; step = step_of scale (total_of scale span); bottom = bottom }

abbrev pub line_path : Axis → ℕ → List ℕ
line_path a at = concat (codes "M" ∷ decimal (plot_place at a.total) ∷ codes " 120V" ∷ decimal (a.bottom + 4) ∷ [])

-- the lines at this many marks from this one on
abbrev pub line_paths : Axis → ℕ → ℕ → List ℕ
line_paths a i zero = []
line_paths a i (suc more) = line_path a (i * a.step) ++ line_paths a (i + 1) more

-- a line at each mark below the total
abbrev pub axis_lines : Axis → List ℕ
axis_lines a = shape (codes "ln") (line_paths a 0 (div_ceil a.total a.step))

-- a mark of whole days
abbrev pub is_day_mark : ℕ → Bool
is_day_mark at = nat_lt 0 at && nat_eq (at % 1440) 0

abbrev pub axis_mark_class : Scale → ℕ → List ℕ
axis_mark_class (Minutes minutes) at = if is_day_mark at then codes "b c" else codes "m c"
axis_mark_class Slots at = codes "m c"

-- whole days, a time of a day, or a slot
abbrev pub mark_text : Scale → ℕ → List ℕ
mark_text (Minutes minutes) at = if is_day_mark at then decimal (at / 1440) ++ codes "d" else clock (at % 1440)
mark_text Slots at = decimal at

-- a mark stands above the plot and below it
abbrev pub mark : Axis → ℕ → List ℕ
mark a at = line (axis_mark_class a.scale at) (plot_place at a.total) 116 (mark_text a.scale at) ++ line (axis_mark_class a.scale at) (plot_place at a.total) (a.bottom + 16) (mark_text a.scale at)

abbrev pub marks : Axis → ℕ → ℕ → List ℕ
marks a i zero = []
marks a i (suc more) = mark a (i * a.step) ++ marks a (i + 1) more

abbrev pub caption_text : Scale → List ℕ
caption_text (Minutes minutes) = codes "hours from slot 0"
caption_text Slots = codes "slot"

abbrev pub axis_text : Axis → List ℕ
axis_text a = concat (line (codes "m") 16 116 (caption_text a.scale) ∷ axis_lines a ∷ marks a 0 (div_ceil a.total a.step) ∷ [])

abbrev pub grid : Scale → ℕ → ℕ → List ℕ
grid scale span bottom = axis_text (axis_of scale span bottom)

-- a line at the end of the slots in which ships sail, where the picture goes on beyond it
abbrev pub span_end : ℕ → ℕ → ℕ → List ℕ
span_end slots span bottom = if nat_lt slots span then shape (codes "hz") (concat (codes "M" ∷ decimal (plot_place slots span) ∷ codes " 120V" ∷ decimal (bottom + 4) ∷ [])) else []
