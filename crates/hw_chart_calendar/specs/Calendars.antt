-- The grid over a plot whose first slot begins at a date and time: marks where a day begins and at times of the day.
use Rattle.std.specs.Prelude.{ℕ, ◌+◌, ◌-◌, ◌*◌, ◌/◌, zero, suc, Bool, nat_eq, if◌then◌else◌, List, [], ◌∷◌, ◌++◌, codes, decimal}
use Rattle.std.specs.Int.{div_ceil}
use Rattle.std.specs.List.{concat}
use Rattle.hw_chart_svg.specs.Lettering.{line}
use Rattle.hw_chart_svg.specs.Names.{escaped}
use Rattle.hw_chart_svg.specs.Numbers.{clock}
use Rattle.hw_chart_svg.specs.Shapes.{shape}
use Rattle.hw_port_dates.specs.declared.date.Date.{Date}
use Rattle.hw_port_dates.specs.declared.moment.Moment.{Moment}
use Rattle.hw_port_dates.specs.Moments.{minute_of_day, moment_after}
use Rattle.hw_port_dates.specs.Texts.{month_name, weekday_name}
use Rattle.hw_chart.specs.declared.grid.Axis.{Axis}
use Rattle.hw_chart.specs.declared.grid.Scale.TheVariants.{Minutes}
use Rattle.hw_chart.specs.Grids.{line_path, step_of}
use Rattle.hw_chart.specs.Layout.{plot_place}

-- the minutes from midnight to a start
abbrev pub midnight : List ℕ → ℕ
midnight start = minute_of_day (moment_after start 0)

-- an axis of minutes: a date is wider than a time, so that its step is that of an axis half as long again
abbrev pub dated_axis : ℕ → ℕ → ℕ → Axis
dated_axis minutes span bottom = record { scale = Minutes minutes; total = span * minutes; step = step_of (Minutes minutes) (span * minutes + span * minutes / 2); bottom = bottom }

-- marks are counted from midnight: the first one from the start on, and the first one from the end on
abbrev pub first_mark : List ℕ → Axis → ℕ
first_mark start a = div_ceil (midnight start) a.step

abbrev pub end_mark : List ℕ → Axis → ℕ
end_mark start a = div_ceil (midnight start + a.total) a.step

-- how many minutes after the start a mark stands
abbrev pub mark_at : List ℕ → Axis → ℕ → ℕ
mark_at start a i = i * a.step - midnight start

abbrev pub day_begins : Moment → Bool
day_begins m = nat_eq (minute_of_day m) 0

abbrev pub day_words : Date → List ℕ
day_words d = concat (escaped (weekday_name d) ∷ codes " " ∷ decimal d.day ∷ codes " " ∷ escaped (month_name d) ∷ [])

-- the day where it begins, otherwise the time of the day
abbrev pub moment_words : Moment → List ℕ
moment_words m = if day_begins m then day_words m.date else clock (minute_of_day m)

abbrev pub moment_class : Moment → List ℕ
moment_class m = if day_begins m then codes "b c" else codes "m c"

-- a mark stands above the plot and below it
abbrev pub moment_mark : Axis → ℕ → Moment → List ℕ
moment_mark a at m = line (moment_class m) (plot_place at a.total) 116 (moment_words m) ++ line (moment_class m) (plot_place at a.total) (a.bottom + 16) (moment_words m)

abbrev pub dated_mark : List ℕ → Axis → ℕ → List ℕ
dated_mark start a at = moment_mark a at (moment_after start at)

-- this many marks from this one on
abbrev pub dated_marks : List ℕ → Axis → ℕ → ℕ → List ℕ
dated_marks start a i zero = []
dated_marks start a i (suc more) = dated_mark start a (mark_at start a i) ++ dated_marks start a (i + 1) more

-- the lines at them
abbrev pub dated_lines : List ℕ → Axis → ℕ → ℕ → List ℕ
dated_lines start a i zero = []
dated_lines start a i (suc more) = line_path a (mark_at start a i) ++ dated_lines start a (i + 1) more

abbrev pub all_lines : List ℕ → Axis → List ℕ
all_lines start a = dated_lines start a (first_mark start a) (end_mark start a - first_mark start a)

abbrev pub all_marks : List ℕ → Axis → List ℕ
all_marks start a = dated_marks start a (first_mark start a) (end_mark start a - first_mark start a)

abbrev pub caption : List ℕ → List ℕ
caption start = line (codes "m") 16 116 (escaped start)

abbrev pub dated_axis_text : List ℕ → Axis → List ℕ
dated_axis_text start a = concat (caption start ∷ shape (codes "ln") (all_lines start a) ∷ all_marks start a ∷ [])

-- the grid over this many slots of some minutes, the first of which begins at a start
abbrev pub dated_grid : List ℕ → ℕ → ℕ → ℕ → List ℕ
dated_grid start minutes span bottom = dated_axis_text start (dated_axis minutes span bottom)
