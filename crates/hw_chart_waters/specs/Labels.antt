-- The times and heights of high and low waters, where there is room for them on the plot.
use Rattle.std.specs.Prelude.{ℕ, ◌+◌, ◌-◌, ◌*◌, ◌/◌, max, min, Bool, nat_le, List, [], ◌∷◌, ◌++◌, codes, Option, Some, None, if◌then◌else◌}
use Rattle.std.specs.Int.{div_ceil}
use Rattle.std.specs.List.{concat}
use Rattle.hw_chart_svg.specs.Lettering.{line}
use Rattle.hw_chart_svg.specs.Numbers.{clock, height_text}
use Rattle.hw_chart_svg.specs.Widths.{small_width}
use Rattle.hw_chart.specs.Layout.{plot_place}
use Rattle.hw_chart_waters.specs.declared.label.Label.{Label}
use Rattle.hw_chart_waters.specs.declared.stand.Stand.{Stand}
use Rattle.hw_chart_waters.specs.declared.stand.WaterKind.{WaterKind}
use Rattle.hw_chart_waters.specs.Columns.{ColumnParts, column_height}
use Rattle.hw_chart_waters.specs.Stands.{stands}

-- the middle of the first row and the last one, in minutes from midnight
abbrev pub stand_time : ColumnParts → Stand → ℕ
stand_time c s = (s.first + s.end - 1) * c.minutes / 2 + c.midnight

-- the time and the height
unfoldable pub water_words : ℕ → List ℕ → List ℕ
water_words time height = concat (clock time ∷ codes " " ∷ height ∷ [])

abbrev pub stand_text : ColumnParts → Stand → List ℕ
stand_text c s = water_words (stand_time c s) (height_text (column_height c s.first))

-- half of that, rounded up
abbrev pub stand_half : ColumnParts → Stand → ℕ
stand_half c s = div_ceil (small_width (stand_text c s)) 2

-- at this place, or at the nearest one at which a label of this half width lies on the plot
abbrev pub moved_inside : ℕ → ℕ → ℕ
moved_inside half x = max (172 + half) (min (892 - half) x)

-- a label stands over the middle of its rows, or as near as it lies on the plot
abbrev pub label_of : ColumnParts → Stand → Label
label_of c s = record { middle = moved_inside (stand_half c s) (plot_place (s.first + s.end) (2 * c.span)); half = stand_half c s }

-- it begins no earlier than where the line is free
abbrev pub fits_from : ℕ → Label → Bool
fits_from free l = nat_le (free + l.half) l.middle

-- the line is free again six units after its end
abbrev pub after_label : Label → ℕ
after_label l = l.middle + l.half + 6

-- the stands, from left to right, whose labels find the line free
abbrev pub with_room : ColumnParts → ℕ → List Stand → List Stand
with_room c free [] = []
with_room c free (s ∷ more) = if fits_from free (label_of c s) then s ∷ with_room c (after_label (label_of c s)) more else with_room c free more

-- a label, in a line of text at y
abbrev pub water_label : ColumnParts → ℕ → Stand → List ℕ
water_label c y s = line (codes "m c") (label_of c s).middle y (stand_text c s)

abbrev pub water_labels : ColumnParts → ℕ → List Stand → List ℕ
water_labels c y [] = []
water_labels c y (s ∷ more) = water_label c y s ++ water_labels c y more

-- the stands that are named in a line: the plot begins at 172
abbrev pub named_stands : ColumnParts → WaterKind → List Stand
named_stands c kind = with_room c 172 (stands kind (column_height c) c.rows)

abbrev pub waters_text : ColumnParts → WaterKind → ℕ → List ℕ
waters_text c kind y = water_labels c y (named_stands c kind)

-- ---- one stand after another

-- the label of a stand, where the line is free for it
abbrev pub label_where : ColumnParts → ℕ → ℕ → Stand → List ℕ
label_where c y free s = if fits_from free (label_of c s) then water_label c y s else []

abbrev pub free_after : ColumnParts → ℕ → Stand → ℕ
free_after c free s = if fits_from free (label_of c s) then after_label (label_of c s) else free

-- the same where there is a stand
abbrev pub label_of_some : ColumnParts → ℕ → ℕ → Option Stand → List ℕ
label_of_some c y free None = []
label_of_some c y free (Some s) = label_where c y free s

abbrev pub free_after_some : ColumnParts → ℕ → Option Stand → ℕ
free_after_some c free None = free
free_after_some c free (Some s) = free_after c free s
