-- What is drawn of kept restrictions, over a picture without a timetable.
use Rattle.std.specs.Prelude.{ℕ, ◌+◌, ◌*◌, ◌%◌, max, nat_lt, is_some, if◌then◌else◌, List, [], ◌∷◌, ◌++◌, None, codes, decimal, sum_by, zip}
use Rattle.std.specs.List.{concat}
use Rattle.hw_chart_svg.specs.Figures.{steps}
use Rattle.hw_chart_svg.specs.Names.{escaped}
use Rattle.hw_chart_svg.specs.Shapes.{block, shape}
use Rattle.hw_chart_svg.specs.Sheets.{group_end, item_begin, svg_end, title_end, window_begin}
use Rattle.hw_port.specs.Whole.{Parts}
use Rattle.hw_tide.specs.Levels.{TideParts}
use Rattle.hw_port_model.specs.Drafts.{value}
use Rattle.hw_port_model.specs.Numbers.{horizon_of, whole}
use Rattle.hw_port_model.specs.Permitted.{tugs_held}
use Rattle.hw_chart.specs.Layout.{plot}
use Rattle.hw_chart_port.specs.Heads.{places}
use Rattle.hw_chart_port.specs.Spans.{port_picture_span}
use Rattle.hw_chart_clash.specs.declared.mark.Mark.{Mark}
use Rattle.hw_chart_clash.specs.declared.mark.Shape.{Shape}
use Rattle.hw_chart_clash.specs.declared.mark.Shape.TheVariants.{Denied, Joined, Lacking}

-- ---- a window

-- rows stand in the order of the ships
abbrev pub clash_row_y : Parts → ℕ → ℕ
clash_row_y p ship = (places p).rows + 42 * ship

-- the top of a window one unit tall where the ship may not sail, and otherwise its foot
abbrev pub denied_level : Parts → TideParts → ℕ → ℕ → ℕ
denied_level p h ship slot = if is_some (value p h ship slot) then 1 else 0

-- a sign beside the ship's name
abbrev pub denied_sign : ℕ → List ℕ
denied_sign y = block (codes "cw") (record { left = 4; right = 12; top = y + 21; bottom = y + 33 })

abbrev pub denied_steps : Parts → TideParts → ℕ → List ℕ
denied_steps p h ship = steps (codes "cw") (denied_level p h ship) 0 (horizon_of p) 1

-- below the ship's drafts
abbrev pub denied_window : Parts → TideParts → ℕ → ℕ → List ℕ
denied_window p h ship y = concat (window_begin (plot (y + 26) 5 (port_picture_span p None) 1) ∷ denied_steps p h ship ∷ svg_end ∷ [])

abbrev pub denied_mark : Parts → TideParts → ℕ → List ℕ
denied_mark p h ship = denied_sign (clash_row_y p ship) ++ denied_window p h ship (clash_row_y p ship)

-- ---- two ships

-- a column for each place in the clash, 32 of them
abbrev pub bracket_x : ℕ → ℕ
bracket_x place = 983 + 9 * (place % 32)

-- a bracket from one row to another
unfoldable pub bracket : ℕ → ℕ → ℕ → List ℕ
bracket x from to = concat (codes "M" ∷ decimal x ∷ codes " " ∷ decimal (from + 13) ∷ codes "h5V" ∷ decimal (to + 13) ∷ codes "h-5" ∷ [])

abbrev pub joined_mark : Parts → ℕ → ℕ → ℕ → List ℕ
joined_mark p place first second = shape (codes "cp") (bracket (bracket_x place) (clash_row_y p first) (clash_row_y p second))

-- ---- the fleet

abbrev pub fleet_tall : Parts → ℕ
fleet_tall p = max (whole p.fleet) 1

-- the top of the tugs' window where a timetable holds more than the fleet has, and otherwise its foot
abbrev pub lacking_level : Parts → List ℕ → ℕ → ℕ
lacking_level p table slot = if nat_lt (whole p.fleet) (sum_by (tugs_held p slot) (zip p.ships table)) then 0 else fleet_tall p

abbrev pub lacking_steps : Parts → List ℕ → List ℕ
lacking_steps p table = steps (codes "cl") (lacking_level p table) 0 (horizon_of p) (fleet_tall p)

abbrev pub lacking_mark : Parts → List ℕ → List ℕ
lacking_mark p table = concat (window_begin (plot (places p).tugs 56 (port_picture_span p None) (fleet_tall p)) ∷ lacking_steps p table ∷ svg_end ∷ [])

-- ---- each of them

-- at a place of the clash, with the timetable that meets all others
abbrev pub shape_text : Parts → TideParts → ℕ → Shape → List ℕ → List ℕ
shape_text p h place (Denied ship) table = denied_mark p h ship
shape_text p h place (Joined first second) table = joined_mark p place first second
shape_text p h place Lacking table = lacking_mark p table

-- an item of a list, whose title is the restriction's line
abbrev pub kept_mark_text : Parts → TideParts → ℕ → Mark → List ℕ → List ℕ
kept_mark_text p h place mark table = concat (item_begin ∷ escaped mark.title ∷ title_end ∷ shape_text p h place mark.shape table ∷ group_end ∷ [])

-- from this place on
abbrev pub kept_marks_from : Parts → TideParts → ℕ → List Mark → List (List ℕ) → List ℕ
kept_marks_from p h place [] drops = []
kept_marks_from p h place (mark ∷ more) [] = []
kept_marks_from p h place (mark ∷ more) (table ∷ rest) = kept_mark_text p h place mark table ++ kept_marks_from p h (place + 1) more rest
