-- The whole picture of a clash.
use Rattle.std.specs.Prelude.{ℕ, List, [], ◌∷◌, None, length}
use Rattle.std.specs.List.{concat}
use Rattle.hw_chart_svg.specs.Sheets.{group_end, list_begin, svg_end}
use Rattle.hw_port.specs.Whole.{Parts}
use Rattle.hw_tide.specs.Levels.{TideParts}
use Rattle.hw_chart_port.specs.Rests.{port_rest}
use Rattle.hw_chart_clash.specs.declared.mark.Mark.{Mark}
use Rattle.hw_chart_clash.specs.Heads.{clash_head}
use Rattle.hw_chart_clash.specs.Legends.{clash_entries}
use Rattle.hw_chart_clash.specs.Shapes.{kept_marks_from}

-- a list of the marks, and the end of the picture
abbrev pub clash_end : Parts → TideParts → List Mark → List (List ℕ) → List ℕ
clash_end p h marks drops = concat (list_begin ∷ kept_marks_from p h 0 marks drops ∷ group_end ∷ svg_end ∷ [])

-- a port with its tide, the marks of kept restrictions, and for each of these a timetable that meets the others
unfoldable pub clash_picture : Parts → TideParts → List Mark → List (List ℕ) → List ℕ
clash_picture p h marks drops = concat (clash_head p (length marks) ∷ port_rest p h None (clash_entries marks) ∷ clash_end p h marks drops ∷ [])
