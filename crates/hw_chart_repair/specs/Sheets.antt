-- The marks of all ships, each at its row, and the end of a picture.
use Rattle.std.specs.Prelude.{ℕ, ◌+◌, ◌*◌, List, [], ◌∷◌, ◌++◌, Option, unwrap_or}
use Rattle.std.specs.List.{concat}
use Rattle.hw_model.specs.Problem.{Problem}
use Rattle.hw_chart_svg.specs.Sheets.{svg_end}
use Rattle.hw_chart.specs.Courses.{slot_in}
use Rattle.hw_chart.specs.Layout.{rank_in}
use Rattle.hw_repair.specs.Wishes.{wished}
use Rattle.hw_repair.specs.declared.plan.Wish.{Wish}
use Rattle.hw_chart_repair.specs.Marks.{mark_of_wish}
use Rattle.hw_chart_repair.specs.declared.mark.Spot.{Spot}
use Rattle.hw_chart_repair.specs.declared.marks.Sheet.{Sheet}

-- where a ship's marks stand, by a timetable or none
abbrev pub spot_of : Sheet → Option (List ℕ) → ℕ → Spot
spot_of sheet table ship = record { ship = ship; y = sheet.rows + 42 * rank_in table ship; span = sheet.span; scale = sheet.scale; midnight = sheet.midnight }

-- the slot of a ship, or where there is no timetable that of its wish
abbrev pub slot_by : Option (List ℕ) → ℕ → Wish → ℕ
slot_by table ship wish = unwrap_or (slot_in table ship) (wished wish)

unfoldable pub mark_for_wish : Problem → Sheet → Option (List ℕ) → ℕ → Wish → List ℕ
mark_for_wish f sheet table ship wish = mark_of_wish f (spot_of sheet table ship) wish (slot_by table ship wish)

-- the marks of the ships from this number on
abbrev pub wish_marks_from : Problem → Sheet → Option (List ℕ) → ℕ → List Wish → List ℕ
wish_marks_from f sheet table ship [] = []
wish_marks_from f sheet table ship (wish ∷ more) = mark_for_wish f sheet table ship wish ++ wish_marks_from f sheet table (ship + 1) more

-- the marks, and the end of the picture
unfoldable pub marked_end : Problem → Sheet → Option (List ℕ) → List Wish → List ℕ
marked_end f sheet table wishes = concat (wish_marks_from f sheet table 0 wishes ∷ svg_end ∷ [])
