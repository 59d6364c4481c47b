-- The title of a ship's row: the whole row in words.
use Rattle.std.specs.Prelude.{ℕ, List, [], ◌∷◌, ◌++◌, codes, decimal}
use Rattle.std.specs.List.{concat}
use Rattle.hw_draft.specs.Passages.{waypoint_name}
use Rattle.hw_chart_svg.specs.Names.{escaped}
use Rattle.hw_chart_svg.specs.Numbers.{clock, metres, tonnes_label}
use Rattle.hw_port.specs.Parts.{ShipParts}
use Rattle.hw_chart.specs.declared.course.Course.{Course}
use Rattle.hw_chart.specs.declared.course.Course.TheVariants.{Unplanned, Stays, Sails}
use Rattle.hw_chart_port.specs.declared.sailing.Sailing.{Sailing}
use Rattle.hw_chart_port.specs.Charts.{ChartParts, by_direction}
use Rattle.hw_chart_port.specs.Sailings.{sailing_of}

unfoldable pub ship_title : List ℕ → ℕ → List ℕ
ship_title name v = concat (escaped name ∷ codes ", ship " ∷ decimal v ∷ [])

abbrev pub way_title : ShipParts → List ℕ
way_title s = by_direction s (codes ", sails out") (codes ", comes in")

unfoldable pub time_title : Sailing → List ℕ
time_title g = concat (codes " in slot " ∷ decimal g.slot ∷ codes ", " ∷ clock g.time ∷ [])

unfoldable pub load_title : List ℕ → Sailing → List ℕ
load_title by g = concat (codes ", draft " ∷ metres g.draft ∷ codes " m, allowed " ∷ metres g.allowed ∷ codes " m by " ∷ escaped by ∷ codes ", cargo " ∷ tonnes_label g.cargo ∷ codes " t" ∷ [])

abbrev pub sailing_title : ChartParts → ShipParts → Sailing → List ℕ
sailing_title chart s g = concat (way_title s ∷ time_title g ∷ load_title (waypoint_name chart.port g.by) g ∷ [])

-- what the timetable says of the ship
abbrev pub course_title : ChartParts → ℕ → ShipParts → Course → List ℕ
course_title chart v s Unplanned = []
course_title chart v s Stays = codes ", stays"
course_title chart v s (Sails slot) = sailing_title chart s (sailing_of chart v slot)

abbrev pub row_title : ChartParts → ℕ → ShipParts → Course → List ℕ
row_title chart v s course = ship_title s.name v ++ course_title chart v s course
