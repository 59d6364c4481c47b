-- How many slots a picture shows: those in which ships sail, and those that the sailings reach after them.
use Rattle.std.specs.Prelude.{ℕ, ◌+◌, max, List, [], ◌∷◌, Option, nat_lt, if◌then◌else◌}
use Rattle.hw_port.specs.declared.parts.Stretch.{Stretch}
use Rattle.hw_port.specs.Parts.{ShipParts}
use Rattle.hw_port.specs.Whole.{Parts}
use Rattle.hw_port_model.specs.Numbers.{whole, horizon_of, hold_of}
use Rattle.hw_draft.specs.LastPasses.{last_pass}
use Rattle.hw_chart.specs.declared.course.Course.{Course}
use Rattle.hw_chart.specs.declared.course.Course.TheVariants.{Unplanned, Stays, Sails}
use Rattle.hw_chart_port.specs.Charts.{course_in}

-- how many slots after sailing the last section is left
abbrev pub last_leave : List Stretch → ℕ
last_leave [] = 0
last_leave (stretch ∷ more) = max (whole stretch.leave) (last_leave more)

-- for how many slots tugs are held, where the ship has some
abbrev pub slots_with_tugs : Parts → ShipParts → ℕ
slots_with_tugs p s = if nat_lt 0 (whole s.tugs) then hold_of p s else 0

-- how many slots a sailing takes, until the ship has passed its route, left its sections and freed its tugs
abbrev pub reach : Parts → ShipParts → ℕ
reach p s = max ((last_pass s.route).offset + 1) (max (last_leave s.channel) (slots_with_tugs p s))

-- the slot up to which a course reaches, 0 where the ship doesn't sail
abbrev pub course_end : Course → ℕ → ℕ
course_end Unplanned reach = 0
course_end Stays reach = 0
course_end (Sails slot) reach = slot + reach

-- the slot up to which the ships from this number on reach
abbrev pub ends_from : Parts → Option (List ℕ) → ℕ → List ShipParts → ℕ
ends_from p table v [] = 0
ends_from p table v (s ∷ more) = max (course_end (course_in p table v) (reach p s)) (ends_from p table (v + 1) more)

abbrev pub port_picture_span : Parts → Option (List ℕ) → ℕ
port_picture_span p table = max (horizon_of p) (ends_from p table 0 p.ships)
