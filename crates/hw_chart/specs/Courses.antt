-- What a timetable says of a ship.
use Rattle.std.specs.Prelude.{⊤, ◌<◌, ℕ, List, Option, Some, None, nat_lt, option_and_then, slice_get, if◌then◌else◌}
use Rattle.hw_chart.specs.declared.course.Course.{Course}
use Rattle.hw_chart.specs.declared.course.Course.TheVariants.{Unplanned, Stays, Sails}

-- the slot that a timetable gives a ship; none where there is no timetable
abbrev pub slot_in : Option (List ℕ) → ℕ → Option ℕ
slot_in table ship = option_and_then (λ slots. slice_get slots ship) table

-- a ship with this slot, where ships sail in this many slots
abbrev pub course_of : Option ℕ → ℕ → Course
course_of None slots = Unplanned
course_of (Some slot) slots = if nat_lt slot slots then Sails slot else Stays

-- if the ship sails, then before this slot
abbrev pub SailsBefore : ℕ → Course → Type 0
SailsBefore slots Unplanned = ⊤
SailsBefore slots Stays = ⊤
SailsBefore slots (Sails slot) = slot < slots
