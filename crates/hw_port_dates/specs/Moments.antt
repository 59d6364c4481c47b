-- Dates with a time of the day, and the one that stands some minutes after another.
use Rattle.std.specs.Prelude.{◌<◌, ℕ, ◌+◌, ◌*◌, ◌/◌, ◌%◌, List}
use Rattle.hw_port.specs.Starts.{pair_at, year_of}
use Rattle.hw_port_dates.specs.declared.date.Date.{Date}
use Rattle.hw_port_dates.specs.declared.moment.Moment.{Moment}
use Rattle.hw_port_dates.specs.Dates.{IsDate, date, day_number, days_after}

-- a day of the calendar and a time of the day
pub record IsMoment (m : Moment) : Type 0 where
  pub date : IsDate m.date
  pub hour : m.hour < 24
  pub minute : m.minute < 60

-- the minutes since midnight
abbrev pub minute_of_day : Moment → ℕ
minute_of_day m = 60 * m.hour + m.minute

-- the minutes since the beginning of 1970-01-01
abbrev pub minutes_of : Moment → ℕ
minutes_of m = 1440 * day_number m.date + minute_of_day m

-- this many minutes after the midnight with which a day begins
abbrev pub in_day : Date → ℕ → Moment
in_day d minutes = record { date = days_after (minutes / 1440) d; hour = minutes % 1440 / 60; minute = minutes % 60 }

-- this many minutes after a moment
abbrev pub later : ℕ → Moment → Moment
later minutes m = in_day m.date (minute_of_day m + minutes)

-- the moment that the text of a start names
abbrev pub start_of : List ℕ → Moment
start_of text = record { date = date (year_of text) (pair_at text 5) (pair_at text 8); hour = pair_at text 11; minute = pair_at text 14 }

-- this many minutes after a start
abbrev pub moment_after : List ℕ → ℕ → Moment
moment_after start minutes = later minutes (start_of start)
