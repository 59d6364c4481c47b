-- What marks say, by hand.
use Rattle.std.specs.Prelude.{◌≡◌, ℕ, List, codes}
use Rattle.hw_port_dates.specs.Moments.{moment_after}
use Rattle.hw_chart_calendar.specs.Calendars.{dated_axis, end_mark, first_mark, mark_at, midnight, moment_words}

-- this is what the mark this many minutes after a start says
abbrev pub Says : List ℕ → ℕ → List ℕ → Type 0
Says start minutes text = moment_words (moment_after start minutes) ≡ text

pub record CalendarRows : Type 0 where
  pub at_start : Says (codes "2027-03-27 05:30") 0 (codes "05:30")
  pub morning : Says (codes "2027-03-27 05:30") 30 (codes "06:00")
  pub next_day : Says (codes "2027-03-27 05:30") 1_110 (codes "Sun 28 Mar")
  pub next_month : Says (codes "2027-03-31 12:00") 720 (codes "Thu 1 Apr")
  pub next_year : Says (codes "2027-12-31 00:00") 1_440 (codes "Sat 1 Jan")
  pub first_day : Says (codes "2027-03-27 00:00") 0 (codes "Sat 27 Mar")
  -- 30 slots of an hour from 18:00 on: marks every four hours, from 20:00 to 20:00 of the next day
  pub from_evening : midnight (codes "2027-03-30 18:00") ≡ 1_080
  pub every : (dated_axis 60 30 500).step ≡ 240
  pub first : first_mark (codes "2027-03-30 18:00") (dated_axis 60 30 500) ≡ 5
  pub end : end_mark (codes "2027-03-30 18:00") (dated_axis 60 30 500) ≡ 12
  pub at : mark_at (codes "2027-03-30 18:00") (dated_axis 60 30 500) 5 ≡ 120
