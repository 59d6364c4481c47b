-- How a moment is written, and the names of days and months.
use Rattle.std.specs.Prelude.{ℕ, ◌+◌, ◌-◌, ◌/◌, ◌%◌, List, [], ◌∷◌, ◌++◌, codes, decimal, slice_get}
use Rattle.std.specs.Option.{option_map_or}
use Rattle.hw_port_dates.specs.declared.date.Date.{Date}
use Rattle.hw_port_dates.specs.declared.moment.Moment.{Moment}
use Rattle.hw_port_dates.specs.Dates.{day_number}

-- a number below 100 as two digits
abbrev pub two_digits : ℕ → List ℕ
two_digits n = (48 + n / 10) ∷ (48 + n % 10) ∷ []

-- a date as 2027-03-27
abbrev pub date_text : Date → List ℕ
date_text d = decimal d.year ++ (codes "-" ++ (two_digits d.month ++ (codes "-" ++ two_digits d.day)))

-- a time of the day as 15:00
abbrev pub clock_text : Moment → List ℕ
clock_text m = two_digits m.hour ++ (codes ":" ++ two_digits m.minute)

-- a moment as 2027-03-27 15:00
abbrev pub moment_text : Moment → List ℕ
moment_text m = date_text m.date ++ (codes " " ++ clock_text m)

-- ---- names

-- the item of this place
abbrev pub name_at : List (List ℕ) → ℕ → List ℕ
name_at names place = option_map_or (λ name. name) (slice_get names place) []

-- the days of a week, beginning with that of 1970-01-01, which was a Thursday
abbrev pub week : List (List ℕ)
week = codes "Thu" ∷ codes "Fri" ∷ codes "Sat" ∷ codes "Sun" ∷ codes "Mon" ∷ codes "Tue" ∷ codes "Wed" ∷ []

abbrev pub weekday_name : Date → List ℕ
weekday_name d = name_at week (day_number d % 7)

abbrev pub months : List (List ℕ)
months =
    codes "Jan" ∷ codes "Feb" ∷ codes "Mar" ∷ codes "Apr" ∷ codes "May" ∷ codes "Jun"
    ∷ codes "Jul" ∷ codes "Aug" ∷ codes "Sep" ∷ codes "Oct" ∷ codes "Nov" ∷ codes "Dec" ∷ []

abbrev pub month_name : Date → List ℕ
month_name d = name_at months (d.month - 1)
