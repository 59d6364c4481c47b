-- Dates: which day comes next, which one some days later, and the number of a day.
use Rattle.std.specs.Prelude.{◌≡◌, ℕ, zero, suc, ◌+◌, ◌-◌, nat_lt, true, if◌then◌else◌}
use Rattle.hw_port.specs.Starts.{days_of_month, is_day}
use Rattle.hw_port_dates.specs.declared.date.Date.{Date}

abbrev pub date : ℕ → ℕ → ℕ → Date
date year month day = record { year = year; month = month; day = day }

-- a day of the calendar, from the year 1970 on
abbrev pub IsDate : Date → Type 0
IsDate d = is_day d.year d.month d.day ≡ true

-- the first day of the next month
abbrev pub first_of_next : Date → Date
first_of_next d = if nat_lt d.month 12 then date d.year (d.month + 1) 1 else date (d.year + 1) 1 1

-- the day after
abbrev pub next_day : Date → Date
next_day d = if nat_lt d.day (days_of_month d.year d.month) then date d.year d.month (d.day + 1) else first_of_next d

-- the day some days after
unfoldable pub days_after : ℕ → Date → Date
days_after zero d = d
days_after (suc n) d = days_after n (next_day d)

-- ---- the number of a day

-- the days of the first months of a year
unfoldable pub days_of_months : ℕ → ℕ → ℕ
days_of_months year zero = 0
days_of_months year (suc n) = days_of_months year n + days_of_month year (suc n)

abbrev pub days_of_year : ℕ → ℕ
days_of_year year = days_of_months year 12

-- the days of the first years from 1970 on
unfoldable pub days_of_years : ℕ → ℕ
days_of_years zero = 0
days_of_years (suc n) = days_of_years n + days_of_year (1970 + n)

-- the days from 1970-01-01 to a date
abbrev pub day_number : Date → ℕ
day_number d = days_of_years (d.year - 1970) + days_of_months d.year (d.month - 1) + (d.day - 1)
