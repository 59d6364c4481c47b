-- The text of a date and a time, as 2027-03-27 15:00: the year 1970 to 9999, a day that exists, hours and minutes.
use Rattle.std.specs.Prelude.{ℕ, ◌+◌, ◌-◌, ◌*◌, ◌%◌, ◌&&◌, ◌||◌, List, length, Bool, not, nat_eq, nat_le, nat_lt, slice_index, if◌then◌else◌}
use Rattle.hw_text.specs.Numbers.{is_digit}

-- every fourth year is a leap year, but of the years that 100 divides only those that 400 divides
abbrev pub is_leap : ℕ → Bool
is_leap year = nat_eq (year % 4) 0 && (not (nat_eq (year % 100) 0) || nat_eq (year % 400) 0)

-- April, June, September and November
abbrev pub has_thirty : ℕ → Bool
has_thirty month = nat_eq month 4 || nat_eq month 6 || nat_eq month 9 || nat_eq month 11

-- February has 29 days in a leap year
abbrev pub days_of_month : ℕ → ℕ → ℕ
days_of_month year month = if nat_eq month 2 then (if is_leap year then 29 else 28) else if has_thirty month then 30 else 31

-- a day that exists
abbrev pub is_day : ℕ → ℕ → ℕ → Bool
is_day year month day = nat_le 1970 year && (nat_le 1 month && nat_le month 12) && (nat_le 1 day && nat_le day (days_of_month year month))

-- two digits stand at a place of the text, and the next one
abbrev pub are_digits : List ℕ → ℕ → Bool
are_digits text i = is_digit (slice_index text i) && is_digit (slice_index text (i + 1))

-- the number that they spell
abbrev pub pair_at : List ℕ → ℕ → ℕ
pair_at text i = 10 * (slice_index text i - 48) + (slice_index text (i + 1) - 48)

abbrev pub year_of : List ℕ → ℕ
year_of text = 100 * pair_at text 0 + pair_at text 2

-- digits, and between them two hyphens, a space and a colon
abbrev pub has_digits : List ℕ → Bool
has_digits text = are_digits text 0 && are_digits text 2 && are_digits text 5 && are_digits text 8 && are_digits text 11 && are_digits text 14

abbrev pub has_marks : List ℕ → Bool
has_marks text = nat_eq (slice_index text 4) 45 && nat_eq (slice_index text 7) 45 && nat_eq (slice_index text 10) 32 && nat_eq (slice_index text 13) 58

-- 16 bytes that spell a date and a time
abbrev pub is_start : List ℕ → Bool
is_start text = nat_eq (length text) 16 && (has_digits text && has_marks text && (is_day (year_of text) (pair_at text 5) (pair_at text 8) && (nat_lt (pair_at text 11) 24 && nat_lt (pair_at text 14) 60)))
