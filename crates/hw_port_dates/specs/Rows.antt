-- Dates of which a calendar tells.
use Rattle.std.specs.Prelude.{◌≡◌, ℕ, List, codes}
use Rattle.hw_port_dates.specs.Dates.{date, day_number, next_day}
use Rattle.hw_port_dates.specs.Moments.{moment_after}
use Rattle.hw_port_dates.specs.Texts.{moment_text, month_name, weekday_name}

-- this is written of the moment this many minutes after this start
abbrev pub MomentReads : List ℕ → ℕ → List ℕ → Type 0
MomentReads start minutes text = moment_text (moment_after start minutes) ≡ text

pub record DateRows : Type 0 where
  -- the ends of months and years
  pub leap_day : next_day (date 2000 2 28) ≡ date 2000 2 29
  pub after_leap_day : next_day (date 2000 2 29) ≡ date 2000 3 1
  pub no_leap_day : next_day (date 2100 2 28) ≡ date 2100 3 1
  pub one_minute : MomentReads (codes "2027-12-31 23:59") 1 (codes "2028-01-01 00:00")
  pub no_minute : MomentReads (codes "2027-03-27 15:00") 0 (codes "2027-03-27 15:00")
  pub same_day : MomentReads (codes "2027-03-27 15:00") 75 (codes "2027-03-27 16:15")
  pub next_month : MomentReads (codes "2027-03-27 15:00") 7_260 (codes "2027-04-01 16:00")
  pub over_leap_day : MomentReads (codes "2028-02-28 12:00") 2_880 (codes "2028-03-01 12:00")
  pub five_digits : MomentReads (codes "9999-12-31 23:00") 60 (codes "10000-01-01 00:00")
  -- the numbers of days, by the timestamps of Unix, which has 86,400 seconds for each
  pub first_day : day_number (date 1970 1 1) ≡ 0
  pub turn : day_number (date 2000 3 1) ≡ 11_017
  pub spring : day_number (date 2027 3 27) ≡ 20_904
  -- days of the week
  pub thursday : weekday_name (date 1970 1 1) ≡ codes "Thu"
  pub tuesday : weekday_name (date 2000 2 29) ≡ codes "Tue"
  pub saturday : weekday_name (date 2027 3 27) ≡ codes "Sat"
  pub monday : weekday_name (date 2100 3 1) ≡ codes "Mon"
  pub march : month_name (date 2027 3 27) ≡ codes "Mar"
  pub december : month_name (date 2027 12 31) ≡ codes "Dec"
