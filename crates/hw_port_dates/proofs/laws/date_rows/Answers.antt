use Rattle.std.proofs.Common.{refl}
use Rattle.std.specs.Fmt.{digits}
use Rattle.hw_port_dates.specs.Dates.{days_after, days_of_months, days_of_years}
use Rattle.hw_port_dates.proofs.laws.date_rows.Goals as goal

pub returns : goal.returns
unfolding digits days_after days_of_months days_of_years
returns c = record {
  leap_day = refl;
  after_leap_day = refl;
  no_leap_day = refl;
  one_minute = refl;
  no_minute = refl;
  same_day = refl;
  next_month = refl;
  over_leap_day = refl;
  five_digits = refl;
  first_day = refl;
  turn = refl;
  spring = refl;
  thursday = refl;
  tuesday = refl;
  saturday = refl;
  monday = refl;
  march = refl;
  december = refl;
}
