use Rattle.std.proofs.Common.{refl}
use Rattle.std.specs.Fmt.{digits}
use Rattle.hw_chart_svg.specs.Names.{byte_text}
use Rattle.hw_chart_svg.specs.Numbers.{clock}
use Rattle.hw_port_dates.specs.Dates.{days_after, days_of_months, days_of_years}
use Rattle.hw_chart_calendar.proofs.laws.calendar_rows.Goals as goal

pub returns : goal.returns
unfolding digits byte_text clock days_after days_of_months days_of_years
returns c = record {
  at_start = refl;
  morning = refl;
  next_day = refl;
  next_month = refl;
  next_year = refl;
  first_day = refl;
  from_evening = refl;
  every = refl;
  first = refl;
  end = refl;
  at = refl;
}
