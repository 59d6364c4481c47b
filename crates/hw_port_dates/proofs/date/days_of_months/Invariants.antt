use Rattle.std.proofs.Common.{◌≡◌, ◌*◌, ◌≤◌}
use Rattle.hw_port_dates.specs.Dates.{days_of_months}
use Rattle.hw_port_dates.proofs.date.days_of_months.Given as goal

abbrev pub invariant-loop-month : goal.invariant-loop-month
invariant-loop-month l = (l.days ≡ days_of_months l.year l.month) × (l.days ≤ 31 * l.month)
