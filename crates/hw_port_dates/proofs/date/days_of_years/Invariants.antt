use Rattle.std.proofs.Common.{◌≡◌, ◌*◌, ◌≤◌}
use Rattle.hw_port_dates.specs.Dates.{days_of_years}
use Rattle.hw_port_dates.proofs.date.days_of_years.Given as goal

abbrev pub invariant-loop-past : goal.invariant-loop-past
invariant-loop-past l = (l.days ≡ days_of_years l.past) × (l.days ≤ 372 * l.past)
