use Rattle.std.proofs.Common.{◌≡◌, ◌+◌, ◌≤◌}
use Rattle.hw_port_dates.specs.Dates.{IsDate, days_after}
use Rattle.hw_port_dates.proofs.date.days_after.Given as goal

abbrev pub invariant-loop-rest : goal.invariant-loop-rest
invariant-loop-rest l = (days_after l.rest l.place ≡ days_after l.fn.days l.fn.date) × IsDate l.place × (l.place.year + l.rest ≤ l.fn.date.year + l.fn.days)

abbrev pub decreases-loop-rest : goal.decreases-loop-rest
decreases-loop-rest l = l.rest
