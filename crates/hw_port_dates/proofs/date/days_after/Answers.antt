use Rattle.std.proofs.Common.{◌∙◌}
use Rattle.hw_port_dates.proofs.Days.{arrives}
use Rattle.hw_port_dates.proofs.date.days_after.Goals as goal

pub returns-clause-value : goal.returns-clause-value
returns-clause-value c = arrives c.left_of_month.result c.loop-rest.rest c.loop-rest.place c.left_of_month.ensures c.loop-rest-test.false ∙ c.loop-rest.invariant.0
