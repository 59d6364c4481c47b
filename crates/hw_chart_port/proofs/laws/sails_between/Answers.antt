use Rattle.hw_chart_port.proofs.Bounds.{sails_between}
use Rattle.hw_chart_port.proofs.laws.sails_between.Goals as goal

pub returns : goal.returns
returns c = sails_between
