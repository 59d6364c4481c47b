use Rattle.hw_chart_repair.proofs.Told.{marked_have_sailed_law}
use Rattle.hw_chart_repair.proofs.laws.marked_have_sailed.Goals as goal

pub returns : goal.returns
returns c = marked_have_sailed_law
