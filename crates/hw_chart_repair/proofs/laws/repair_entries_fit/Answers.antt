use Rattle.hw_chart_repair.proofs.TwoLines.{entries_fit}
use Rattle.hw_chart_repair.proofs.laws.repair_entries_fit.Goals as goal

pub returns : goal.returns
returns c = λ f table wishes. entries_fit f table wishes
