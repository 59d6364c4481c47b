use Rattle.hw_chart_flat.proofs.TwoLines.{legends_fit}
use Rattle.hw_chart_flat.proofs.laws.legends_fit.Goals as goal

pub returns : goal.returns
returns c = λ f table more. legends_fit f table more
