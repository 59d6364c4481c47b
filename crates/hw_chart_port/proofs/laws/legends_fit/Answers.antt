use Rattle.hw_chart_port.proofs.TwoLines.{legends_fit}
use Rattle.hw_chart_port.proofs.laws.legends_fit.Goals as goal

pub returns : goal.returns
returns c = λ chart more. legends_fit chart more
