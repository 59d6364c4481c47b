use Rattle.hw_chart_svg.proofs.Shortened.{longest_within}
use Rattle.hw_chart_svg.proofs.laws.beginnings_are_longest.Goals as goal

pub returns : goal.returns
returns c = λ room name. longest_within room name
