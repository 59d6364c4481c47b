use Rattle.hw_chart_laws.proofs.OneWay.{blocks_are_occupations}
use Rattle.hw_chart_laws.proofs.laws.blocks_are_occupations.Goals as goal

pub returns : goal.returns
returns c = blocks_are_occupations
