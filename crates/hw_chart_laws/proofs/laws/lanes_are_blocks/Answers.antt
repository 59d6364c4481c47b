use Rattle.hw_chart_laws.proofs.LaneBlocks.{lanes_are_blocks}
use Rattle.hw_chart_laws.proofs.laws.lanes_are_blocks.Goals as goal

pub returns : goal.returns
returns c = lanes_are_blocks
