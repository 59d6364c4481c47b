use Rattle.hw_plan_texts.proofs.Grids.{grid_value}
use Rattle.hw_plan_texts.proofs.laws.grid_value.Goals as goal

pub returns : goal.returns
returns c = grid_value
