use Rattle.hw_chart_laws.proofs.FlatTrees.{flat_trees}
use Rattle.hw_chart_laws.proofs.laws.flat_pictures_are_trees.Goals as goal

pub returns : goal.returns
returns c = flat_trees
