use Rattle.hw_chart_laws.proofs.PortTrees.{port_trees}
use Rattle.hw_chart_laws.proofs.laws.port_pictures_are_trees.Goals as goal

pub returns : goal.returns
returns c = port_trees
