-- The one text of a split.
use Rattle.std.specs.Prelude.{ℕ, List, [], ◌∷◌, ◌++◌, codes, decimal}
use Rattle.hw_split_text.specs.declared.node.Node.{Node}
use Rattle.hw_split_text.specs.declared.node.Node.TheVariants.{Fork, Part}

-- the line of a node
abbrev pub node_written : Node → List ℕ
node_written (Fork ship slot) = codes "s " ++ (decimal ship ++ (codes " " ++ (decimal slot ++ codes "\n")))
node_written Part = codes "p\n"

abbrev pub nodes_written : List Node → List ℕ
nodes_written [] = []
nodes_written (node ∷ nodes) = node_written node ++ nodes_written nodes

abbrev pub written_split : List Node → List ℕ
written_split nodes = codes "split 1\n" ++ (nodes_written nodes ++ codes "end\n")
