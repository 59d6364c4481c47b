use Rattle.std.proofs.Common.{drop}
use Rattle.hw_split_text.proofs.Covering.{Seeks}
use Rattle.hw_split_text.proofs.parts.literals_of.Given as goal

abbrev pub invariant-loop-node : goal.invariant-loop-node
invariant-loop-node l = Seeks l.nodes l.number l.left l.walk (drop l.node-index l.nodes)
