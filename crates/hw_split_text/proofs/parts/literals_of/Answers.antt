use Rattle.std.proofs.Common.{drop, sym}
use Rattle.hw_split_text.proofs.Covering.{ended}
use Rattle.hw_split_text.proofs.parts.literals_of.Goals as goal

pub returns-in_default-branch : goal.returns-in_default-branch
returns-in_default-branch c =
    let nodes = c.split.inside.nodes.items in
    rw (← c.split.view_is) (ended nodes (drop c.loop-node.node-index nodes) c.args.number c.loop-node.left c.loop-node.walk (rw c.deref-nodes.ensures.value at c.loop-node.invariant) (sym c.in_default-branch.ensures))
