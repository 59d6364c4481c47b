use Rattle.std.proofs.Common.{[], ◌∷◌, length}
use Rattle.hw_text.specs.Parts.{parts_of}
use Rattle.hw_split_text.specs.Text.{nodes_at}
use Rattle.hw_split_text.proofs.Lines.{SoFar}
use Rattle.hw_split_text.proofs.reading.nodes_of.Given as goal

abbrev pub invariant-loop-ranges : goal.invariant-loop-ranges
invariant-loop-ranges l = SoFar l.shape (nodes_at l.shape 2 ([] ∷ []) (parts_of 10 l.bytes)) l.nodes.items l.branches (parts_of 10 l.rest)

abbrev pub decreases-loop-ranges : goal.decreases-loop-ranges
decreases-loop-ranges l = length l.rest
