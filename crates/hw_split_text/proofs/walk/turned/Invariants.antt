use Rattle.std.proofs.Common.{◌≡◌, reverse, vec_len}
use Rattle.hw_split_text.specs.Walks.{later_sides}
use Rattle.hw_split_text.proofs.walk.turned.Given as goal

abbrev pub invariant-loop-lit : goal.invariant-loop-lit
invariant-loop-lit l = later_sides (reverse l.branch.items) ≡ later_sides (reverse l.fn.branch.items)

abbrev pub decreases-loop-lit : goal.decreases-loop-lit
decreases-loop-lit l = vec_len l.branch
