use Rattle.std.proofs.Common.{vec_len}
use Rattle.hw_check.proofs.Marking.{Renews}
use Rattle.hw_check.proofs.renewing.renewed_backwards.Given as goal

abbrev pub invariant-loop-line : goal.invariant-loop-line
invariant-loop-line l = Renews l.fn.lines.items l.lines.items l.number l.marked.items l.made.items

abbrev pub decreases-loop-line : goal.decreases-loop-line
decreases-loop-line l = vec_len l.lines
