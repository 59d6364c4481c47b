use Rattle.std.proofs.Common.{take}
use Rattle.hw_cert_closes.specs.Numbers.{MarksDeleted}
use Rattle.hw_cert_closes.proofs.deletions.deleted.Given as goal

abbrev pub invariant-loop-line : goal.invariant-loop-line
invariant-loop-line l = MarksDeleted (take l.line-index l.lines) l.marks.items
