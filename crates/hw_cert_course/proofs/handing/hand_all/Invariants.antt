use Rattle.std.proofs.Common.{drop}
use Rattle.hw_cert_course.proofs.Handed.{Along}
use Rattle.hw_cert_course.proofs.handing.hand_all.Given as goal

abbrev pub invariant-loop-line : goal.invariant-loop-line
invariant-loop-line l = Along l.fn.course l.course l.found (drop l.line-index l.found)
