use Rattle.std.proofs.Common.{drop}
use Rattle.hw_cert_course.proofs.Starting.{Checked}
use Rattle.hw_cert_course.proofs.checking.check_all.Given as goal

abbrev pub invariant-loop-line : goal.invariant-loop-line
invariant-loop-line l = Checked l.flat l.lines (drop l.line-index l.lines) l.checker
