use Rattle.std.proofs.Common.{◌≡◌, take}
use Rattle.hw_cert_lines.specs.Lines as counting
use Rattle.hw_check.proofs.renewing.clause_count.Given as goal

abbrev pub invariant-loop-line : goal.invariant-loop-line
invariant-loop-line l = l.count ≡ counting.clause_count (take l.line-index l.lines)
