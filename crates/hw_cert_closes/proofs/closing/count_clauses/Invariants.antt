use Rattle.std.proofs.Common.{◌≡◌, ◌-◌, ◌^◌, min, take}
use Rattle.hw_cert_lines.specs.Lines.{clause_count}
use Rattle.hw_cert_closes.proofs.closing.count_clauses.Given as goal

abbrev pub invariant-loop-line : goal.invariant-loop-line
invariant-loop-line l = l.count ≡ min (clause_count (take l.line-index l.lines)) (2 ^ 32 - 1)
