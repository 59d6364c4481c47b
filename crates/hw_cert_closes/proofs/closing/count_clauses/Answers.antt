use Rattle.std.proofs.Common.{arith}
use Rattle.hw_cert_closes.proofs.Numbers.{counted_next}
use Rattle.hw_cert_closes.proofs.closing.count_clauses.Goals as goal

pub loop-line-preserved : goal.loop-line-preserved
loop-line-preserved c = counted_next c.args.lines.now c.loop-line.line-index c.line-item.result c.loop-line.count c.saturating_add-count.result c.loop-line-test.true c.line-item.is c.loop-line.invariant (omega (arith, c.saturating_add-count.ensures, c.clause_lines.ensures))
