use Rattle.std.proofs.Common.{arith}
use Rattle.hw_search_resumed.proofs.Counted.{tolls_next}
use Rattle.hw_search_resumed.proofs.resuming.count_tolls.Goals as goal

pub loop-line-preserved : goal.loop-line-preserved
loop-line-preserved c = tolls_next c.args.lines.now c.loop-line.line-index c.line-item.result c.loop-line.count c.saturating_add-count.result c.loop-line-test.true c.line-item.is c.loop-line.invariant (omega (arith, c.saturating_add-count.ensures, c.toll_lines.ensures))
