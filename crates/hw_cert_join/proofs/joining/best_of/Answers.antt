use Rattle.hw_cert_join.proofs.Bests.{along_next}
use Rattle.hw_cert_join.proofs.joining.best_of.Goals as goal

pub loop-line-preserved : goal.loop-line-preserved
loop-line-preserved c = record {
  listed = c.better-best.ensures.listed;
  along = along_next c.args.lines.now c.loop-line.line-index c.line-item.result c.loop-line-test.true c.line-item.is c.loop-line.invariant.along c.better-best.ensures.best c.better-best.ensures.line;
}
