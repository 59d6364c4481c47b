use Rattle.hw_flat.specs.Demonstration.{pair_drawn}
use Rattle.hw_flat.proofs.Drawing.{more_drawn}
use Rattle.hw_flat.proofs.demo.put_pairs_of.Goals as goal

pub loop-w-preserved : goal.loop-w-preserved
loop-w-preserved c = more_drawn (pair_drawn c.args.v) c.loop-w.rules.items _ c.loop-w.words _ _ c.loop-w.w c.args.ships c.loop-w-test.true c.in_ok-put_pair.ensures c.loop-w.invariant
