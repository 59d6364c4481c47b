use Rattle.hw_flat.specs.Demonstration.{pairs_of_drawn}
use Rattle.hw_flat.proofs.Drawing.{more_drawn}
use Rattle.hw_flat.proofs.demo.put_pairs.Goals as goal

pub loop-v-preserved : goal.loop-v-preserved
loop-v-preserved c = more_drawn (pairs_of_drawn c.args.ships) c.loop-v.rules.items _ c.loop-v.words _ _ c.loop-v.v c.args.ships c.loop-v-test.true c.in_ok-put_pairs_of.ensures c.loop-v.invariant
