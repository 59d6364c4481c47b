use Rattle.hw_flat.specs.Demonstration.{row_drawn}
use Rattle.hw_flat.proofs.Drawing.{more_drawn}
use Rattle.hw_flat.proofs.demo.draw_values.Goals as goal

pub loop-ship-preserved : goal.loop-ship-preserved
loop-ship-preserved c = more_drawn (row_drawn c.args.slots) c.loop-ship.values.items _ c.loop-ship.words _ _ c.loop-ship.ship c.args.ships c.loop-ship-test.true c.in_ok-put_row.ensures c.loop-ship.invariant
