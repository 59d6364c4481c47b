use Rattle.std.proofs.Common.{◌+◌}
use Rattle.hw_flat.specs.Demonstration.{value_drawn}
use Rattle.hw_flat.proofs.Drawing.{more_drawn}
use Rattle.hw_flat.proofs.demo.put_row.Goals as goal

pub loop-slot-preserved : goal.loop-slot-preserved
loop-slot-preserved c = more_drawn (value_drawn (50 + c.draw-tpc.result)) c.loop-slot.values.items _ c.loop-slot.words _ _ c.loop-slot.slot c.args.slots c.loop-slot-test.true c.in_ok-put_value.ensures c.loop-slot.invariant
