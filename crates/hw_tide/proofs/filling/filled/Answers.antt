use Rattle.std.proofs.Common.{arith, ◌∙◌}
use Rattle.std.proofs.lemmas.List.{take_rest}
use Rattle.hw_tide.specs.Tides.{heights_in_slot}
use Rattle.hw_tide.proofs.Rows.{more_rows}
use Rattle.hw_tide.proofs.filling.filled.Goals as goal

pub loop-slot-preserved : goal.loop-slot-preserved
loop-slot-preserved c = record {
  inside = c.reached-place.ensures.inside;
  not_before = omega (arith, c.reached-place.ensures.not_before);
  same = λ later le. c.reached-place.ensures.same later (omega (arith, le)) ∙ c.loop-slot.invariant.same later (omega (arith, le));
  told = rw (c.in_ok-push_row.ensures.row, take_rest c.args.levels.now c.reached-place.result) (more_rows (heights_in_slot c.args.levels.now) c.loop-slot.heights.items _ _ c.loop-slot.slot c.args.rows c.loop-slot-test.true (c.reached-place.ensures.same c.loop-slot.slot (omega arith) ∙ c.loop-slot.invariant.same c.loop-slot.slot (omega arith)) c.loop-slot.invariant.told);
  small = c.in_ok-push_row.ensures.small c.loop-slot.invariant.small;
}
