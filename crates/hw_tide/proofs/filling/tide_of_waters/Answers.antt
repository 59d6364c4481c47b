use Rattle.std.proofs.Common.{◌-◌, ◌+◌, ◌∙◌, ap, length, arith}
use Rattle.hw_tide.specs.Tides.{heights_in_slot}
use Rattle.hw_tide.proofs.Sizes.{range_size, row_size, few_slots}
use Rattle.hw_tide.proofs.filling.tide_of_waters.Goals as goal

pub invariant_of-result : goal.invariant_of-result
invariant_of-result c = record {
  some_row = omega arith;
  few_rows = omega (arith, c.slot_of-rows.ensures, few_slots c.args.columns c.args.levels.now (length c.args.levels.now - 1) c.requires.table.each);
  each_height = ap length c.in_ok-heights.ensures.rows ∙ range_size (heights_in_slot c.args.levels.now) c.args.columns 0 (c.slot_of-rows.result + 1) (λ slot. row_size c.args.columns c.args.levels.now slot c.requires.table.some c.requires.table.each);
  small_heights = c.in_ok-heights.ensures.small;
}
