use Rattle.std.proofs.Common.{refl, ◌∙◌, ap, length}
use Rattle.hw_tide.proofs.Sizes.{joined_size}
use Rattle.hw_tide.proofs.filling.tide_of_heights.Goals as goal

pub invariant_of-result : goal.invariant_of-result
invariant_of-result c = record {
  some_row = c.requires.table.some;
  few_rows = c.requires.table.few refl;
  each_height = ap length c.in_ok-heights.ensures.rows ∙ joined_size c.args.columns c.args.levels.now c.requires.table.each;
  small_heights = c.in_ok-heights.ensures.small;
}
