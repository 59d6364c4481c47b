use Rattle.std.proofs.Common.{arith, rules, w32, pos, get_or}
use Rattle.std.proofs.lemmas.Int.{to_z-of_z}
use mir.Val.{SFits}
use Rattle.std.proofs.lemmas.List.Elements.{All-push}
use Rattle.hw_tide.specs.Twelfths.{InLimits}
use Rattle.hw_tide.proofs.Rows.{more_columns}
use Rattle.hw_tide.proofs.filling.push_between.Goals as goal

pub loop-column-preserved : goal.loop-column-preserved
loop-column-preserved c =
    let fits : SFits w32 c.height_between-height.result = search rules in
    let low : InLimits (get_or c.args.lows.now c.loop-column.column (pos 0)) = c.requires.lows c.loop-column.column (pos 0) c.loop-column-test.true in
    let high : InLimits (get_or c.args.highs.now c.loop-column.column (pos 0)) = c.requires.highs c.loop-column.column (pos 0) (omega (arith, c.loop-column-test.true, c.requires.same_length)) in
    let low_fits : SFits w32 (get_or c.args.lows.now c.loop-column.column (pos 0)) = search rules in
    let high_fits : SFits w32 (get_or c.args.highs.now c.loop-column.column (pos 0)) = search rules in
    let pushed = simp to_z-of_z at c.in_ok-push.ensures in
    let value = simp to_z-of_z at c.height_between-height.ensures.value in
    record {
      told = rw pushed (more_columns c.args.past c.args.size c.args.lows.now c.args.highs.now c.loop-column.heights.items _ c.loop-column.column c.height_between-height.result c.loop-column-test.true c.requires.same_length value c.loop-column.invariant.told);
      small = λ h. rw pushed (All-push InLimits c.loop-column.heights.items c.height_between-height.result (c.loop-column.invariant.small h) c.height_between-height.ensures.limits);
    }
