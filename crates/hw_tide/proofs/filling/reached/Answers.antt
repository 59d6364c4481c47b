use Rattle.std.proofs.Common.{arith, ◌≤◌, ◌+◌, ◌<◌, length, ◌∙◌, add-one}
use Rattle.hw_tide.specs.Tides.{slot_at}
use Rattle.hw_tide.proofs.Rows.{next_water}
use Rattle.hw_tide.proofs.filling.reached.Goals as goal

pub loop-place-preserved : goal.loop-place-preserved
loop-place-preserved c =
    let not_before : slot_at c.args.levels.now (c.loop-place.place + 1) ≤ c.args.slot = omega (arith, c.if-slot_of-slot.true, c.slot_of.ensures) in
    let inside : c.loop-place.place + 1 < length c.args.levels.now = omega (arith, c.loop-place-test.true) in
    record {
      inside = inside;
      not_before = not_before;
      same = λ later le.
          let suc_inside = rw add-one at inside in
          let suc_past = rw add-one at not_before in
          rw add-one (next_water c.args.levels.now c.loop-place.place later suc_inside (omega (arith, suc_past, le))) ∙ c.loop-place.invariant.same later le;
    }
