use Rattle.std.proofs.Common.{◌≡◌, ◌+◌, is_none, true, rules, arith}
use Rattle.hw_model.specs.Problem.{value_at}
use Rattle.hw_model.specs.Rooms.{high_of}
use Rattle.hw_rules.proofs.Passes.{all_step}
use Rattle.hw_rules.proofs.window.window_refuted.Goals as goal

pub loop-slot-preserved : goal.loop-slot-preserved
loop-slot-preserved c =
    let none : is_none (value_at c.args.flat.now c.args.ship c.loop-slot.slot) ≡ true = search rules in
    all_step (λ slot. is_none (value_at c.args.flat.now c.args.ship slot)) c.loop-slot.slot (high_of c.args.room.now c.args.ship + 1) _ (omega (arith, c.loop-slot-test.true, c.slot_after-slot-end.ensures.value)) none c.loop-slot.invariant
