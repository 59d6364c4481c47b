use Rattle.std.proofs.Common.{◌≡◌, ◌∙◌, ◌-◌, length, take, drop, arith}
use Rattle.std.proofs.lemmas.Grind.{common_steps}
use Rattle.hw_desk.proofs.Chain.{one_write, can_still}
use Rattle.hw_desk.proofs.whole.write_all.Goals as goal

pub loop-at-preserved : goal.loop-at-preserved
loop-at-preserved g c =
    let write = rw c.in_ok-at.was at c.write.ensures.writes in
    let rest : take (length c.args.bytes.now - c.loop-at.at) (drop c.loop-at.at c.args.bytes.now) ≡ drop c.loop-at.at c.args.bytes.now = grind (arith, common_steps) in
    let more = one_write c.args.bytes.now c.loop-at.at rest c.loop-at.invariant.inside c.loop-at.invariant.sent write in
    record { sent = more.0; kept = write.kept ∙ c.loop-at.invariant.kept; inside = more.1; can = can_still c.loop-at.invariant.can write.sent }
