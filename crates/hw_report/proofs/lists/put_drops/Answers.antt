use Rattle.std.proofs.Common.{◌≤◌, ◌<◌, length, min, arith}
use Rattle.hw_desk.proofs.Written.{puts_on, puts_same, puts_nothing}
use Rattle.hw_report.proofs.Onward.{drop_next, drops_end}
use Rattle.hw_report.proofs.lists.put_drops.Goals as goal

pub loop-i-preserved : goal.loop-i-preserved
loop-i-preserved g c = λ end h.
    let lt : c.loop-i.i < min (length c.args.kept.now) (length c.args.drops.now) = omega (arith, c.loop-i-test.true, c.min-i-end.ensures) in
    c.loop-i.invariant end (puts_same _ (drop_next c.args.kept.now c.args.drops.now c.loop-i.i 0 c.index-drops-i.result lt c.index-drops-i.is) (puts_on c.put_drop.ensures h))

pub returns : goal.returns
returns g c =
    let le : min (length c.args.kept.now) (length c.args.drops.now) ≤ c.loop-i.i = omega (arith, c.loop-i-test.false, c.min-i-end.ensures) in
    c.loop-i.invariant _ (puts_same _ (drops_end c.args.kept.now c.args.drops.now c.loop-i.i le) (puts_nothing _))
