use Rattle.std.proofs.Common.{arith}
use Rattle.hw_tugs.proofs.Loads.{set_again}
use Rattle.hw_tugs.proofs.figures.Figures.set.Goals as goal

pub returns-then-old-range-2-clause-seen : goal.returns-then-old-range-2-clause-seen
returns-then-old-range-2-clause-seen c =
    set_again c.args.self.now.seen.items c.args.place c.index-old.result.now c.args.range (omega (arith, c.requires.inside, c.requires.load.each_job)) c.index-old.ensures c.if-old-range.true c.if-old-range-2.true
