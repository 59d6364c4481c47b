use Rattle.hw_desk.proofs.Written.{puts_on, puts_same, puts_nothing}
use Rattle.hw_chart_svg.proofs.Onward.{moves_next, moves_end}
use Rattle.hw_chart_svg.proofs.figure.put_moves.Goals as goal

pub loop-slot-preserved : goal.loop-slot-preserved
loop-slot-preserved g c = λ end h.
    let level = g.L.Levels.level c.args.levels.now in
    c.loop-slot.invariant end (puts_same _ (moves_next level c.loop-slot.slot c.args.end c.loop-slot-test.true) (puts_on (rw (c.level.ensures, c.from.ensures) at c.put_pieces.ensures) h))

pub returns : goal.returns
returns g c = c.loop-slot.invariant _ (puts_same _ (moves_end (g.L.Levels.level c.args.levels.now) c.loop-slot.slot c.args.end c.loop-slot-test.false) (puts_nothing _))
