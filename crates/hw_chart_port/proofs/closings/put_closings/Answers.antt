use Rattle.hw_desk.proofs.Written.{puts_on, puts_same, puts_nothing}
use Rattle.hw_chart_port.proofs.Runs.{closings_next, closings_end}
use Rattle.hw_chart_port.proofs.closings.put_closings.Goals as goal

pub loop-slot-preserved : goal.loop-slot-preserved
loop-slot-preserved g c = λ end h. c.loop-slot.invariant end (puts_same _ (closings_next c.args.chart.now c.args.number c.args.window c.loop-slot.slot c.args.window.end c.loop-slot-test.true) (puts_on c.put_closing_at.ensures h))

pub returns : goal.returns
returns g c = c.loop-slot.invariant _ (puts_same _ (closings_end c.args.chart.now c.args.number c.args.window c.loop-slot.slot c.args.window.end c.loop-slot-test.false) (puts_nothing _))
