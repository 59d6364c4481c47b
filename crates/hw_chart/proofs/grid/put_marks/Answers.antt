use Rattle.std.proofs.Common.{ap, sym}
use Rattle.hw_desk.proofs.Written.{puts_on, puts_same, puts_nothing}
use Rattle.hw_chart.specs.Grids.{marks}
use Rattle.hw_chart.proofs.Onward.{marks_next, marks_end}
use Rattle.hw_chart.proofs.grid.put_marks.Goals as goal

pub loop-i-preserved : goal.loop-i-preserved
loop-i-preserved g c = λ end h. c.loop-i.invariant end (puts_same _ (marks_next c.args.axis c.loop-i.i c.div_ceil-count.result c.loop-i-test.true) (puts_on c.put_mark.ensures h))

pub returns : goal.returns
returns g c = puts_same _ (ap (marks c.args.axis 0) (sym c.div_ceil-count.ensures)) (c.loop-i.invariant _ (puts_same _ (marks_end c.args.axis c.loop-i.i c.div_ceil-count.result c.loop-i-test.false) (puts_nothing _)))
