use Rattle.hw_desk.proofs.Written.{puts_on, puts_same, puts_nothing}
use Rattle.hw_chart_calendar.proofs.Onward.{marks_next, marks_end}
use Rattle.hw_chart_calendar.proofs.grid.put_all_marks.Goals as goal

pub loop-mark-preserved : goal.loop-mark-preserved
loop-mark-preserved g c = λ end h. c.loop-mark.invariant end (puts_same _ (marks_next c.args.start.now c.args.axis c.loop-mark.mark c.end_mark-end.result c.loop-mark-test.true) (puts_on (rw c.mark_at.ensures.value at c.put_dated_mark.ensures) h))

pub returns : goal.returns
returns g c = rw (c.first_mark-first.ensures, c.end_mark-end.ensures) at (c.loop-mark.invariant _ (puts_same _ (marks_end c.args.start.now c.args.axis c.loop-mark.mark c.end_mark-end.result c.loop-mark-test.false) (puts_nothing _)))
