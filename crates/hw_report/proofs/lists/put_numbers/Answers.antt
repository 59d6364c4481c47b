use Rattle.hw_desk.proofs.Written.{puts_on, puts_same, puts_nothing}
use Rattle.hw_report.proofs.Onward.{number_next, numbers_end}
use Rattle.hw_report.proofs.lists.put_numbers.Goals as goal

pub loop-number-preserved : goal.loop-number-preserved
loop-number-preserved g c = λ end h. c.loop-number.invariant end (puts_same _ (number_next c.args.numbers.now c.loop-number.number-index 0 c.loop-number-test.true) (puts_on c.put_spaced.ensures h))

pub returns : goal.returns
returns g c = c.loop-number.invariant _ (puts_same _ (numbers_end c.args.numbers.now c.loop-number.number-index c.loop-number-test.false) (puts_nothing _))
