use Rattle.hw_desk.proofs.Written.{puts_on, puts_same, puts_nothing}
use Rattle.hw_chart_svg.proofs.Onward.{name_next, name_end}
use Rattle.hw_chart_svg.proofs.name.put_name.Goals as goal

pub loop-byte-preserved : goal.loop-byte-preserved
loop-byte-preserved g c = λ end h. c.loop-byte.invariant end (puts_same _ (name_next c.args.name.now c.loop-byte.byte-index 0 c.loop-byte-test.true) (puts_on c.put_byte.ensures h))

pub returns : goal.returns
returns g c = c.loop-byte.invariant _ (puts_same _ (name_end c.args.name.now c.loop-byte.byte-index c.loop-byte-test.false) (puts_nothing _))
