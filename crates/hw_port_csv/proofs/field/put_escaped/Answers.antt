use Rattle.hw_desk.proofs.Written.{puts_on, puts_same, puts_nothing}
use Rattle.hw_port_csv.proofs.Texts.{escaped_next, escaped_end}
use Rattle.hw_port_csv.proofs.field.put_escaped.Goals as goal

pub loop-byte-preserved : goal.loop-byte-preserved
loop-byte-preserved g c = λ end h. c.loop-byte.invariant end (puts_same _ (escaped_next c.args.text.now c.loop-byte.byte-index 0 c.loop-byte-test.true) (puts_on c.put_byte.ensures h))

pub returns : goal.returns
returns g c = c.loop-byte.invariant _ (puts_same _ (escaped_end c.args.text.now c.loop-byte.byte-index c.loop-byte-test.false) (puts_nothing _))
