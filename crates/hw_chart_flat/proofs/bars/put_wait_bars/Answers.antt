use Rattle.hw_desk.proofs.Written.{puts_on, puts_same, puts_nothing}
use Rattle.hw_chart_flat.proofs.Onward.{wait_next, wait_end}
use Rattle.hw_chart_flat.proofs.bars.put_wait_bars.Goals as goal

pub loop-rule-preserved : goal.loop-rule-preserved
loop-rule-preserved g c = λ end h. c.loop-rule.invariant end (puts_same _ (wait_next c.args.table.now c.args.ship c.args.rules.now c.loop-rule.rule-index c.rule-item.result c.loop-rule-test.true c.rule-item.is) (puts_on c.put_wait_bar.ensures h))

pub returns : goal.returns
returns g c = c.loop-rule.invariant _ (puts_same _ (wait_end c.args.table.now c.args.ship c.args.rules.now c.loop-rule.rule-index c.loop-rule-test.false) (puts_nothing _))
