use Rattle.std.proofs.Common.{refl}
use Rattle.hw_desk.proofs.Written.{puts_on, puts_same, puts_nothing}
use Rattle.hw_flat_programme.specs.Rows.{rule_rows, rules_rows}
use Rattle.hw_flat_programme.specs.Texts.{rows_text}
use Rattle.hw_flat_programme.proofs.Onward.{rows_text-append, items_next, items_end}
use Rattle.hw_flat_programme.proofs.rows.put_rules.Goals as goal

pub loop-rule-preserved : goal.loop-rule-preserved
loop-rule-preserved g c = λ end h. c.loop-rule.invariant end (puts_same _ (items_next (rows_text c.args.format c.args.apart.now.slots) (rows_text-append c.args.format c.args.apart.now.slots) (rule_rows c.args.apart.now) (rules_rows c.args.apart.now) (λ x xs. refl) c.loop-rule.rule-index c.args.rules.now c.rule-item.result c.loop-rule-test.true c.rule-item.is) (puts_on c.put_rule.ensures h))

pub returns : goal.returns
returns g c = c.loop-rule.invariant _ (puts_same _ (items_end (rows_text c.args.format c.args.apart.now.slots) (rules_rows c.args.apart.now) refl c.loop-rule.rule-index c.args.rules.now c.loop-rule-test.false) (puts_nothing _))
