use Rattle.std.proofs.Common.{refl, arith}
use Rattle.hw_flat_programme.specs.Rows.{rule_rows, rules_rows}
use Rattle.hw_flat_programme.proofs.Onward.{items_count, items_counted}
use Rattle.hw_flat_programme.proofs.counting.count_rules.Goals as goal

pub loop-rule-preserved : goal.loop-rule-preserved
loop-rule-preserved c =
    let next = items_count (rule_rows c.args.apart.now) (rules_rows c.args.apart.now) (λ x xs. refl) c.loop-rule.rule-index c.args.rules.now c.rule-item.result c.loop-rule-test.true c.rule-item.is in
    (omega (arith, next, c.count_rule-count.ensures.value, c.loop-rule.invariant.0), omega (arith, c.loop-rule.invariant.1, c.count_rule-count.ensures.small))

pub returns : goal.returns
returns c =
    let none = items_counted (rules_rows c.args.apart.now) refl c.loop-rule.rule-index c.args.rules.now c.loop-rule-test.false in
    record { value = omega (arith, none, c.loop-rule.invariant.0); small = omega (arith, c.loop-rule.invariant.1) }
