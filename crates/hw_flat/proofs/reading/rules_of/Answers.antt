use Rattle.std.proofs.Common.{◌≡◌, ◌+◌, ◌-◌, ◌<◌, ◌++◌, [], ◌∷◌, length, sym, ◌∙◌, arith}
use Rattle.hw_text.specs.Parts.{parts_of}
use Rattle.hw_flat.specs.Text.{rules_at}
use Rattle.hw_flat.specs.TextForms.{rule_form}
use Rattle.hw_flat.proofs.Rows.{more_fit}
use Rattle.hw_flat.proofs.Lines.{rules_ended, rules_fail, rules_too_many, rules_go_on, rules_cut_off}
use Rattle.hw_flat.proofs.reading.rules_of.Goals as goal

pub returns-then-is_text : goal.returns-then-is_text
returns-then-is_text c =
    rules_ended c.loop-line.rules.items (rule_form c.args.hours c.args.ships c.args.slots) (c.args.first + length c.loop-line.rules.items) (4_000 - length c.loop-line.rules.items) (parts_of 10 c.loop-line.rest.now) c.in-Some.line.now c.in-Some.after.now (rules_at (rule_form c.args.hours c.args.ships c.args.slots) c.args.first 4_000 (parts_of 10 c.args.bytes.now))
    c.in-Some.ensures.line c.if-is_text.ensures c.loop-line.invariant.told

pub returns-in_default-2 : goal.returns-in_default-2
returns-in_default-2 c =
    let count : c.len.result ≡ length c.loop-line.rules.items = omega (arith, c.len.ensures) in
    rw count
    (rules_fail c.loop-line.rules.items (rule_form c.args.hours c.args.ships c.args.slots) (c.args.first + length c.loop-line.rules.items) (4_000 - length c.loop-line.rules.items) (parts_of 10 c.loop-line.rest.now) c.in-Some.line.now c.in-Some.after.now (rules_at (rule_form c.args.hours c.args.ships c.args.slots) c.args.first 4_000 (parts_of 10 c.args.bytes.now))
    c.in-Some.ensures.line (sym c.if-is_text.ensures) (sym c.in_ok-rule.ensures ∙ c.in_default-2.is) c.loop-line.invariant.told)

pub returns-then-len-eq-MOST_RULES : goal.returns-then-len-eq-MOST_RULES
returns-then-len-eq-MOST_RULES c =
    let full : 4_000 - length c.loop-line.rules.items ≡ 0 = omega (arith, c.if-len-eq-MOST_RULES.true, c.len-in-Some.ensures) in
    let count : c.len.result ≡ length c.loop-line.rules.items = omega (arith, c.len.ensures) in
    rw count
    (rules_too_many c.loop-line.rules.items c.in-Some-2.rule (rule_form c.args.hours c.args.ships c.args.slots) (c.args.first + length c.loop-line.rules.items) (4_000 - length c.loop-line.rules.items) (parts_of 10 c.loop-line.rest.now) c.in-Some.line.now c.in-Some.after.now (rules_at (rule_form c.args.hours c.args.ships c.args.slots) c.args.first 4_000 (parts_of 10 c.args.bytes.now))
    c.in-Some.ensures.line (sym c.if-is_text.ensures) (sym c.in_ok-rule.ensures ∙ c.in-Some-2.is) full c.loop-line.invariant.told)

pub loop-line-preserved : goal.loop-line-preserved
loop-line-preserved c =
    let room : length c.loop-line.rules.items < 4_000 = omega (arith, c.if-len-eq-MOST_RULES.false, c.len-in-Some.ensures, c.loop-line.invariant.few) in
    let grown : c.push.new.self.items ≡ c.loop-line.rules.items ++ c.in-Some-2.rule ∷ [] = c.in_ok-push.ensures.items in
    record {
      few = more_fit c.loop-line.rules.items c.push.new.self.items c.in-Some-2.rule 4_000 room grown;
      told = rules_go_on c.loop-line.rules.items c.push.new.self.items c.in-Some-2.rule (rule_form c.args.hours c.args.ships c.args.slots) c.args.first 4_000 (parts_of 10 c.loop-line.rest.now) c.in-Some.line.now c.in-Some.after.now (rules_at (rule_form c.args.hours c.args.ships c.args.slots) c.args.first 4_000 (parts_of 10 c.args.bytes.now))
          c.in-Some.ensures.line (sym c.if-is_text.ensures) (sym c.in_ok-rule.ensures ∙ c.in-Some-2.is) room grown c.loop-line.invariant.told;
    }

pub returns : goal.returns
returns c =
    let count : c.len-2.result ≡ length c.loop-line.rules.items = omega (arith, c.len-2.ensures) in
    rw count (rules_cut_off c.loop-line.rules.items (rule_form c.args.hours c.args.ships c.args.slots) (c.args.first + length c.loop-line.rules.items) (4_000 - length c.loop-line.rules.items) (parts_of 10 c.loop-line.rest.now) (rules_at (rule_form c.args.hours c.args.ships c.args.slots) c.args.first 4_000 (parts_of 10 c.args.bytes.now)) (sym c.in_default.ensures.line) c.loop-line.invariant.told)
