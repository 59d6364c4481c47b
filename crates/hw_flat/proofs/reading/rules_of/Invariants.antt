use Rattle.std.proofs.Common.{◌≡◌, ◌+◌, ◌-◌, ◌≤◌, length}
use Rattle.hw_text.specs.Parts.{parts_of}
use Rattle.hw_flat.specs.Text.{rules_at}
use Rattle.hw_flat.specs.TextForms.{rule_form}
use Rattle.hw_flat.proofs.Lines.{prefixed}
use Rattle.hw_flat.proofs.reading.rules_of.Given as goal

abbrev pub invariant-loop-line : goal.invariant-loop-line
invariant-loop-line l = record {
  few : length l.rules.items ≤ 4_000;
  told : prefixed l.rules.items (rules_at (rule_form l.hours l.ships l.slots) (l.first + length l.rules.items) (4_000 - length l.rules.items) (parts_of 10 l.rest)) ≡ rules_at (rule_form l.hours l.ships l.slots) l.first 4_000 (parts_of 10 l.bytes);
}

abbrev pub decreases-loop-line : goal.decreases-loop-line
decreases-loop-line l = length l.rest
