use Rattle.std.proofs.Common.{◌≡◌, ◌++◌, map, drop}
use Rattle.hw_text.specs.Parts.{ended_lines}
use Rattle.hw_flat.specs.TextWritten.{rule_text}
use Rattle.hw_flat.proofs.writing.put_rules.Given as goal

abbrev pub invariant-loop-rule : goal.invariant-loop-rule
invariant-loop-rule l = l.out.items ++ ended_lines (map rule_text (drop l.rule-index l.rules)) ≡ l.fn.out.items ++ ended_lines (map rule_text l.rules)
