use Rattle.std.proofs.Common.{◌≡◌, ◌+◌, ◌≤◌, ◌*◌, length, drop}
use Rattle.hw_flat_programme.specs.Rows.{rules_rows}
use Rattle.hw_flat_programme.proofs.counting.count_rules.Given as goal

-- with the rows that are left it is all of them
abbrev pub invariant-loop-rule : goal.invariant-loop-rule
invariant-loop-rule l =
    (l.count + length (rules_rows l.apart (drop l.rule-index l.rules)) ≡ length (rules_rows l.apart l.rules)) × (l.count ≤ 12_280 * l.rule-index)
