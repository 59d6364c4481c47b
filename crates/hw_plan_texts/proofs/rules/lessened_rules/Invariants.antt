use Rattle.std.proofs.Common.{◌≡◌, map, take}
use Rattle.hw_plan_texts.specs.Fleets.{lessened_rule}
use Rattle.hw_plan_texts.proofs.rules.lessened_rules.Given as goal

abbrev pub invariant-loop-rule : goal.invariant-loop-rule
invariant-loop-rule l = l.list.items ≡ map (lessened_rule l.withdrawn) (take l.rule-index l.rules)
