-- Problems with fewer tugs.
use Rattle.std.specs.Prelude.{ℕ, ◌-◌, map}
use Rattle.hw_model.specs.declared.rule.Rule.{Rule}
use Rattle.hw_model.specs.declared.rule.Rule.TheVariants.{Pair, After, Tugs}
use Rattle.hw_model.specs.declared.rule.Step.{Step}
use Rattle.hw_model.specs.Problem.{Problem}

-- the step with this many tugs fewer
abbrev pub lessened_step : ℕ → Step → Step
lessened_step withdrawn step = record { from = step.from; fleet = step.fleet - withdrawn }

-- the rule with this many tugs fewer in its fleet, in each slot
abbrev pub lessened_rule : ℕ → Rule → Rule
lessened_rule withdrawn (Pair v w holes) = Pair v w holes
lessened_rule withdrawn (After v w gap) = After v w gap
lessened_rule withdrawn (Tugs fleet later jobs) = Tugs (fleet - withdrawn) (map (lessened_step withdrawn) later) jobs

-- the problem with this many tugs fewer in the fleet
abbrev pub lessened : ℕ → Problem → Problem
lessened withdrawn f = record { ships = f.ships; slots = f.slots; stay = f.stay; values = f.values; rules = map (lessened_rule withdrawn) f.rules }
