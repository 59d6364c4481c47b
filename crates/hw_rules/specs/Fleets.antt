-- The fleet and the jobs of a rule, whatever its kind.
use Rattle.std.specs.Prelude.{ℕ, List, [], Option, Some, None}
use Rattle.hw_model.specs.declared.rule.Job.{Job}
use Rattle.hw_model.specs.declared.rule.Rule.{Rule}
use Rattle.hw_model.specs.declared.rule.Rule.TheVariants.{Pair, After, Tugs}
use Rattle.hw_model.specs.declared.rule.Step.{Step}
use Rattle.hw_model.specs.Rules.{fleet_in}

-- a fleet from some slot on: the tugs in that slot, and the steps after it
pub record FleetFrom : Type 0 where
  pub tugs : ℕ
  pub later : List Step

-- the tugs that a rule's fleet has in a slot; a rule on two ships has none
abbrev pub rule_fleet : Rule → ℕ → ℕ
rule_fleet (Pair v w holes) slot = 0
rule_fleet (After v w gap) slot = 0
rule_fleet (Tugs fleet later jobs) slot = fleet_in fleet later slot

-- the jobs of a rule; a rule on two ships has none
abbrev pub rule_jobs : Rule → List Job
rule_jobs (Pair v w holes) = []
rule_jobs (After v w gap) = []
rule_jobs (Tugs fleet later jobs) = jobs

-- the jobs of a rule, and none where there is no rule
abbrev pub jobs_in : Option Rule → List Job
jobs_in None = []
jobs_in (Some rule) = rule_jobs rule
