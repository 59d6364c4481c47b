-- The limits of a rule: they are a fact, so a value may carry them, and its jobs keep theirs.
use Rattle.std.proofs.Common.{ℕ, All, arith}
use Rattle.std.proofs.Props.{props}
use Rattle.hw_model.specs.Limits.{JobFits, RuleFits}
use Rattle.hw_model.specs.declared.rule.Rule.{Rule}
use Rattle.hw_model.specs.declared.rule.Rule.TheVariants.{Pair, After, Tugs}
use Rattle.hw_rules.specs.Fleets.{rule_jobs}

pub rule_fits_prop : (ships : ℕ) (rule : Rule) → IsProp (RuleFits ships rule)
rule_fits_prop ships (Pair v w holes) = hlevel props
rule_fits_prop ships (After v w gap) = hlevel props
rule_fits_prop ships (Tugs fleet later jobs) = hlevel props

-- the jobs of a rule keep their limits
pub jobs_fit : (ships : ℕ) (rule : Rule) → RuleFits ships rule → All (JobFits ships) (rule_jobs rule)
jobs_fit ships (Pair v w holes) fits = λ k d lt. absurd (omega (arith, lt))
jobs_fit ships (After v w gap) fits = λ k d lt. absurd (omega (arith, lt))
jobs_fit ships (Tugs fleet later jobs) fits = fits.each_job
