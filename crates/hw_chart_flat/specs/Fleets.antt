-- The fleets of tugs that a picture shows: the first eight rules on tugs.
use Rattle.std.specs.Prelude.{ℕ, ◌+◌, max, min, Bool, true, false, nat_lt, if◌then◌else◌, List, [], ◌∷◌, Option, Some, None, slice_index, take, drop, filter, length}
use Rattle.hw_model.specs.declared.rule.Job.{Job}
use Rattle.hw_model.specs.declared.rule.Rule.{Rule}
use Rattle.hw_model.specs.declared.rule.Rule.TheVariants.{Pair, After, Tugs}
use Rattle.hw_model.specs.declared.rule.Step.{Step}
use Rattle.hw_model.specs.Problem.{Problem, horizon}
use Rattle.hw_rules.specs.Fleets.{rule_jobs}
use Rattle.hw_chart_flat.specs.declared.fleets.Fleets.{Fleets}

-- a rule on tugs
abbrev pub is_fleet : Rule → Bool
is_fleet (Pair v w holes) = false
is_fleet (After v w gap) = false
is_fleet (Tugs fleet later jobs) = true

-- the tugs with which a rule's fleet begins
abbrev pub first_fleet : Rule → ℕ
first_fleet (Pair v w holes) = 0
first_fleet (After v w gap) = 0
first_fleet (Tugs fleet later jobs) = fleet

-- the steps that follow
abbrev pub steps_of : Rule → List Step
steps_of (Pair v w holes) = []
steps_of (After v w gap) = []
steps_of (Tugs fleet later jobs) = later

-- the fleet hasn't one number of tugs for all slots
abbrev pub has_steps : Rule → Bool
has_steps rule = nat_lt 0 (length (steps_of rule))

-- the greatest and the least number of tugs of a fleet that begins so and has these steps
abbrev pub greatest_fleet : ℕ → List Step → ℕ
greatest_fleet fleet [] = fleet
greatest_fleet fleet (step ∷ later) = max fleet (greatest_fleet step.fleet later)

abbrev pub least_fleet : ℕ → List Step → ℕ
least_fleet fleet [] = fleet
least_fleet fleet (step ∷ later) = min fleet (least_fleet step.fleet later)

-- the first of the rules on tugs, at most `count`
abbrev pub first_fleets : ℕ → List Rule → List Rule
first_fleets count rules = take count (filter is_fleet rules)

-- the fleets that are still to come
unfoldable pub fleets_in : Fleets → List Rule
fleets_in fleets = first_fleets fleets.left (drop fleets.from fleets.rules.now)

unfoldable pub fleets : Problem → List Rule
fleets f = first_fleets 8 f.rules

-- the end of a job of a ship that sails, where ships sail in this many slots
abbrev pub job_end : ℕ → List ℕ → Job → ℕ
job_end slots table job = if nat_lt (slice_index table job.ship) slots then slice_index table job.ship + job.hold else 0

-- the last end of the jobs
abbrev pub jobs_end : ℕ → List ℕ → List Job → ℕ
jobs_end slots table [] = 0
jobs_end slots table (job ∷ jobs) = max (job_end slots table job) (jobs_end slots table jobs)

-- the last end of the jobs of several fleets, and at least the number of slots in which ships sail
abbrev pub fleets_end : ℕ → List ℕ → List Rule → ℕ
fleets_end slots table [] = slots
fleets_end slots table (rule ∷ rules) = max (jobs_end slots table (rule_jobs rule)) (fleets_end slots table rules)

-- how many slots a picture shows: those in which ships sail, and as many more as its tugs are held
unfoldable pub picture_span : Problem → Option (List ℕ) → ℕ
picture_span f None = horizon f
picture_span f (Some table) = fleets_end (horizon f) table (fleets f)
