-- The sources of rules on tugs.
use Rattle.std.specs.Prelude.{◌≡◌, ℕ, List, Option, Some, None, sum_by, ⊤}
use Rattle.hw_model.specs.declared.rule.Job.{Job}
use Rattle.hw_model.specs.declared.rule.Rule.{Rule}
use Rattle.hw_model.specs.declared.rule.Rule.TheVariants.{Pair, After, Tugs}
use Rattle.hw_model.specs.declared.source.Source.{Source}
use Rattle.hw_model.specs.Problem.{Problem}
use Rattle.hw_model.specs.Rooms.{RoomModel}
use Rattle.hw_model.specs.Refuting.{IsSourceOf, forced_by}
use Rattle.hw_rules.specs.Fleets as fleets
use Rattle.hw_prop.specs.Ruled.{rule_of}
use Rattle.hw_rules.specs.Fleets.{jobs_in}

-- a rule on tugs
abbrev pub IsTugs : Option Rule → Type 0
IsTugs None = ⊥
IsTugs (Some (Pair v w holes)) = ⊥
IsTugs (Some (After v w gap)) = ⊥
IsTugs (Some (Tugs fleet later jobs)) = ⊤

-- the source of a rule on tugs
abbrev pub OfTugs : Problem → Source → Type 0
OfTugs f source = IsSourceOf f source × IsTugs (rule_of f source)

-- the tugs that a rule's fleet has in a slot; a rule on two ships has none
abbrev pub fleet_by : Option Rule → ℕ → ℕ
fleet_by None slot = 0
fleet_by (Some rule) slot = fleets.rule_fleet rule slot

-- the tugs that the fleet of a source has in a slot
abbrev pub fleet_of : Problem → Source → ℕ → ℕ
fleet_of f source slot = fleet_by (rule_of f source) slot

-- the jobs of a source, none of one that is no rule on tugs
abbrev pub jobs_of : Problem → Source → List Job
jobs_of f source = jobs_in (rule_of f source)

-- the tugs that the jobs of a source hold in a slot wherever their ships sail in their ranges
abbrev pub tugs_certainly_held : Problem → Source → RoomModel → ℕ → ℕ
tugs_certainly_held f source room slot = sum_by (forced_by room slot) (jobs_of f source)

-- this many tugs are held so in a slot, in any room for which something is ready
abbrev pub HeldWhere : (Problem → RoomModel → Type 0) → Source → ℕ → ℕ → Type 0
HeldWhere ready source slot held = (f : Problem) (room : RoomModel) → ready f room → held ≡ tugs_certainly_held f source room slot
