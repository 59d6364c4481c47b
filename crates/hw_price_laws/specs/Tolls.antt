-- Tolls: resources of which every permitted timetable takes at most a given amount.
use Rattle.std.specs.Prelude.{◌≡◌, ℕ, ◌+◌, ◌-◌, ◌<◌, ◌≤◌, max, Bool, nat_le, ◌&&◌, if◌then◌else◌, List, [], ◌∷◌, Option, None, Some, length, map, sum_by, slice_get, slice_index, All, AllPairs, IsSomeAnd}
use Rattle.hw_model.specs.declared.limits.TheConstants.{MOST_SHIPS, MOST_TUGS, MOST_HELD}
use Rattle.hw_model.specs.declared.rule.Job.{Job}
use Rattle.hw_model.specs.declared.rule.Rule.{Rule}
use Rattle.hw_model.specs.declared.rule.Rule.TheVariants as rules
use Rattle.hw_model.specs.declared.source.Source.TheVariants as sources
use Rattle.hw_model.specs.Problem.{Problem, horizon, shape_of}
use Rattle.hw_model.specs.Rules.{fleet_in}
use Rattle.hw_model.specs.Rooms.{RoomModel, whole_room}
use Rattle.hw_model.specs.Narrowing.{with_range}
use Rattle.hw_model.specs.Refuting.{Refutes}
use Rattle.hw_price_laws.specs.declared.toll.Block.{Block}
use Rattle.hw_price_laws.specs.declared.toll.Charge.{Charge}
use Rattle.hw_price_laws.specs.declared.toll.Toll.{Toll}
use Rattle.hw_price_laws.specs.declared.toll.Toll.TheVariants.{Narrows, Tugs}

-- ---- what a timetable takes

-- the slot lies in a range
abbrev pub lies_in : ℕ → ℕ → ℕ → Bool
lies_in low high slot = nat_le low slot && nat_le slot high

-- a ship in its block takes one
abbrev pub block_charge : Block → Charge
block_charge block = record { ship = block.ship; low = block.low; high = block.high; amount = 1 }

-- a ship that holds its job's tugs in a slot takes the job's weight
abbrev pub job_charge : ℕ → ℕ → Job → Charge
job_charge slot weight job = record { ship = job.ship; low = slot + 1 - job.hold; high = slot; amount = weight }

-- the charges of jobs with their weights
abbrev pub job_charges : ℕ → List ℕ → List Job → List Charge
job_charges slot [] jobs = []
job_charges slot (weight ∷ weights) [] = []
job_charges slot (weight ∷ weights) (job ∷ jobs) = job_charge slot weight job ∷ job_charges slot weights jobs

-- the charges of a rule's jobs; other rules have none
abbrev pub rule_charges : ℕ → List ℕ → Option Rule → List Charge
rule_charges slot weights None = []
rule_charges slot weights (Some (rules.Pair v w holes)) = []
rule_charges slot weights (Some (rules.After v w gap)) = []
rule_charges slot weights (Some (rules.Tugs fleet later jobs)) = job_charges slot weights jobs

-- the rule with this number among the restrictions, which count the ships' windows first
abbrev pub rule_at : Problem → ℕ → Option Rule
rule_at f n = slice_get f.rules (n - f.ships)

-- the charges of a toll
abbrev pub charges : Problem → Toll → List Charge
charges f (Narrows blocks) = map block_charge blocks
charges f (Tugs n slot weights most) = rule_charges slot weights (rule_at f n)

-- what a timetable takes of a charge
abbrev pub charged : List ℕ → Charge → ℕ
charged table charge = if lies_in charge.low charge.high (slice_index table charge.ship) then charge.amount else 0

-- what a timetable takes of a toll
abbrev pub usage : Problem → Toll → List ℕ → ℕ
usage f toll table = sum_by (charged table) (charges f toll)

-- ---- how much there is

-- what a permitted timetable takes at most
abbrev pub capacity : Toll → ℕ
capacity (Narrows blocks) = 1
capacity (Tugs n slot weights most) = most

-- the greatest weight of jobs that together hold no more than this many tugs
abbrev pub heaviest : List ℕ → List Job → ℕ → ℕ
heaviest [] jobs tugs = 0
heaviest (weight ∷ weights) [] tugs = 0
heaviest (weight ∷ weights) (job ∷ jobs) tugs = if nat_le job.tugs tugs then max (heaviest weights jobs tugs) (weight + heaviest weights jobs (tugs - job.tugs)) else heaviest weights jobs tugs

-- ---- what is a toll of a problem

-- a block of one of the ships, not empty, and of the problem's slots
pub record BlockFits (f : Problem) (block : Block) : Type 0 where
  pub ship_in : block.ship < f.ships
  pub ordered : block.low ≤ block.high
  pub slot_in : block.high < f.slots

-- the room in which two ships lie in their blocks and all else is open
abbrev pub two_blocks : Problem → Block → Block → RoomModel
two_blocks f a b = with_range (with_range (whole_room (shape_of f)) a.ship a.low a.high) b.ship b.low b.high

-- two blocks of ascending ships, and a rule refutes that both ships lie in theirs
pub record Apart (f : Problem) (a b : Block) : Type 0 where
  pub ascends : a.ship < b.ship
  pub place : ℕ
  pub place_in : place < length f.rules
  pub refuted : Refutes f (sources.Rule place) None (two_blocks f a b)

-- 1 to `MOST_SHIPS` blocks, each two of them apart
pub record NarrowsFit (f : Problem) (blocks : List Block) : Type 0 where
  pub some_block : 1 ≤ length blocks
  pub few_blocks : length blocks ≤ MOST_SHIPS
  pub each_block : All (BlockFits f) blocks
  pub apart : AllPairs (Apart f) blocks

-- there is a weight for each job, and jobs that the fleet can serve together have at most this weight
abbrev pub Weigh : ℕ → List Job → List ℕ → ℕ → Type 0
Weigh fleet jobs weights most = (length weights ≡ length jobs) × (heaviest weights jobs fleet ≤ most)

-- the rule is one on tugs with a weight for each job, and jobs that its fleet of the slot can serve together have at most this
-- weight
abbrev pub WeighsUpTo : ℕ → List ℕ → ℕ → Rule → Type 0
WeighsUpTo slot weights most (rules.Pair v w holes) = ⊥
WeighsUpTo slot weights most (rules.After v w gap) = ⊥
WeighsUpTo slot weights most (rules.Tugs fleet later jobs) = Weigh (fleet_in fleet later slot) jobs weights most

-- the restriction is such a rule, the slot is one of the horizon, and the numbers are small
pub record TugsTollFits (f : Problem) (n slot : ℕ) (weights : List ℕ) (most : ℕ) : Type 0 where
  pub past_ships : f.ships ≤ n
  pub weighed : IsSomeAnd (rule_at f n) (WeighsUpTo slot weights most)
  pub slot_in : slot < horizon f
  pub small_weights : All (λ weight. weight ≤ MOST_TUGS) weights
  pub small_most : most ≤ MOST_HELD

-- the toll is one of the problem
abbrev pub IsToll : Problem → Toll → Type 0
IsToll f (Narrows blocks) = NarrowsFit f blocks
IsToll f (Tugs n slot weights most) = TugsTollFits f n slot weights most
