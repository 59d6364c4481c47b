-- Whether a toll is one of a problem, as a test that computes.
use Rattle.std.specs.Prelude.{ℕ, Bool, true, false, nat_le, nat_lt, ◌==◌, ◌&&◌, List, [], ◌∷◌, Option, None, Some, length}
use Rattle.std.specs.List.{list_all, list_any, range_with_len}
use Rattle.hw_model.specs.declared.limits.TheConstants.{MOST_SHIPS, MOST_TUGS, MOST_HELD}
use Rattle.hw_model.specs.declared.rule.Rule.{Rule}
use Rattle.hw_model.specs.declared.rule.Rule.TheVariants as rules
use Rattle.hw_model.specs.declared.source.Source.TheVariants as sources
use Rattle.hw_model.specs.Problem.{Problem, horizon}
use Rattle.hw_model.specs.Rules.{fleet_in}
use Rattle.hw_model.specs.RefutingComputed.{refutes}
use Rattle.hw_price_laws.specs.declared.toll.Block.{Block}
use Rattle.hw_price_laws.specs.declared.toll.Toll.{Toll}
use Rattle.hw_price_laws.specs.declared.toll.Toll.TheVariants.{Narrows, Tugs}
use Rattle.hw_price_laws.specs.Tolls.{rule_at, two_blocks, heaviest}

-- the block is of one of the ships, not empty, and of the problem's slots
abbrev pub block_fits : Problem → Block → Bool
block_fits f block = nat_lt block.ship f.ships && (nat_le block.low block.high && nat_lt block.high f.slots)

-- two blocks of ascending ships, and a rule refutes that both ships lie in theirs
abbrev pub are_apart : Problem → Block → Block → Bool
are_apart f a b = nat_lt a.ship b.ship && list_any (λ place. refutes f (sources.Rule place) None (two_blocks f a b)) (range_with_len 0 (length f.rules))

-- each two of the blocks are apart
abbrev pub all_apart : Problem → List Block → Bool
all_apart f [] = true
all_apart f (block ∷ blocks) = list_all (are_apart f block) blocks && all_apart f blocks

-- 1 to `MOST_SHIPS` blocks, each two of them apart
abbrev pub narrows_fit : Problem → List Block → Bool
narrows_fit f blocks = (nat_le 1 (length blocks) && nat_le (length blocks) MOST_SHIPS) && (list_all (block_fits f) blocks && all_apart f blocks)

-- the rule is one on tugs with a weight for each job, and jobs that its fleet of the slot can serve together have at most this
-- weight
abbrev pub weighs_up_to : ℕ → List ℕ → ℕ → Option Rule → Bool
weighs_up_to slot weights most None = false
weighs_up_to slot weights most (Some (rules.Pair v w holes)) = false
weighs_up_to slot weights most (Some (rules.After v w gap)) = false
weighs_up_to slot weights most (Some (rules.Tugs fleet later jobs)) = length weights == length jobs && nat_le (heaviest weights jobs (fleet_in fleet later slot)) most

-- the restriction is such a rule, the slot is one of the horizon, and the numbers are small
abbrev pub tugs_fit : Problem → ℕ → ℕ → List ℕ → ℕ → Bool
tugs_fit f n slot weights most = nat_le f.ships n && (weighs_up_to slot weights most (rule_at f n) && (nat_lt slot (horizon f) && (list_all (λ weight. nat_le weight MOST_TUGS) weights && nat_le most MOST_HELD)))

-- the toll is one of the problem
abbrev pub is_toll : Problem → Toll → Bool
is_toll f (Narrows blocks) = narrows_fit f blocks
is_toll f (Tugs n slot weights most) = tugs_fit f n slot weights most
