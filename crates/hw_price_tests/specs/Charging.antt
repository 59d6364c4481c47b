-- What charging adds to costs.
use Rattle.std.specs.Prelude.{◌≡◌, ℕ, ◌+◌, ◌*◌, ◌<◌, ◌≤◌, List, [], length, sum_by, slice_index, slice_index_or, if◌then◌else◌}
use Rattle.hw_price_laws.specs.declared.limits.TheConstants.{MOST_COST}
use Rattle.hw_price_laws.specs.declared.toll.Block.{Block}
use Rattle.hw_price_laws.specs.declared.toll.Charge.{Charge}
use Rattle.hw_price_laws.specs.Tolls.{lies_in}
use Rattle.hw_price_laws.specs.Computed.{takes}

-- the most that a ship pays in a slot, in parts
abbrev pub most_paid : ℕ
most_paid = MOST_COST

-- what a ship pays in a slot for charges at this price
abbrev pub pays_for : ℕ → List Charge → ℕ → ℕ → ℕ
pays_for price charges ship slot = price * sum_by (takes ship slot) charges

-- ---- of one ship

-- in the slots of a range the ship pays this much more, in all others what it did
abbrev pub PaysMore : Block → (ℕ → ℕ) → List ℕ → List ℕ → Type 0
PaysMore range more old new = (k : ℕ) → slice_index new k ≡ slice_index old k + (if lies_in range.low range.high k then more k else 0)

-- ---- of all ships, by a row of costs for each

-- what a ship pays in a slot
abbrev pub cost_at : List (List ℕ) → ℕ → ℕ → ℕ
cost_at rows ship slot = slice_index (slice_index_or rows ship []) slot

-- there is a row for the ship, with a cost for the slot
pub record HasCost (rows : List (List ℕ)) (ship slot : ℕ) : Type 0 where
  pub ship_in : ship < length rows
  pub slot_in : slot < length (slice_index_or rows ship [])

-- a row for each ship, with a cost for each slot
pub record AreRows (ships slots : ℕ) (rows : List (List ℕ)) : Type 0 where
  pub each_ship : length rows ≡ ships
  pub each_slot : (ship : ℕ) → ship < ships → length (slice_index_or rows ship []) ≡ slots

-- each ship pays this much more in each slot
pub record AllPayMore (more : ℕ → ℕ → ℕ) (old new : List (List ℕ)) : Type 0 where
  pub each_slot : (ship : ℕ) → length (slice_index_or new ship []) ≡ length (slice_index_or old ship [])
  pub paid : (ship slot : ℕ) → cost_at new ship slot ≡ cost_at old ship slot + more ship slot

-- if each ship pays this much more in each slot, none pays too much
abbrev pub CanPay : (ℕ → ℕ → ℕ) → List (List ℕ) → Type 0
CanPay more rows = (ship slot : ℕ) → cost_at rows ship slot + more ship slot ≤ most_paid
