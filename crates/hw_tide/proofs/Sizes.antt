-- How many heights a tide has, and how many rows.
use Rattle.std.proofs.Common.{◌≡◌, ℕ, zero, suc, ◌+◌, ◌-◌, ◌*◌, ◌≤◌, Bool, true, false, cond, ℤ, List, [], ◌∷◌, length, nat_lt, All, refl, sym, ap, ◌∙◌, arith, length-append}
use Rattle.std.specs.List.{flat_map, range_with_len}
use Rattle.std.proofs.lemmas.List.Elements.{All-head, All-tail}
use Rattle.hw_tide.specs.Levels.{LevelsParts, IsLevels}
use Rattle.hw_tide.specs.Tides.{heights_between, heights_in_slot, slot_at}

pub joined_size : (columns : ℕ) (levels : List LevelsParts) → All (IsLevels columns) levels → length (flat_map (λ l. l.heights) levels) ≡ length levels * columns
joined_size columns [] each = omega arith
joined_size columns (l ∷ ls) each =
    let one = (All-head (IsLevels columns) l ls each).each_height in
    let rest = joined_size columns ls (All-tail (IsLevels columns) l ls each) in
    omega (arith, one, rest, length-append l.heights (flat_map (λ l. l.heights) ls))

between_size : (past size : ℕ) (lows highs : List ℤ) → length lows ≡ length highs → length (heights_between past size lows highs) ≡ length lows
between_size past size [] highs same = refl
between_size past size (low ∷ lows) [] same = absurd (omega (arith, same))
between_size past size (low ∷ lows) (high ∷ highs) same = ap (λ n. suc n) (between_size past size lows highs (omega (arith, same)))

pub row_size : (columns : ℕ) (levels : List LevelsParts) (slot : ℕ) → 1 ≤ length levels → All (IsLevels columns) levels → length (heights_in_slot levels slot) ≡ columns
row_size columns [] slot some each = absurd (omega (arith, some))
row_size columns (water ∷ []) slot some each = (All-head (IsLevels columns) water [] each).each_height
row_size columns (water ∷ next ∷ more) slot some each =
    let here = (All-head (IsLevels columns) water (next ∷ more) each).each_height in
    let rest = All-tail (IsLevels columns) water (next ∷ more) each in
    let there = (All-head (IsLevels columns) next more rest).each_height in
    let between = between_size (slot - water.slot) (next.slot - water.slot) water.heights next.heights (here ∙ sym there) ∙ here in
    either (nat_lt slot next.slot) (heights_between (slot - water.slot) (next.slot - water.slot) water.heights next.heights) (heights_in_slot (next ∷ more) slot) columns between (row_size columns (next ∷ more) slot (omega arith) rest)
  where
    either : (b : Bool) (xs ys : List ℤ) (n : ℕ) → length xs ≡ n → length ys ≡ n → length (cond b xs ys) ≡ n
    either true xs ys n h g = h
    either false xs ys n h g = g

pub range_size : (f : ℕ → List ℤ) (columns k n : ℕ) → ((i : ℕ) → length (f i) ≡ columns) → length (flat_map f (range_with_len k n)) ≡ n * columns
range_size f columns k zero each = omega arith
range_size f columns k (suc n) each =
    let rest = range_size f columns (k + 1) n each in
    omega (arith, each k, rest, length-append (f k) (flat_map f (range_with_len (k + 1) n)))

pub few_slots : (columns : ℕ) (levels : List LevelsParts) (place : ℕ) → All (IsLevels columns) levels → slot_at levels place ≤ 2_047
few_slots columns [] place each = omega arith
few_slots columns (l ∷ ls) zero each = (All-head (IsLevels columns) l ls each).few_slots
few_slots columns (l ∷ ls) (suc place) each = few_slots columns ls place (All-tail (IsLevels columns) l ls each)
