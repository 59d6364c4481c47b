-- The rows of a tide, one after another.
use Rattle.std.proofs.Common.{◌≡◌, ℕ, zero, suc, ◌+◌, ◌-◌, ◌<◌, ◌≤◌, ◌++◌, ℤ, pos, List, [], ◌∷◌, length, drop, get_or, nat_lt, refl, sym, ap, ◌∙◌, arith, append_assoc, add-one}
use Rattle.std.specs.List.{flat_map, range_with_len}
use Rattle.std.proofs.Math.Seq.{drop-cons}
use Rattle.std.proofs.lemmas.Bool.{le-ltb, cond-false}
use Rattle.hw_tide.specs.Twelfths.{height_between}
use Rattle.hw_tide.specs.Levels.{LevelsParts}
use Rattle.hw_tide.specs.Tides.{heights_between, heights_in_slot, slot_at}

-- a slot that isn't before the second water has the row that the waters from the second on give
pub next_water : (levels : List LevelsParts) (place slot : ℕ) → suc place < length levels → slot_at levels (suc place) ≤ slot → heights_in_slot (drop (suc place) levels) slot ≡ heights_in_slot (drop place levels) slot
next_water [] place slot inside not_before = absurd (omega (arith, inside))
next_water (water ∷ []) place slot inside not_before = absurd (omega (arith, inside))
next_water (water ∷ next ∷ more) zero slot inside not_before = sym (cond-false (nat_lt slot next.slot) _ _ (le-ltb slot next.slot not_before))
next_water (water ∷ next ∷ more) (suc place) slot inside not_before = next_water (next ∷ more) place slot (omega (arith, inside)) not_before

one_column : (past size : ℕ) (lows highs : List ℤ) (i : ℕ) → i < length lows → i < length highs → heights_between past size (drop i lows) (drop i highs) ≡ height_between (get_or lows i (pos 0)) (get_or highs i (pos 0)) past size ∷ heights_between past size (drop (suc i) lows) (drop (suc i) highs)
one_column past size lows highs i low high = rw (drop-cons lows i (pos 0), drop-cons highs i (pos 0)) refl

-- one more height of a row
pub more_columns : (past size : ℕ) (lows highs front whole : List ℤ) (i : ℕ) (h : ℤ) → i < length lows → length lows ≡ length highs → h ≡ height_between (get_or lows i (pos 0)) (get_or highs i (pos 0)) past size → front ++ heights_between past size (drop i lows) (drop i highs) ≡ whole → (front ++ h ∷ []) ++ heights_between past size (drop (i + 1) lows) (drop (i + 1) highs) ≡ whole
more_columns past size lows highs front whole i h low same is so_far =
    let one = one_column past size lows highs i low (omega (arith, low, same)) in
    rw (add-one, append_assoc, is, ← one) so_far

-- one more row
pub more_rows : (f : ℕ → List ℤ) (front whole row : List ℤ) (k n : ℕ) → k < n → row ≡ f k → front ++ flat_map f (range_with_len k (n - k)) ≡ whole → (front ++ row) ++ flat_map f (range_with_len (k + 1) (n - (k + 1))) ≡ whole
more_rows f front whole row k n lt is so_far =
    let size : n - k ≡ suc (n - (k + 1)) = omega arith in
    let h = rw size at so_far in
    append_assoc front row _ ∙ ap (λ r. front ++ (r ++ flat_map f (range_with_len (k + 1) (n - (k + 1))))) is ∙ h
