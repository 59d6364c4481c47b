-- Marks of sources: one that has none is known to be quiet.
use Rattle.std.specs.Prelude.{◌≡◌, ℕ, ◌+◌, ◌*◌, ◌<◌, ◌≤◌, Bool, true, false, List, Option, Some, None, Contains, length, slice_index_or}

-- the mark at a place; there is one after the last place
abbrev pub is_place_marked : List Bool → ℕ → Bool
is_place_marked marks place = slice_index_or marks place true

-- the places are marked, as far as there are marks for them, no other one is, and no mark is taken away
pub record MarksPlaces (places : List ℕ) (old new : List Bool) : Type 0 where
  pub same_length : length new ≡ length old
  pub marked : (place : ℕ) → Contains places place → is_place_marked new place ≡ true
  pub stays : (place : ℕ) → is_place_marked old place ≡ true → is_place_marked new place ≡ true
  pub only : (place : ℕ) → is_place_marked old place ≡ false → is_place_marked new place ≡ true → Contains places place

-- no place from the first one on and before the second is marked
abbrev pub ClearWithin : List Bool → ℕ → ℕ → Type 0
ClearWithin marks from upto = (place : ℕ) → from ≤ place → place < upto → is_place_marked marks place ≡ false

-- no place is marked
abbrev pub AllClear : List Bool → Type 0
AllClear marks = ClearWithin marks 0 (length marks)

-- the first marked place from a place on and before another one, none where there is none
abbrev pub NextWithin : List Bool → ℕ → ℕ → Option ℕ → Type 0
NextWithin marks from upto None = ClearWithin marks from upto
NextWithin marks from upto (Some place) = (from ≤ place) × (place < upto) × (is_place_marked marks place ≡ true) × ClearWithin marks from place

-- the first marked place from a place on, none where there is none
abbrev pub NextMarked : List Bool → ℕ → Option ℕ → Type 0
NextMarked marks from None = ClearWithin marks from (length marks)
NextMarked marks from (Some place) = (from ≤ place) × (place < length marks) × (is_place_marked marks place ≡ true) × ClearWithin marks from place

-- each place is in a block of 64, and a block that isn't set has no marked place
pub record KeepsBlocks (marks blocks : List Bool) : Type 0 where
  pub covers : length marks ≤ length blocks * 64
  pub clear : (block place : ℕ) → is_place_marked blocks block ≡ false → block * 64 ≤ place → place < block * 64 + 64 → place < length marks → is_place_marked marks place ≡ false
