-- The height between two waters.
use Rattle.std.specs.Prelude.{ℕ, ◌+◌, ◌*◌, ◌/◌, ◌%◌, List, [], ◌∷◌, slice_index, ℤ, pos, negsuc, ◌+ℤ◌, ◌-ℤ◌, ◌*ℤ◌, ◌≤ℤ◌, neg_ℤ}
use Rattle.std.specs.Int.{int_div_euclid}

-- the twelfths that are done when a sixth begins, and those of that sixth
abbrev pub done_before : List ℕ
done_before = 0 ∷ 1 ∷ 3 ∷ 6 ∷ 9 ∷ 11 ∷ 12 ∷ []

abbrev pub done_in : List ℕ
done_in = 1 ∷ 2 ∷ 3 ∷ 3 ∷ 2 ∷ 1 ∷ []

-- how much of the way is done `past` slots after a water whose next one is `size` slots away, in parts of 12 times `size`
abbrev pub done : ℕ → ℕ → ℕ
done past size = slice_index done_before ((6 * past) / size) * size + slice_index done_in ((6 * past) / size) * ((6 * past) % size)

-- the height that many slots after a water, rounded down to the whole centimetre
abbrev pub height_between : ℤ → ℤ → ℕ → ℕ → ℤ
height_between low high past size = low +ℤ int_div_euclid ((high -ℤ low) *ℤ pos (done past size)) (pos (12 * size))

-- the height is within the limits
abbrev pub InLimits : ℤ → Type 0
InLimits h = (neg_ℤ (pos 2000) ≤ℤ h) × (h ≤ℤ pos 2000)

-- a part of a rise or of a fall
abbrev pub IsStep : ℤ → ℤ → Type 0
IsStep (pos a) step = (pos 0 ≤ℤ step) × (step ≤ℤ pos a)
IsStep (negsuc a) step = (negsuc a ≤ℤ step) × (step ≤ℤ pos 0)
