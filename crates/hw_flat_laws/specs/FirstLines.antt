-- The lines of a text, counted from 1. A line is a part of the text that a line feed ends.
use Rattle.std.specs.Prelude.{◌≡◌, ℕ, zero, suc, ◌-◌, ◌<◌, List, [], ◌∷◌, length, take, Option, Some, None}
use Rattle.hw_text.specs.Parts.{parts_of}

-- the number of the parts: the lines, and what follows the last of them
abbrev pub part_count : List ℕ → ℕ
part_count bytes = length (parts_of 10 bytes)

-- the line after `count` others
abbrev pub later_line : ℕ → List (List ℕ) → Option (List ℕ)
later_line count [] = None
later_line count (line ∷ []) = None
later_line zero (line ∷ next ∷ parts) = Some line
later_line (suc count) (line ∷ next ∷ parts) = later_line count (next ∷ parts)

-- the line of this number
abbrev pub numbered_line : List (List ℕ) → ℕ → Option (List ℕ)
numbered_line parts number = later_line (number - 1) parts

-- both texts have at least `count` lines and more after them, and these lines are the same
pub record SameLines (count : ℕ) (bytes others : List ℕ) : Type 0 where
  pub ended : count < part_count bytes
  pub others_ended : count < part_count others
  pub same : take count (parts_of 10 others) ≡ take count (parts_of 10 bytes)
