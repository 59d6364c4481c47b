-- Figures over slots as text: in each slot a level, and filled down to a base.
use Rattle.std.specs.Prelude.{ℕ, ◌+◌, zero, suc, List, [], ◌∷◌, ◌++◌, codes, decimal}
use Rattle.std.specs.List.{concat}
use Rattle.hw_chart_svg.specs.Shapes.{shape}

-- down or up to the level of a slot, and along to its end
abbrev pub move : ℕ → ℕ → List ℕ
move slot level = concat (codes "V" ∷ decimal level ∷ codes "H" ∷ decimal (slot + 1) ∷ [])

-- `count` slots from this one on, each at its level
abbrev pub moves : (ℕ → ℕ) → ℕ → ℕ → List ℕ
moves level slot zero = []
moves level slot (suc more) = move slot (level slot) ++ moves level (slot + 1) more

-- a figure begins at the base of its first slot
unfoldable pub steps_begin : ℕ → ℕ → List ℕ
steps_begin first base = concat (codes "M" ∷ decimal first ∷ codes " " ∷ decimal base ∷ [])

-- a figure ends at its base
unfoldable pub steps_end : ℕ → List ℕ
steps_end base = concat (codes "V" ∷ decimal base ∷ codes "z" ∷ [])

-- the path over `count` slots from the first one on: in each its level, and below it down to the base
abbrev pub steps_path : (ℕ → ℕ) → ℕ → ℕ → ℕ → List ℕ
steps_path level first count base = concat (steps_begin first base ∷ moves level first count ∷ steps_end base ∷ [])

-- a filled figure over `count` slots from the first one on
abbrev pub steps : List ℕ → (ℕ → ℕ) → ℕ → ℕ → ℕ → List ℕ
steps class level first count base = shape class (steps_path level first count base)
