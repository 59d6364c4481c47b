-- The branches that wait beside one, by the literals of that one.
use Rattle.std.specs.Prelude.{Bool, List, [], ◌∷◌, ◌++◌, reverse, if◌then◌else◌}
use Rattle.hw_model.specs.declared.lit.Lit.{Lit}
use Rattle.hw_model.specs.declared.lit.Lit.TheVariants.{Before, AtOrAfter}
use Rattle.hw_split_text.specs.Splits.{Branch}

-- the later side of the fork at which the branch took this literal, after those in `back`, the last of them first; none if it took the later side itself
abbrev pub later_side : Lit → List Lit → List Branch
later_side (Before ship slot) back = reverse (AtOrAfter ship slot ∷ back) ∷ []
later_side lit back = []

-- the later sides that wait beside a branch, whose last literal comes first here
abbrev pub later_sides : List Lit → List Branch
later_sides [] = []
later_sides (lit ∷ back) = later_side lit back ++ later_sides back

-- the branches that wait where this one is next, or none at the end
abbrev pub waits : Bool → Branch → List Branch
waits ended branch = if ended then [] else branch ∷ later_sides (reverse branch)
