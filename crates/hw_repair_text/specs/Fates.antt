-- What a repair makes of each ship, and what ships carry.
use Rattle.std.specs.Prelude.{ℕ, ◌+◌, Bool, true, false, not, List, [], ◌∷◌, if◌then◌else◌}
use Rattle.hw_model.specs.Problem.{Problem, stays}
use Rattle.hw_flat.specs.Carried.{worth}
use Rattle.hw_repair.specs.declared.plan.Wish.{Wish}
use Rattle.hw_repair.specs.declared.plan.Wish.TheVariants as wishes
use Rattle.hw_repair.specs.Wishes.{moves_from_wish}
use Rattle.hw_repair_text.specs.declared.fate.Fate.{Fate}
use Rattle.hw_repair_text.specs.declared.fate.Fate.TheVariants.{Moved, Kept, Sailed}

-- ---- ships

-- the ship has sailed: the plan keeps its slot, which isn't that of staying
abbrev pub wish_has_sailed : Problem → Wish → Bool
wish_has_sailed f (wishes.Kept slot) = not (stays f slot)
wish_has_sailed f (wishes.Planned slot from) = false

-- moved where its slot isn't the wish's; otherwise it has sailed, or it keeps its slot
abbrev pub fate : Problem → Wish → ℕ → Fate
fate f wish slot =
    if moves_from_wish (wish, slot) then Moved
    else if wish_has_sailed f wish then Sailed
    else Kept

abbrev pub is_moved : Fate → Bool
is_moved Moved = true
is_moved Kept = false
is_moved Sailed = false

-- of each ship, as far as both lists go
abbrev pub fates : Problem → List Wish → List ℕ → List Fate
fates f [] table = []
fates f (wish ∷ plan) [] = []
fates f (wish ∷ plan) (slot ∷ table) = fate f wish slot ∷ fates f plan table

-- ---- cargo

-- what the ships from this one on carry in these slots
abbrev pub worths : Problem → ℕ → List ℕ → ℕ
worths f ship [] = 0
worths f ship (slot ∷ slots) = worth f ship slot + worths f (ship + 1) slots
