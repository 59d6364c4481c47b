-- The one text of a plan.
use Rattle.std.specs.Prelude.{ℕ, ◌==◌, List, [], ◌∷◌, ◌++◌, codes, decimal, if◌then◌else◌}
use Rattle.hw_repair.specs.declared.plan.Wish.{Wish}
use Rattle.hw_repair.specs.declared.plan.Wish.TheVariants.{Kept, Planned}
use Rattle.hw_repair.specs.Wishes.{PlanParts}

-- the line of a ship
abbrev pub wish_text : Wish → List ℕ
wish_text (Kept slot) = codes "k " ++ (decimal slot ++ codes "\n")
wish_text (Planned slot from) = codes "o " ++ (decimal slot ++ (codes " " ++ (decimal from ++ codes "\n")))

abbrev pub wishes_text : List Wish → List ℕ
wishes_text [] = []
wishes_text (wish ∷ wishes) = wish_text wish ++ wishes_text wishes

-- the lines before the ships': the first version where no tug is withdrawn
abbrev pub opening_text : ℕ → List ℕ
opening_text withdrawn = if withdrawn == 0 then codes "plan 1\n" else codes "plan 2\nw " ++ (decimal withdrawn ++ codes "\n")

abbrev pub written_plan : PlanParts → List ℕ
written_plan plan = opening_text plan.withdrawn ++ (wishes_text plan.wishes ++ codes "end\n")
