-- What the legend says of the marks of a repair, as far as there are such.
use Rattle.std.specs.Prelude.{◌≤◌, ℕ, ◌+◌, Bool, true, false, ◌||◌, nat_lt, List, [], ◌∷◌, Option, codes}
use Rattle.std.specs.List.{list_any}
use Rattle.hw_model.specs.Problem.{Problem}
use Rattle.hw_chart.specs.Legends.{LegendEntry, legend_width, patch_entry, striped_entry}
use Rattle.hw_repair.specs.declared.plan.Wish.{Wish}
use Rattle.hw_repair_text.specs.Fates.{fate, is_moved}
use Rattle.hw_repair_text.specs.declared.fate.Fate.{Fate}
use Rattle.hw_repair_text.specs.declared.fate.Fate.TheVariants.{Moved, Kept, Sailed}
use Rattle.hw_chart_repair.specs.Marks.{hatch_end}
use Rattle.hw_chart_repair.specs.Sheets.{slot_by}

abbrev pub is_sailed : Fate → Bool
is_sailed Moved = false
is_sailed Kept = false
is_sailed Sailed = true

-- what becomes of a ship, by a timetable or none
abbrev pub fate_by : Problem → Option (List ℕ) → ℕ → Wish → Fate
fate_by f table ship wish = fate f wish (slot_by table ship wish)

-- one of the ships from this number on is moved
abbrev pub some_moved : Problem → Option (List ℕ) → ℕ → List Wish → Bool
some_moved f table ship [] = false
some_moved f table ship (wish ∷ more) = is_moved (fate_by f table ship wish) || some_moved f table (ship + 1) more

-- one of them has sailed
abbrev pub some_sailed : Problem → Option (List ℕ) → ℕ → List Wish → Bool
some_sailed f table ship [] = false
some_sailed f table ship (wish ∷ more) = is_sailed (fate_by f table ship wish) || some_sailed f table (ship + 1) more

-- a plan doesn't leave a ship all slots
abbrev pub some_hatched : List Wish → Bool
some_hatched wishes = list_any (λ wish. nat_lt 0 (hatch_end wish)) wishes

abbrev pub repair_entries : Problem → Option (List ℕ) → List Wish → List LegendEntry
repair_entries f table wishes = patch_entry (codes "gh") (codes "planned slot of a moved ship") (some_moved f table 0 wishes) ∷ patch_entry (codes "sd") (codes "has sailed") (some_sailed f table 0 wishes) ∷ striped_entry (codes "ht") (codes "too early for the plan") (some_hatched wishes) ∷ []

-- all three have room after the other entries of a port's legend
abbrev pub RepairEntriesFit : Type 0
RepairEntriesFit = (f : Problem) (table : Option (List ℕ)) (wishes : List Wish) → legend_width (repair_entries f table wishes) ≤ 495
