-- The whole text: a line for each ship, one for each ship whose cargo differs, and the sums.
use Rattle.std.specs.Prelude.{ℕ, ◌+◌, List, [], ◌∷◌, ◌++◌, map, codes}
use Rattle.std.specs.List.{concat}
use Rattle.hw_model.specs.Problem.{Problem}
use Rattle.hw_flat.specs.Carried.{worth}
use Rattle.hw_repair.specs.declared.plan.Wish.{Wish}
use Rattle.hw_repair.specs.Wishes.{PlanParts, wished}
use Rattle.hw_report.specs.Reports.{Naming}
use Rattle.hw_repair_text.specs.declared.fate.Fate.{Fate}
use Rattle.hw_repair_text.specs.declared.fate.Fate.TheVariants.{Moved, Kept, Sailed}
use Rattle.hw_repair_text.specs.Fates.{fate, worths}
use Rattle.hw_repair_text.specs.Lines.{change_line, ship_moved_line, stands_line, total_line}

-- the line of a ship, by what the repair makes of it
abbrev pub fate_line : Problem → Naming → ℕ → Wish → ℕ → Fate → List ℕ
fate_line f names ship wish slot Moved = ship_moved_line f names ship (wished wish) slot
fate_line f names ship wish slot Kept = stands_line f names (codes "kept ") ship slot
fate_line f names ship wish slot Sailed = stands_line f names (codes "sailed ") ship slot

abbrev pub repaired_ship_line : Problem → Naming → ℕ → Wish → ℕ → List ℕ
repaired_ship_line f names ship wish slot = fate_line f names ship wish slot (fate f wish slot)

-- the lines of the ships from this one on
abbrev pub repair_ship_lines : Problem → Naming → ℕ → List Wish → List ℕ → List ℕ
repair_ship_lines f names ship [] table = []
repair_ship_lines f names ship (wish ∷ plan) [] = []
repair_ship_lines f names ship (wish ∷ plan) (slot ∷ table) = repaired_ship_line f names ship wish slot ++ repair_ship_lines f names (ship + 1) plan table

-- what a ship wins or loses against its planned slot
abbrev pub change_in : Problem → Naming → ℕ → Wish → ℕ → List ℕ
change_in f names ship wish slot = change_line names ship (worth f ship (wished wish)) (worth f ship slot)

-- the same of the ships from this one on
abbrev pub change_lines : Problem → Naming → ℕ → List Wish → List ℕ → List ℕ
change_lines f names ship [] table = []
change_lines f names ship (wish ∷ plan) [] = []
change_lines f names ship (wish ∷ plan) (slot ∷ table) = change_in f names ship wish slot ++ change_lines f names (ship + 1) plan table

-- the sums of the planned slots and of the timetable
abbrev pub total_in : Problem → Naming → List Wish → List ℕ → List ℕ
total_in f names plan table = total_line names (worths f 0 (map wished plan)) (worths f 0 table)

abbrev pub repair_text : Problem → Naming → PlanParts → List ℕ → List ℕ
repair_text f names plan table = concat (repair_ship_lines f names 0 plan.wishes table ∷ change_lines f names 0 plan.wishes table ∷ total_in f names plan.wishes table ∷ codes "end\n" ∷ [])
