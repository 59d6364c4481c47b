-- The one text of a clash, line by line.
use Rattle.std.specs.Prelude.{ℕ, List, [], ◌∷◌, ◌++◌, map, codes, decimal}
use Rattle.hw_text.specs.Parts.{spaced, ended_lines}
use Rattle.hw_clash.specs.Clashes.{Clash}

-- the kept restrictions
abbrev pub keep_line : List ℕ → List ℕ
keep_line kept = spaced (codes "keep" ∷ map decimal kept)

-- a restriction, and a timetable that meets the others
abbrev pub drop_line : ℕ → List ℕ → List ℕ
drop_line id table = spaced (codes "drop" ∷ decimal id ∷ map decimal table)

-- such a line for each restriction
abbrev pub drop_lines : List ℕ → List (List ℕ) → List (List ℕ)
drop_lines [] drops = []
drop_lines (id ∷ ids) [] = []
drop_lines (id ∷ ids) (table ∷ drops) = drop_line id table ∷ drop_lines ids drops

-- the lines of a clash
abbrev pub clash_lines : Clash → List (List ℕ)
clash_lines c = codes "clash 1" ∷ keep_line c.kept ∷ (drop_lines c.kept c.drops ++ codes "end" ∷ [])

-- the text of a clash: its lines, each ended
abbrev pub written_clash : Clash → List ℕ
written_clash c = ended_lines (clash_lines c)
