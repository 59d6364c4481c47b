-- The text of a clash, over the list of its lines.
use Rattle.std.specs.Prelude.{ℕ, ◌+◌, ◌-◌, List, [], ◌∷◌, Option, Some, None, Result, Ok, codes, bytes_eq, is_some, option_and_then, if◌then◌else◌, length}
use Rattle.hw_lemmas.specs.Operators.{◌>>=◌}
use Rattle.hw_model.specs.Timetables.{first_broken}
use Rattle.hw_plan_texts.specs.Reading.{MalformedLine, malformed_line, formed_line, formed_line_at, only_at, ended_at}
use Rattle.hw_plan_texts.specs.Slots.{slots_form}
use Rattle.hw_text.specs.Numbers.{number_from_to}
use Rattle.hw_text.specs.Parts.{parts_of, words_of, put_first}
use Rattle.hw_clash.specs.declared.fault.ClashWord.{ClashWord}
use Rattle.hw_clash.specs.declared.fault.ClashWord.TheVariants as words
use Rattle.hw_clash.specs.Clashes.{Clash}
use Rattle.hw_clash.specs.Parts.{part}
use Rattle.hw_clash.specs.Clashing.{without_number}
use Rattle.hw_clash.specs.Wished.{Wished, wished_count}

-- ---- the lines' forms

-- numbers below this many, ascending, the first not below the least
abbrev pub ids_from : ℕ → ℕ → List (List ℕ) → Option (List ℕ)
ids_from least many [] = Some []
ids_from least many (word ∷ words) = option_and_then (λ id. put_first (Some id) (ids_from (id + 1) many words)) (number_from_to least (many - 1) word)

abbrev pub some_ids : ℕ → List (List ℕ) → Option (List ℕ)
some_ids many [] = None
some_ids many (word ∷ words) = ids_from 0 many (word ∷ words)

abbrev pub keep_words : ℕ → List (List ℕ) → Option (List ℕ)
keep_words many [] = None
keep_words many (key ∷ words) = if bytes_eq key (codes "keep") then some_ids many words else None

-- `keep ID ..` with ascending restrictions, at least one
abbrev pub keep_form : Wished → List ℕ → Option (List ℕ)
keep_form f line = keep_words (wished_count f) (words_of line)

abbrev pub drop_words : Wished → ℕ → List (List ℕ) → Option (List ℕ)
drop_words f id (key ∷ word ∷ words) =
    if bytes_eq key (codes "drop") then (if is_some (number_from_to id id word) then slots_form f.problem.slots f.problem.ships words else None) else None
drop_words f id _ = None

-- `drop ID SLOT ..` of this restriction, with a slot for each ship
abbrev pub drop_form : Wished → ℕ → List ℕ → Option (List ℕ)
drop_form f id line = drop_words f id (words_of line)

-- ---- the lines of the text

-- the kept restrictions on the next line
unfoldable pub keep_at : Wished → List (List ℕ) → Result (List ℕ × List (List ℕ)) (MalformedLine ClashWord)
keep_at f parts = do
  line ← formed_line_at 2 words.Keep parts
  kept ← formed_line 2 words.Keep (keep_form f line.0)
  Ok (kept, line.1)

-- the timetable of a kept restriction on the next line: the part of the other kept ones permits it
unfoldable pub drop_at : Wished → List ℕ → ℕ → ℕ → List (List ℕ) → Result (List ℕ × List (List ℕ)) (MalformedLine ClashWord)
drop_at f kept number id parts = do
  line ← formed_line_at number words.Drop parts
  table ← formed_line number words.Drop (drop_form f id line.0)
  if is_some (first_broken (part f (without_number id kept)) table) then malformed_line number words.Table else Ok (table, line.1)

-- the timetables of these restrictions, the first on the line of this number
unfoldable pub drops_at : Wished → List ℕ → ℕ → List ℕ → List (List ℕ) → Result (List (List ℕ) × List (List ℕ)) (MalformedLine ClashWord)
drops_at f kept number [] parts = Ok ([], parts)
drops_at f kept number (id ∷ ids) parts = do
  table ← drop_at f kept number id parts
  more ← drops_at f kept (number + 1) ids table.1
  Ok (table.0 ∷ more.0, more.1)

abbrev pub clash_by : List ℕ → List (List ℕ) → Clash
clash_by kept drops = record { kept = kept; drops = drops }

-- the clash of the lines, or the first bad line
unfoldable pub clash_of : Wished → List (List ℕ) → Result Clash (MalformedLine ClashWord)
clash_of f parts = do
  first ← only_at 1 words.Header (codes "clash 1") parts
  keep ← keep_at f first
  drops ← drops_at f keep.0 3 keep.0 keep.1
  rest ← only_at (3 + length keep.0) words.Tail (codes "end") drops.1
  ended_at (4 + length keep.0) words.Tail (clash_by keep.0 drops.0) rest

-- what a text says: kept restrictions, each with a timetable that meets the others, or the first line that isn't of the form demanded at its place
abbrev pub clash_text : Wished → List ℕ → Result Clash (MalformedLine ClashWord)
clash_text f bytes = clash_of f (parts_of 10 bytes)
