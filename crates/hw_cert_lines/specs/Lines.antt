-- The clauses, the best cargo and the end of a list of lines.
use Rattle.std.specs.Prelude.{ℕ, zero, suc, ◌+◌, Bool, true, false, List, [], ◌∷◌, Option, Some, None, ◌≡◌, ◌<◌, length, fold, filter, filter_map, slice_get, option_and_then, is_some, ◌==◌, if◌then◌else◌}
use Rattle.std.specs.List.{list_any, range_with_len}
use Rattle.hw_model.specs.declared.lit.Lit.{Lit}
use Rattle.hw_model.specs.declared.source.Source.{Source}
use Rattle.hw_model.specs.declared.source.Source.TheVariants as sources
use Rattle.hw_model.specs.Problem.{Problem}
use Rattle.hw_model.specs.Timetables.{cargo}
use Rattle.hw_cert_lines.specs.declared.line.Line.{Line}
use Rattle.hw_cert_lines.specs.declared.line.Line.TheVariants as lines

-- the clause of a line, if it is a clause line
abbrev pub clause_of : Line → Option (List Lit)
clause_of (lines.Table table) = None
clause_of (lines.Explain n clause) = Some clause
clause_of (lines.Order v w x clause) = Some clause
clause_of (lines.Goal clause) = Some clause
clause_of (lines.Lemma clause hints) = Some clause
clause_of (lines.Delete ids) = None
clause_of (lines.Toll toll) = None
clause_of (lines.Tariff tariff) = None
clause_of (lines.Priced clause) = Some clause
clause_of (lines.Bound bound) = None

-- the line of a clause that a source gave
abbrev pub source_line : Problem → Source → List Lit → Line
source_line f (sources.Window ship) clause = lines.Explain ship clause
source_line f (sources.Rule place) clause = lines.Explain (f.ships + place) clause
source_line f (sources.Order v w x) clause = lines.Order v w x clause
source_line f sources.Goal clause = lines.Goal clause

-- the clauses of the clause lines, in order
abbrev pub clauses_of : List Line → List (List Lit)
clauses_of before = filter_map clause_of before

-- how many clause lines there are
abbrev pub clause_count : List Line → ℕ
clause_count before = length (clauses_of before)

-- the clause of this number, counted from 1
abbrev pub clause_at : List Line → ℕ → Option (List Lit)
clause_at before zero = None
clause_at before (suc n) = slice_get (clauses_of before) n

-- the line deletes this number
abbrev pub deletes : ℕ → Line → Bool
deletes id (lines.Table table) = false
deletes id (lines.Explain n clause) = false
deletes id (lines.Order v w x clause) = false
deletes id (lines.Goal clause) = false
deletes id (lines.Lemma clause hints) = false
deletes id (lines.Delete ids) = list_any (λ other. other == id) ids
deletes id (lines.Toll toll) = false
deletes id (lines.Tariff tariff) = false
deletes id (lines.Priced clause) = false
deletes id (lines.Bound bound) = false

-- the clause that may be named by this number: it stands earlier, and no earlier line deletes it
abbrev pub live : List Line → ℕ → Option (List Lit)
live before id = if list_any (deletes id) before then None else clause_at before id

-- the numbers of the live clauses, ascending
abbrev pub live_numbers : List Line → List ℕ
live_numbers all = filter (λ id. is_some (live all id)) (range_with_len 1 (clause_count all))

-- no line deletes a number that no clause line has yet
abbrev pub DeletesEarlier : List Line → Type 0
DeletesEarlier all = (id : ℕ) → clause_count all < id → list_any (deletes id) all ≡ false

-- the last table, by the one before a line
abbrev pub table_after : Option (List ℕ) → Line → Option (List ℕ)
table_after last (lines.Table table) = Some table
table_after last (lines.Explain n clause) = last
table_after last (lines.Order v w x clause) = last
table_after last (lines.Goal clause) = last
table_after last (lines.Lemma clause hints) = last
table_after last (lines.Delete ids) = last
table_after last (lines.Toll toll) = last
table_after last (lines.Tariff tariff) = last
table_after last (lines.Priced clause) = last
table_after last (lines.Bound bound) = last

-- the timetable of the last table line, or none
abbrev pub last_table : List Line → Option (List ℕ)
last_table before = fold table_after None before

-- its cargo, or none
abbrev pub best_of : Problem → List Line → Option ℕ
best_of f before = option_and_then (cargo f) (last_table before)

-- a clause without literals
abbrev pub is_end : Option (List Lit) → Bool
is_end None = false
is_end (Some []) = true
is_end (Some (lit ∷ more)) = false

-- some line is a clause line without literals
abbrev pub is_closed : List Line → Bool
is_closed before = list_any (λ line. is_end (clause_of line)) before

-- the clause of prices without literals, a last line
abbrev pub last_priced : Line
last_priced = lines.Priced []

-- the last line is one
abbrev pub ends : List Line → Bool
ends before = fold (λ last line. is_end (clause_of line)) false before
