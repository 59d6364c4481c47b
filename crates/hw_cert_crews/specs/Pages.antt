-- A searcher's own lines and those of the log that several searchers share: what is handed on of a line, and what ties the two.
use Rattle.std.specs.Prelude.{◌≡◌, ℕ, zero, suc, ◌+◌, ◌<◌, ◌≤◌, Bool, true, false, if◌then◌else◌, List, [], ◌∷◌, ◌++◌, Option, Some, None, All, AllPairs, Contains, length, map, slice_index, ⊤}
use Rattle.std.specs.Option.{option_map_or}
use Rattle.hw_model.specs.declared.lit.Lit.{Lit}
use Rattle.hw_model.specs.Problem.{Problem}
use Rattle.hw_model.specs.Timetables.{cargo, beats}
use Rattle.hw_cert_lines.specs.declared.line.Line.{Line}
use Rattle.hw_cert_lines.specs.declared.line.Line.TheVariants as lines
use Rattle.hw_cert_lines.specs.Lines.{clause_of, clause_count, live, best_of}
use Rattle.hw_cert_lines.specs.Valid.{Valid}

-- what a searcher wrote: its lines in its own numbers, and for each of its clause lines the number of that line in the shared log
pub record Page : Type 0 where
  pub lines : List Line
  pub numbers : List ℕ

-- a page without lines
abbrev pub blank_page : Page
blank_page = record { lines = []; numbers = [] }

-- ---- what is handed on of a line

-- the shared number of an own clause line, 0 where there is no such line
abbrev pub shared_number : List ℕ → ℕ → ℕ
shared_number numbers zero = 0
shared_number numbers (suc n) = slice_index numbers n

-- the line with shared numbers instead of its own
abbrev pub renumbered : List ℕ → Line → Line
renumbered numbers (lines.Table table) = lines.Table table
renumbered numbers (lines.Explain n clause) = lines.Explain n clause
renumbered numbers (lines.Order v w x clause) = lines.Order v w x clause
renumbered numbers (lines.Goal clause) = lines.Goal clause
renumbered numbers (lines.Lemma clause hints) = lines.Lemma clause (map (shared_number numbers) hints)
renumbered numbers (lines.Delete ids) = lines.Delete (map (shared_number numbers) ids)
renumbered numbers (lines.Toll toll) = lines.Toll toll
renumbered numbers (lines.Tariff tariff) = lines.Tariff tariff
renumbered numbers (lines.Priced clause) = lines.Priced clause
renumbered numbers (lines.Bound bound) = lines.Bound bound

-- a table is handed on where its cargo beats the shared best, and each other line is handed on
abbrev pub is_handed : Problem → Option ℕ → Line → Bool
is_handed f best (lines.Table table) = option_map_or (λ c. beats c best) (cargo f table) false
is_handed f best (lines.Explain n clause) = true
is_handed f best (lines.Order v w x clause) = true
is_handed f best (lines.Goal clause) = true
is_handed f best (lines.Lemma clause hints) = true
is_handed f best (lines.Delete ids) = true
is_handed f best (lines.Toll toll) = true
is_handed f best (lines.Tariff tariff) = true
is_handed f best (lines.Priced clause) = true
is_handed f best (lines.Bound bound) = true

-- the line that is handed on for an own line, if one is, where the shared best is this
abbrev pub handed : Problem → Option ℕ → List ℕ → Line → Option Line
handed f best numbers line = if is_handed f best line then Some (renumbered numbers line) else None

-- lines followed by one more, if there is one
abbrev pub with_next_line : List Line → Option Line → List Line
with_next_line all None = all
with_next_line all (Some line) = all ++ line ∷ []

-- numbers followed by that of one more own clause line, if the line has a clause
abbrev pub with_clause_number : List ℕ → ℕ → Option (List Lit) → List ℕ
with_clause_number numbers n None = numbers
with_clause_number numbers n (Some clause) = numbers ++ n ∷ []

-- the page with one more line; before it the shared log had `count` clause lines
abbrev pub page_after : Page → ℕ → Line → Page
page_after page count line = record { lines = page.lines ++ line ∷ []; numbers = with_clause_number page.numbers (count + 1) (clause_of line) }

-- ---- what ties own lines to shared ones

-- a best is at most another one
abbrev pub AtMost : Option ℕ → Option ℕ → Type 0
AtMost None other = ⊤
AtMost (Some a) None = ⊥
AtMost (Some a) (Some b) = a ≤ b

-- the own lines are valid; each own clause line has a shared number, later ones higher ones; under the number of each live one stands, live, the same clause; and the own best is at most the shared one
pub record Tied (f : Problem) (page : Page) (shared : List Line) : Type 0 where
  pub valid : Valid f page.lines
  pub each : length page.numbers ≡ clause_count page.lines
  pub rising : AllPairs (λ earlier later. earlier < later) page.numbers
  pub within : All (λ number. (1 ≤ number) × (number ≤ clause_count shared)) page.numbers
  pub stands : (id : ℕ) (clause : List Lit) → live page.lines id ≡ Some clause → live shared (shared_number page.numbers id) ≡ Some clause
  pub best : AtMost (best_of f page.lines) (best_of f shared)

-- no shared number is one of both
abbrev pub NumbersApart : Page → Page → Type 0
NumbersApart page other = (number : ℕ) → Contains page.numbers number → Contains other.numbers number → ⊥
