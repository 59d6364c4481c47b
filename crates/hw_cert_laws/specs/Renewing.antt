-- A certificate in which each clause is deleted right after the last line that names it.
use Rattle.std.specs.Prelude.{◌≡◌, ℕ, ◌+◌, ◌^◌, ◌<◌, ◌≤◌, max, Bool, ◌==◌, ◌&&◌, not, List, [], ◌∷◌, ◌++◌, Option, Some, None, All, filter, fold, false, slice_index_or}
use Rattle.std.specs.List.{list_any, range_with_len}
use Rattle.hw_model.specs.declared.lit.Lit.{Lit}
use Rattle.hw_model.specs.Problem.{Problem}
use Rattle.hw_cert_lines.specs.declared.line.Line.{Line}
use Rattle.hw_cert_lines.specs.declared.line.Line.TheVariants as lines
use Rattle.hw_cert_lines.specs.Lines.{clause_of, clauses_of, clause_count, last_table}
use Rattle.hw_cert_lines.specs.Tolled.{tolls_of, tariff_of, bound_of}
use Rattle.hw_cert_lines.specs.Valid.{LineFits, Valid, verdict}

-- the numbers that a line names as hints
abbrev pub hints_of : Line → List ℕ
hints_of (lines.Table table) = []
hints_of (lines.Explain n clause) = []
hints_of (lines.Order v w x clause) = []
hints_of (lines.Goal clause) = []
hints_of (lines.Lemma clause hints) = hints
hints_of (lines.Delete ids) = []
hints_of (lines.Toll toll) = []
hints_of (lines.Tariff tariff) = []
hints_of (lines.Priced clause) = []
hints_of (lines.Bound bound) = []

-- the line has this number as a hint
abbrev pub has_hint : ℕ → Line → Bool
has_hint id line = list_any (λ hint. hint == id) (hints_of line)

-- one of these lines does
abbrev pub is_hint_of : List Line → ℕ → Bool
is_hint_of later id = list_any (has_hint id) later

-- whether the number has a mark; none past the last one
abbrev pub is_marked : List Bool → ℕ → Bool
is_marked marks id = slice_index_or marks id false

-- the hints of a line that no later line has, ascending and each once
abbrev pub last_named : Line → List Line → List ℕ
last_named line later = filter (λ id. has_hint id line && not (is_hint_of later id)) (range_with_len 0 (fold max 0 (hints_of line) + 1))

-- the number of a line, where no later line has it as a hint
abbrev pub never_named : ℕ → List Line → List ℕ
never_named n later = filter (λ id. not (is_hint_of later id)) (n ∷ [])

-- one deletion of these numbers, where there are any
abbrev pub deletion : List ℕ → List Line
deletion [] = []
deletion (id ∷ ids) = lines.Delete (id ∷ ids) ∷ []

-- what follows a line with this number and clause: nothing where it has no clause or one without literals
abbrev pub deletions : ℕ → Line → List Line → Option (List Lit) → List Line
deletions n line later None = []
deletions n line later (Some []) = []
deletions n line later (Some (lit ∷ lits)) = deletion (last_named line later) ++ deletion (never_named n later)

-- the line itself, unless it is a deletion
abbrev pub undeleting : Line → List Line
undeleting (lines.Table table) = lines.Table table ∷ []
undeleting (lines.Explain n clause) = lines.Explain n clause ∷ []
undeleting (lines.Order v w x clause) = lines.Order v w x clause ∷ []
undeleting (lines.Goal clause) = lines.Goal clause ∷ []
undeleting (lines.Lemma clause hints) = lines.Lemma clause hints ∷ []
undeleting (lines.Delete ids) = []
undeleting (lines.Toll toll) = lines.Toll toll ∷ []
undeleting (lines.Tariff tariff) = lines.Tariff tariff ∷ []
undeleting (lines.Priced clause) = lines.Priced clause ∷ []
undeleting (lines.Bound bound) = lines.Bound bound ∷ []

-- the number of the next clause line, by that before a line
abbrev pub next_number : ℕ → Option (List Lit) → ℕ
next_number n None = n
next_number n (Some clause) = n + 1

-- these lines without deletions, and with those that are due; the first clause line has this number
abbrev pub renewed_from : ℕ → List Line → List Line
renewed_from n [] = []
renewed_from n (line ∷ later) = undeleting line ++ deletions n line later (clause_of line) ++ renewed_from (next_number n (clause_of line)) later

-- the same for the lines of a whole certificate
abbrev pub renewed : List Line → List Line
renewed all = renewed_from 1 all

-- each clause line has a number, and each hint is at most the last one
pub record IsNumbered (all : List Line) : Type 0 where
  pub few : clause_count all < 2 ^ 32
  pub named : All (λ line. All (λ id. id ≤ clause_count all) (hints_of line)) all

-- what renewing keeps of valid lines
pub record RenewingKeeps (f : Problem) (all : List Line) : Type 0 where
  pub valid : Valid f (renewed all)
  pub same_verdict : verdict f (renewed all) ≡ verdict f all
  pub same_clauses : clauses_of (renewed all) ≡ clauses_of all
  pub same_table : last_table (renewed all) ≡ last_table all
  pub same_tolls : tolls_of (renewed all) ≡ tolls_of all
  pub same_tariff : tariff_of (renewed all) ≡ tariff_of all
  pub same_bound : bound_of (renewed all) ≡ bound_of all
  pub fit : All (LineFits f) all → All (LineFits f) (renewed all)

-- valid lines are valid after renewing, with the same clauses, last table, tolls, tariff, bound and verdict
abbrev pub RenewedValid : Type 0
RenewedValid = (f : Problem) (all : List Line) → Valid f all → RenewingKeeps f all

-- valid lines are numbered
abbrev pub ValidNumbered : Type 0
ValidNumbered = (f : Problem) (all : List Line) → Valid f all → IsNumbered all
