-- The flat text, over the list of its lines.
use Rattle.std.specs.Prelude.{◌≡◌, ℕ, zero, suc, ◌+◌, ◌-◌, Bool, ◌||◌, not, List, [], ◌∷◌, ◌++◌, length, Option, Some, None, Result, Ok, Err, codes, bytes_eq, if◌then◌else◌}
use Rattle.hw_lemmas.specs.Operators.{◌>>=◌}
use Rattle.hw_model.specs.declared.limits.TheConstants.{MOST_RULES}
use Rattle.hw_model.specs.declared.rule.Rule.{Rule}
use Rattle.hw_model.specs.Problem.{Problem}
use Rattle.hw_text.specs.Parts.{parts_of, first_part, at_end}
use Rattle.hw_flat.specs.declared.fault.FlatWord.{FlatWord}
use Rattle.hw_flat.specs.declared.fault.FlatWord.TheVariants as words
use Rattle.hw_flat.specs.declared.fault.FlatFault.{FlatFault}
use Rattle.hw_flat.specs.declared.fault.FlatFault.TheVariants as faults
use Rattle.hw_flat.specs.TextForms.{header_form, size_form, row_form, rule_form, any_hours}

-- the first line that isn't of the form demanded at its place
pub record Fault : Type 0 where
  pub number : ℕ
  pub word : FlatWord

abbrev pub fault : {A : Type 0} → ℕ → FlatWord → Result A Fault
fault number word = Err (record { number = number; word = word })

-- what a line has by its form, or that the line isn't of the form
abbrev pub formed : {A : Type 0} → ℕ → FlatWord → Option A → Result A Fault
formed number word None = fault number word
formed number word (Some x) = Ok x

-- the next line and the parts after it
abbrev pub line_at : ℕ → FlatWord → List (List ℕ) → Result (List ℕ × List (List ℕ)) Fault
line_at number word parts = formed number word (first_part parts)

-- the values of the ship on the next line
unfoldable pub row_at : Bool → ℕ → ℕ → List (List ℕ) → Result (List (Option ℕ) × List (List ℕ)) Fault
row_at stay slots number parts = do
  line ← line_at number words.Values parts
  row ← formed number words.Values (row_form stay slots line.0)
  Ok (row, line.1)

-- the values of this many ships
unfoldable pub rows_at : Bool → ℕ → ℕ → ℕ → List (List ℕ) → Result (List (Option ℕ) × List (List ℕ)) Fault
rows_at stay slots number zero parts = Ok ([], parts)
rows_at stay slots number (suc ships) parts = do
  row ← row_at stay slots number parts
  more ← rows_at stay slots (number + 1) ships row.1
  Ok (row.0 ++ more.0, more.1)

-- a rule on a line and those after it, where at most `room` more may come
abbrev pub rule_before : ℕ → ℕ → Option Rule → Result (List Rule × List (List ℕ)) Fault → Result (List Rule × List (List ℕ)) Fault
rule_before number room None read = fault number words.Rule
rule_before number zero (Some rule) read = fault number words.Many
rule_before number (suc room) (Some rule) read = read >>= λ x. Ok (rule ∷ x.0, x.1)

-- the rules of the form up to the line `end`, at most `room` of them, and the parts after that line
unfoldable pub rules_at : (List ℕ → Option Rule) → ℕ → ℕ → List (List ℕ) → Result (List Rule × List (List ℕ)) Fault
rules_at form number room [] = fault number words.Rule
rules_at form number room (line ∷ []) = fault number words.Rule
rules_at form number room (line ∷ next ∷ parts) =
    if bytes_eq line (codes "end") then Ok ([], next ∷ parts)
    else rule_before number room (form line) (rules_at form (number + 1) (room - 1) (next ∷ parts))

-- where fleets have hours, one of the rules needs them
abbrev pub hours_needed : Bool → List Rule → Bool
hours_needed hours rules = not hours || any_hours rules

-- the problem of these numbers and lists. Where ships may stay, it has one more slot
abbrev pub problem_of : Bool → ℕ × ℕ → List (Option ℕ) → List Rule → Problem
problem_of stay size values rules = record { ships = size.0; slots = if stay then size.1 + 1 else size.1; stay = stay; values = values; rules = rules }

-- the problem of what stands before `end`: where fleets have hours, `end` comes after a rule that needs them, and it ends the text
abbrev pub finished : Bool × Bool → ℕ × ℕ → List (Option ℕ) → List Rule → List (List ℕ) → Result Problem Fault
finished version size values rules parts =
    if hours_needed version.1 rules then
    if at_end parts then Ok (problem_of version.0 size values rules) else fault (4 + size.0 + length rules) words.Tail
    else fault (3 + size.0 + length rules) words.Rule

-- the problem of the lines, or the first bad line
unfoldable pub problem_of_lines : List (List ℕ) → Result Problem Fault
problem_of_lines parts = do
  first ← line_at 1 words.Header parts
  version ← formed 1 words.Header (header_form first.0)
  second ← line_at 2 words.Size first.1
  size ← formed 2 words.Size (size_form second.0)
  rows ← rows_at version.0 size.1 3 size.0 second.1
  rules ← rules_at (rule_form version.1 size.0 size.1) (3 + size.0) MOST_RULES rows.1
  finished version size rows.0 rules.0 rules.1

-- what a text says: a problem, or the first line that isn't of the form demanded at its place
abbrev pub flat_text : List ℕ → Result Problem Fault
flat_text bytes = problem_of_lines (parts_of 10 bytes)

-- the fault names the line and the word that reading gives. Memory may run out at any time
abbrev pub Fails : {A : Type 0} → FlatFault → Result A Fault → Type 0
Fails faults.NoMemory read = Unit {0}
Fails (faults.Line number word) read = read ≡ Err (record { number = number; word = word })

-- what a call returned is what reading gives; memory may run out at any time
abbrev pub Gives : {A B : Type 0} → (A → B) → Result A FlatFault → Result B Fault → Type 0
Gives view (Ok x) read = read ≡ Ok (view x)
Gives view (Err e) read = Fails e read
