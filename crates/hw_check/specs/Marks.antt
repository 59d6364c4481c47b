-- Marks on the numbers that later lines name, and the deletions that are due.
use Rattle.std.specs.Prelude.{◌≡◌, ℕ, ◌<◌, ◌==◌, Bool, List, ◌++◌, length}
use Rattle.std.specs.List.{list_any}
use Rattle.hw_cert_lines.specs.declared.line.Line.{Line}
use Rattle.hw_cert_lines.specs.Lines.{clause_of}
use Rattle.hw_cert_laws.specs.Renewing.{deletions, is_hint_of, undeleting, is_marked}

-- whether this number is one of these
abbrev pub is_among_numbers : ℕ → List ℕ → Bool
is_among_numbers id ids = list_any (λ other. other == id) ids

-- exactly the numbers that one of these lines has as a hint are marked, of those that have a place for a mark
abbrev pub Marks : List Bool → List Line → Type 0
Marks marked later = (id : ℕ) → id < length marked → is_marked marked id ≡ is_hint_of later id

-- the deletions that follow a line of this number before these later lines
abbrev pub due_after : ℕ → Line → List Line → List Line
due_after number line later = deletions number line later (clause_of line)

-- the line, unless it is a deletion, and the deletions that follow it
abbrev pub renewed_line : ℕ → Line → List Line → List Line
renewed_line number line later = undeleting line ++ due_after number line later
