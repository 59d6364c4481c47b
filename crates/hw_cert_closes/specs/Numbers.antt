-- Numbers of clause lines, and marks on them.
use Rattle.std.specs.Prelude.{◌≡◌, ℕ, ◌<◌, ◌≤◌, Bool, true, not, ◌||◌, ◌&&◌, if◌then◌else◌, List, [], ◌∷◌, ◌++◌, Option, Some, None}
use Rattle.std.specs.List.{list_any}
use Rattle.hw_model.specs.Rooms.{RoomModel}
use Rattle.hw_cert_lines.specs.declared.line.Line.{Line}
use Rattle.hw_cert_lines.specs.Lines.{clause_at, clause_count, deletes}
use Rattle.hw_cert_closes.specs.Closing.{is_clause_false}
use Rattle.hw_cert_laws.specs.Renewing.{is_marked}

-- the numbers that had a mark still have one, and so have some more
abbrev pub MarksMore : List Bool → (ℕ → Bool) → List Bool → Type 0
MarksMore old more new = (n : ℕ) → is_marked new n ≡ (is_marked old n || more n)

-- the numbers that the lines delete have a mark, and no others
abbrev pub MarksDeleted : List Line → List Bool → Type 0
MarksDeleted all marks = (n : ℕ) → is_marked marks n ≡ list_any (deletes n) all

-- the clause of this number is true of nothing in the room
abbrev pub IsClosing : RoomModel → List Line → ℕ → Type 0
IsClosing room all n = is_clause_false room (clause_at all n) ≡ true

-- the number of such a clause: the last one without a mark, or, where each has one, the last one
pub record IsLastClosing (room : RoomModel) (all : List Line) (marks : List Bool) (n : ℕ) : Type 0 where
  pub closing : IsClosing room all n
  pub later : (m : ℕ) → IsClosing room all m → n < m → is_marked marks m ≡ true
  pub marked : is_marked marks n ≡ true → (m : ℕ) → IsClosing room all m → (m ≤ n) × (is_marked marks m ≡ true)

-- the same of a number that was found, or there is no such clause
abbrev pub LastClosing : RoomModel → List Line → List Bool → Option ℕ → Type 0
LastClosing room all marks None = (m : ℕ) → IsClosing room all m → ⊥
LastClosing room all marks (Some n) = IsLastClosing room all marks n

-- the later of two numbers, unless it alone has a mark
abbrev pub preferred : List Bool → Option ℕ → ℕ → ℕ
preferred marks None later = later
preferred marks (Some earlier) later = if is_marked marks later && not (is_marked marks earlier) then earlier else later

-- what is found with one more line of this number, by what was found of the lines before
abbrev pub FindsLast : RoomModel → List Bool → Option ℕ → ℕ → Line → Option ℕ → Type 0
FindsLast room marks found number line after = (before : List Line) → number ≡ clause_count (before ++ line ∷ []) → LastClosing room before marks found → LastClosing room (before ++ line ∷ []) marks after
