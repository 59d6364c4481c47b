-- What a line reader is seen as, and what its calls on pending bytes do.
use Rattle.std.specs.Prelude.{◌≡◌, ℕ, ◌+◌, ◌^◌, ◌≤◌, List, [], ◌∷◌, ◌++◌, Option, Some, None, Result, length, drop, Bool, true, false, IfOk, IfSome}
use Rattle.std.specs.Io.KnownBytes.{IsAtEnd}
use Rattle.hw_desk.specs.State.{DeskState}
use Rattle.hw_desk.specs.Calls.{Moves, ReadCause, ReadKept}
use Rattle.hw_desk.specs.declared.desk.Feed.{Feed}
use Rattle.hw_model.specs.declared.limits.TheConstants.{MOST_SHIPS}
use Rattle.hw_model.specs.declared.shape.Shape.{Shape}
use Rattle.hw_text.specs.Parts.{lacks}
use Rattle.hw_cert.specs.Spelled.{is_within}
use Rattle.hw_cert.specs.Stream.{Position}

-- a reader: the problem's shape, the feed, where the reading stands, and the bytes that were read
-- after that place
pub record ReaderModel : Type 0 where
  pub shape : Shape
  pub feed : Feed
  pub at : Position
  pub pending : List ℕ

-- the bytes before the first line feed were taken as a line's, or all of them if there is none
abbrev pub Scans : List ℕ → List ℕ → List ℕ → List ℕ → Bool → Type 0
Scans bytes rest old new false = (lacks 10 bytes ≡ true) × (new ≡ old ++ bytes) × (rest ≡ [])
Scans bytes rest old new true = (front : List ℕ) × (bytes ≡ front ++ 10 ∷ rest) × (lacks 10 front ≡ true) × (new ≡ old ++ front)

-- the same, by how many bytes were used, including the line feed, or none if there is none
abbrev pub ScansUsed : Option ℕ → List ℕ → List ℕ → List ℕ → Type 0
ScansUsed None bytes old new = Scans bytes [] old new false
ScansUsed (Some n) bytes old new = Scans bytes (drop n bytes) old new true

-- the next bytes of the feed are pending, at most `most` of them, and none only where none is left
pub record Fills {E : Type 0} (feed : Feed) (most : ℕ) (pending : List ℕ) (old new : DeskState) (result : Result ℕ E) : Type 0 where
  pub moved : Moves feed pending old new
  pub bound : length pending ≤ most
  pub count : IfOk result (λ n. n ≡ length pending)
  pub ended : IfOk result (λ n. n ≡ 0 → IsAtEnd (new.feeds feed).left)
  pub cause : ReadCause old new result
  pub kept : ReadKept old new result

-- what every reader keeps
pub record ReaderKeeps (r : ReaderModel) : Type 0 where
  pub few_ships : r.shape.ships ≤ MOST_SHIPS
  pub named : IfSome r.at.version (λ version. is_within r.at.most version ≡ true)
  pub few_lines : r.at.number ≤ r.at.taken + 1
  pub short : r.at.taken ≤ 2 ^ 40
  pub read : r.at.taken + length r.pending ≤ 2 ^ 40 + 1
