-- Bytes sent to a tray of a desk that never fails.
use Rattle.std.specs.Prelude.{ℕ, List, ◌++◌, Option, Some, None, if◌then◌else◌, nat_le, length}

-- all of them, where they have room
abbrev pub within_room : List ℕ → Option (List ℕ)
within_room bytes = if nat_le (length bytes) 1_048_576 then Some bytes else None

-- the bytes with more after them. What isn't told stays untold
abbrev pub told_with : Option (List ℕ) → List ℕ → Option (List ℕ)
told_with None more = None
told_with (Some bytes) more = within_room (bytes ++ more)
