-- The names that a desk in memory keeps.
use Rattle.std.specs.Prelude.{ℕ, List, Option, Some, None, length, nat_le, if◌then◌else◌}

-- a name of at most 256 bytes is told
abbrev pub kept_name : List ℕ → Option (List ℕ)
kept_name name = if nat_le (length name) 256 then Some name else None
