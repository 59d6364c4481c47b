-- Kept restrictions, and a timetable for each of them.
use Rattle.std.specs.Prelude.{ℕ, List}

pub record Clash : Type 0 where
  pub kept : List ℕ
  pub drops : List (List ℕ)
