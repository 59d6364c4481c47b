-- Bytes sent to a tray in memory.
use Rattle.std.specs.Prelude.{ℕ, List}

-- the bytes sent, and how many have room
pub record SentModel : Type 0 where
  pub room : ℕ
  pub bytes : List ℕ
