-- Clauses that tell something of a room.
use Rattle.std.specs.Prelude.{◌≡◌, ◌≤◌, false, List, length}
use Rattle.hw_model.specs.declared.lit.Lit.{Lit}
use Rattle.hw_model.specs.Rooms.{RoomModel}
use Rattle.hw_model.specs.Replay.{some_true, free_lits}

-- the clause is a conflict or has one literal left: no literal is True, and at most one is Free
abbrev pub IsActive : List Lit → RoomModel → Type 0
IsActive clause room = (some_true room clause ≡ false) × (length (free_lits room clause) ≤ 1)
