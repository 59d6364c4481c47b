-- The slots to which a ship alone could move, while all others stay where they are.
use Rattle.std.specs.Prelude.{ℕ, Bool, false, List, Option, Some, None, IfSome}
use Rattle.hw_port.specs.Whole.{Parts}
use Rattle.hw_tide.specs.Levels.{TideParts}
use Rattle.hw_port_model.specs.Flattened.{flattened}
use Rattle.hw_chart_flat.specs.Moves.{PlanModel, IsPlan, move_is_open}

-- no restriction of the port's flat problem is broken with this slot for the ship; never so where there is no timetable
abbrev pub could_move : Parts → TideParts → Option (List ℕ) → ℕ → ℕ → Bool
could_move p h None ship slot = false
could_move p h (Some table) ship slot = move_is_open (flattened p h) table ship slot

-- a timetable of the flat problem, with the moves that it leaves; or none
abbrev pub HasMoves : Parts → TideParts → Option PlanModel → Type 0
HasMoves p h plan = IfSome plan (λ m. IsPlan (flattened p h) m)
