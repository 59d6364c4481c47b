-- For each event the bound that it moved, as it was before.
use Rattle.std.specs.Prelude.{◌≡◌, ℕ, ◌<◌, ◌≤◌, Bool, false, ◌&&◌, not, nat_lt, nat_le, List, length, slice_index}
use Rattle.hw_model.specs.declared.lit.Lit.{Lit}
use Rattle.hw_model.specs.declared.lit.Lit.TheVariants as lits
use Rattle.hw_model.specs.Rooms.{RoomModel, low_of, high_of}
use Rattle.hw_trail_laws.specs.Sides.{implies}
use Rattle.hw_trail_laws.specs.Bridge.{event_at}
use Rattle.hw_trail_laws.specs.Trails.{TrailModel, room_before, most_events}

-- the bound of the literal's ship that the literal moves, 0 for an order
abbrev pub range_end : RoomModel → Lit → ℕ
range_end room (lits.AtOrAfter v k) = low_of room v
range_end room (lits.Before v k) = high_of room v
range_end room (lits.First v w) = 0
range_end room (lits.NotFirst v w) = 0

-- the literal is true under its side's bound; an order isn't before it is set
abbrev pub knew : ℕ → Lit → Bool
knew bound (lits.AtOrAfter v k) = nat_le k bound
knew bound (lits.Before v k) = nat_lt bound k
knew bound (lits.First v w) = false
knew bound (lits.NotFirst v w) = false

-- an event's literal makes a literal true that wasn't true under the bound before
abbrev pub makes : Lit → ℕ → Lit → Bool
makes event bound lit = implies event lit && not (knew bound lit)

-- each event's bound is that of the room before it, and there is room for those of all events that can come
pub record KeepsBounds (t : TrailModel) (bounds : List ℕ) (capacity : ℕ) : Type 0 where
  pub same_length : length bounds ≡ length t.events
  pub each : (place : ℕ) → place < length t.events → slice_index bounds place ≡ range_end (room_before t place) (event_at t place).lit
  pub reserved : most_events t.ships t.slots ≤ capacity
