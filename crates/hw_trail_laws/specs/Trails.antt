-- A trail as contracts see it: its events in order, the room before each, and what holds of them.
use Rattle.std.specs.Prelude.{◌≡◌, ℕ, ◌+◌, ◌-◌, ◌*◌, ◌/◌, true, List, [], ◌∷◌, ◌++◌, Option, Some, None, IfSome, fold, take, filter, slice_get, option_map, nat_le}
use Rattle.hw_model.specs.declared.lit.Lit.{Lit}
use Rattle.hw_model.specs.declared.lit.LitTruth.TheVariants.{Free}
use Rattle.hw_model.specs.declared.narrowing.Narrowed.TheVariants.{Cut}
use Rattle.hw_model.specs.declared.shape.Shape.{Shape}
use Rattle.hw_model.specs.Limits.{ShapeFits}
use Rattle.hw_model.specs.Lits.{lit_fits, IsClause}
use Rattle.hw_model.specs.Rooms.{RoomModel, whole_room}
use Rattle.hw_model.specs.Narrowing.{truth, cut}
use Rattle.hw_model.specs.Replay.{narrowing}
use Rattle.hw_trail_laws.specs.declared.event.Event.{Event}
use Rattle.hw_trail_laws.specs.declared.event.Why.{Why}
use Rattle.hw_trail_laws.specs.declared.event.Why.TheVariants as whys

-- the numbers of ships and slots never change; the level is the current one
pub record TrailModel : Type 0 where
  pub ships : ℕ
  pub slots : ℕ
  pub events : List Event
  pub level : ℕ

-- the trail's numbers of ships and slots, as the shape of a problem without rules
abbrev pub trail_shape : TrailModel → Shape
trail_shape t = record { ships = t.ships; slots = t.slots; rules = 0 }

-- the clause of a reason
abbrev pub reason_clause : Why → List Lit
reason_clause (whys.Lemma id clause) = clause
reason_clause (whys.Source source clause) = clause
reason_clause (whys.Priced clause) = clause

-- the clause of an event's reason, none of a decision
abbrev pub reason : Event → Option (List Lit)
reason event = option_map reason_clause event.why

-- the whole room cut by the literals of events, in order
abbrev pub room_by : Shape → List Event → RoomModel
room_by shape events = fold (λ room event. cut event.lit room) (whole_room shape) events

-- the room before the event at a place
abbrev pub room_before : TrailModel → ℕ → RoomModel
room_before t place = room_by (trail_shape t) (take place t.events)

-- the trail's room: the whole room cut by its events
abbrev pub room_of : TrailModel → RoomModel
room_of t = room_by (trail_shape t) t.events

-- the level after events: that of the last one, or 0
abbrev pub level_after : List Event → ℕ
level_after events = fold (λ level event. event.level) 0 events

-- a decision opens the next level. A reason is of the level that stands, and of its clause the event's literal alone is Free and all others are False
abbrev pub Because : RoomModel → ℕ → Lit → ℕ → Option (List Lit) → Type 0
Because room before lit level None = level ≡ before + 1
Because room before lit level (Some clause) = (level ≡ before) × (narrowing clause room ≡ Cut lit)

-- an event after a room and a level
pub record Happens (shape : Shape) (room : RoomModel) (before : ℕ) (event : Event) : Type 0 where
  pub fits : lit_fits shape event.lit ≡ true
  pub clause_fits : IfSome (reason event) (IsClause shape)
  pub free : truth room event.lit ≡ Free
  pub because : Because room before event.lit event.level (reason event)

-- what the type of a trail keeps
pub record IsTrail (t : TrailModel) : Type 0 where
  pub shape : ShapeFits (trail_shape t)
  pub told : (place : ℕ) → IfSome (slice_get t.events place) (Happens (trail_shape t) (room_before t place) (level_after (take place t.events)))
  pub last_level : t.level ≡ level_after t.events

-- no event yet
abbrev pub no_events : Shape → TrailModel
no_events shape = record { ships = shape.ships; slots = shape.slots; events = []; level = 0 }

-- the trail with one more event
abbrev pub with_event : TrailModel → Event → TrailModel
with_event t event = record { ships = t.ships; slots = t.slots; events = t.events ++ event ∷ []; level = event.level }

-- the trail with a decision, which opens a level
abbrev pub decided : TrailModel → Lit → TrailModel
decided t lit = with_event t (record { lit = lit; level = t.level + 1; why = None })

-- the trail with an implied literal
abbrev pub implied : TrailModel → Lit → Why → TrailModel
implied t lit why = with_event t (record { lit = lit; level = t.level; why = Some why })

-- the trail without the events above a level, which is then the current one
abbrev pub back_to : TrailModel → ℕ → TrailModel
back_to t level = record { ships = t.ships; slots = t.slots; events = filter (λ event. nat_le event.level level) t.events; level = level }

-- how many events a trail may have: each narrows a range or sets an order
abbrev pub most_events : ℕ → ℕ → ℕ
most_events ships slots = ships * (slots - 1) + ships * (ships - 1) / 2
