-- A trail's events by place, with what every room of its shape knows from the start.
use Rattle.std.specs.Prelude.{◌≡◌, ◌⊎◌, ℕ, ◌<◌, ◌≤◌, List, None, slice_index_or}
use Rattle.hw_model.specs.declared.lit.Lit.{Lit}
use Rattle.hw_model.specs.declared.lit.Lit.TheVariants.{First}
use Rattle.hw_trail_laws.specs.declared.event.Event.{Event}
use Rattle.hw_trail_laws.specs.Trails.{TrailModel, reason}
use Rattle.hw_trail_laws.specs.Stories.{Happening, Story}
use Rattle.hw_trail_laws.specs.Knowing.{always}
use Rattle.hw_trail_laws.specs.Walks.{InClause, story_level}

-- an event by the clause of its reason
abbrev pub happening : Event → Happening
happening event = record { lit = event.lit; level = event.level; why = reason event }

-- what stands past the last event
abbrev pub idle : Event
idle = record { lit = First 0 0; level = 0; why = None }

-- the event at a place
abbrev pub event_at : TrailModel → ℕ → Event
event_at t place = slice_index_or t.events place idle

-- the events by place
abbrev pub story_of : TrailModel → Story
story_of t = record { start = always t.ships t.slots; at = λ p. happening (event_at t p) }

-- the level to go back to: the greatest of those below the top one that a literal of the lemma has, or 0
pub record GoesBack (s : Story) (n top : ℕ) (lemma : List Lit) (back : ℕ) : Type 0 where
  pub most : (l : Lit) → InClause l lemma → story_level s n l < top → story_level s n l ≤ back
  pub reached : (back ≡ 0) ⊎ ((l : Lit) × InClause l lemma × (story_level s n l < top) × (story_level s n l ≡ back))
