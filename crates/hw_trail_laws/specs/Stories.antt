-- A story: the events of a trail by their places, and what is known before each.
use Rattle.std.specs.Prelude.{◌≡◌, ℕ, zero, suc, ◌+◌, ◌<◌, false, Option, Some, None, List}
use Rattle.hw_model.specs.declared.lit.Lit.{Lit}
use Rattle.hw_model.specs.Lits.{negation}
use Rattle.hw_trail_laws.specs.Replays.{Facts, World, adding, OnlyLeft}

-- an event: its literal, its level and the clause of its reason, none of a decision
pub record Happening : Type 0 where
  pub lit : Lit
  pub level : ℕ
  pub why : Option (List Lit)

-- what each room of the shape knows from the start, and the events
pub record Story : Type 0 where
  pub start : Facts
  pub at : ℕ → Happening

-- the room before the event at a place
abbrev pub room_at : Story → ℕ → Facts
room_at t zero = t.start
room_at t (suc p) = adding (t.at p).lit (room_at t p)

-- the level before the event at a place, 0 before the first
abbrev pub level_before : Story → ℕ → ℕ
level_before t zero = 0
level_before t (suc p) = (t.at p).level

-- how the event at a place came: a decision opens the next level; a reason was unit there and keeps the level
abbrev pub CameBy : Story → ℕ → Option (List Lit) → Type 0
CameBy t p None = (t.at p).level ≡ level_before t p + 1
CameBy t p (Some c) = ((t.at p).level ≡ level_before t p) × OnlyLeft (room_at t p) (t.at p).lit c

-- the event's literal was open, and it came as a decision or for its reason
pub record Told (t : Story) (p : ℕ) : Type 0 where
  pub not_true : room_at t p (t.at p).lit ≡ false
  pub not_false : room_at t p (negation (t.at p).lit) ≡ false
  pub because : CameBy t p (t.at p).why

-- the first n events came so, from a start that is a room's
pub record IsStory (t : Story) (n : ℕ) : Type 0 where
  pub start_world : World t.start
  pub told : (p : ℕ) → p < n → Told t p
