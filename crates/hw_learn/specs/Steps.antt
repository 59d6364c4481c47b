-- Single steps of the walk back over a trail.
use Rattle.std.specs.Prelude.{ℕ, false, List, [], ◌∷◌, ◌++◌, Option, MatchOption}
use Rattle.hw_model.specs.declared.lit.Lit.{Lit}
use Rattle.hw_model.specs.Rooms.{RoomModel}
use Rattle.hw_trail_laws.specs.Bridge.{story_of}
use Rattle.hw_trail_laws.specs.Knowing.{always, knows}
use Rattle.hw_trail_laws.specs.Passes.{DeniesOthers, MostOf, NothingOf, StepKeeps, When}
use Rattle.hw_trail_laws.specs.Trails.{TrailModel}
use Rattle.hw_trail_laws.specs.Walks.{Hit}

-- the greatest literal that the room knows of the literal's side, none where it knows no more than every room does
abbrev pub IsMost : RoomModel → Lit → Option Lit → Type 0
IsMost room lit most = MatchOption most (NothingOf (always room.ships room.slots) (knows room) lit) (MostOf (always room.ships room.slots) (knows room) lit)

-- where a room denied a clause's literals but one, the new room denies one more literal, unless it is that one
abbrev pub DeniesOneMore : RoomModel → RoomModel → Lit → Lit → Type 0
DeniesOneMore new old lit but = (before : RoomModel) (clause : List Lit) → DeniesOthers (knows before) (knows old) clause but → DeniesOthers (knows before) (knows new) (clause ++ lit ∷ []) but

-- the event at the place made what the room knows known, and it is to be resolved
abbrev pub IsDue : TrailModel → RoomModel → ℕ → ℕ → ℕ → Type 0
IsDue t held place top first = Hit (story_of t) place (knows held) × When (story_of t) place top first (knows held)

-- the walk goes past the event at the place, and the room stays as it is
abbrev pub IsPassed : TrailModel → RoomModel → ℕ → ℕ → ℕ → Type 0
IsPassed t held place top first = StepKeeps (story_of t) place top first (knows held) (knows held) false
