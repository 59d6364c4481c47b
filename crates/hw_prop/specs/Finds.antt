-- What a propagator finds.
use Rattle.std.specs.Prelude.{ℕ, List, Option, Result, Ok, Err, ⊤}
use Rattle.hw_model.specs.declared.lit.Lit.{Lit}
use Rattle.hw_model.specs.declared.memory.NoMemory.{NoMemory}
use Rattle.hw_model.specs.declared.source.Source.{Source}
use Rattle.hw_model.specs.Problem.{Problem, shape_of}
use Rattle.hw_model.specs.Lits.{IsClause}
use Rattle.hw_model.specs.Rooms.{RoomModel}
use Rattle.hw_model.specs.Narrowing.{denied}
use Rattle.hw_model.specs.Refuting.{Refutes}
use Rattle.hw_model.specs.Quiet.{QuietSource, SpeaksOnlyOf}
use Rattle.hw_lits.specs.Active.{IsActive}
use Rattle.hw_lits.specs.declared.found.Found.{Found}
use Rattle.hw_lits.specs.declared.found.Found.TheVariants.{Quiet, Clause}

-- a clause of the source that is active in the room, where the source isn't quiet
pub record Explanation (f : Problem) (source : Source) (best : Option ℕ) (room : RoomModel) (clause : List Lit) : Type 0 where
  pub normal : IsClause (shape_of f) clause
  pub refuted : Refutes f source best (denied (shape_of f) clause)
  pub active : IsActive clause room
  pub speaks : SpeaksOnlyOf f source clause
  pub loud : QuietSource f source best room → ⊥

-- quiet, or a clause of the source that is active in the room
abbrev pub Finds : Problem → Source → Option ℕ → RoomModel → Found → Type 0
Finds f source best room Quiet = QuietSource f source best room
Finds f source best room (Clause clause) = Explanation f source best room clause

-- what a step answers
abbrev pub SourceFinds : Problem → Source → Option ℕ → RoomModel → Result Found NoMemory → Type 0
SourceFinds f source best room (Ok found) = Finds f source best room found
SourceFinds f source best room (Err stop) = ⊤
