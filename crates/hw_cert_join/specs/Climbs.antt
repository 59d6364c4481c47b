-- A way through the nodes of a split.
use Rattle.std.specs.Prelude.{All}
use Rattle.hw_model.specs.Problem.{Problem}
use Rattle.hw_model.specs.Rooms.{RoomFits}
use Rattle.hw_cert_lines.specs.Valid.{LineFits}
use Rattle.hw_cert_join.specs.declared.forks.Climb.{Climb}

-- rooms and lemmas of the problem's shape
pub record ClimbFits (f : Problem) (climb : Climb) : Type 0 where
  pub room : RoomFits f climb.room
  pub forks : All (λ fork. RoomFits f fork.room) climb.forks.items
  pub fit : All (LineFits f) climb.lemmas.items
