-- A room that is narrowed by clauses and sources, and the lines that are found so.
use Rattle.std.specs.Prelude.{◌≡◌, ◌≤◌, List, [], All, length}
use Rattle.hw_model.specs.Problem.{Problem}
use Rattle.hw_model.specs.Refuting.{IsSourceOf}
use Rattle.hw_model.specs.Rooms.{RoomFits}
use Rattle.hw_cert_lines.specs.declared.line.Line.{Line}
use Rattle.hw_cert_lines.specs.Lemmas.{lemmas_of}
use Rattle.hw_cert_lines.specs.Valid.{LineFits}
use Rattle.hw_cert_closes.specs.declared.closing.Ground.{Ground}
use Rattle.hw_cert_closes.specs.declared.closing.Narrowing.{Narrowing}

-- lines and sources of the problem
pub record GroundFits (ground : Ground) : Type 0 where
  pub lines : All (LineFits ground.flat.now) ground.lines.now
  pub sources : All (IsSourceOf ground.flat.now) ground.sources.items

-- a room of the problem, and lines of its shape without a lemma
pub record IsUnderWay (f : Problem) (narrowing : Narrowing) : Type 0 where
  pub room : RoomFits f narrowing.room
  pub fit : All (LineFits f) narrowing.lines.items
  pub no_lemma : lemmas_of narrowing.lines.items ≡ []

-- lines of the problem's shape with one lemma at most
pub record AreClosing (f : Problem) (more : List Line) : Type 0 where
  pub fit : All (LineFits f) more
  pub few : length (lemmas_of more) ≤ 1
