-- Lines that show that nothing in a room beats the best.
use Rattle.std.specs.Prelude.{◌≡◌, ℕ, Bool, true, false, List, Option, Some, None, All, IsTrue}
use Rattle.std.specs.List.{list_all, list_any}
use Rattle.hw_model.specs.declared.lit.Lit.{Lit}
use Rattle.hw_model.specs.Limits.{IsFlat}
use Rattle.hw_model.specs.Problem.{Problem}
use Rattle.hw_model.specs.Rooms.{RoomModel, RoomFits, Inside}
use Rattle.hw_model.specs.Narrowing.{truth}
use Rattle.hw_model.specs.Timetables.{Permits, beats, cargo}
use Rattle.hw_cert_lines.specs.declared.line.Line.{Line}
use Rattle.hw_cert_lines.specs.Lines.{best_of, clause_of}
use Rattle.hw_cert_lines.specs.Valid.{LineFits, Valid}
use Rattle.hw_lits.specs.Steps.{is_false}

-- the room makes each literal false
abbrev pub are_false : RoomModel → List Lit → Bool
are_false room lits = list_all (λ lit. is_false (truth room lit)) lits

-- the line's clause, if it has one, is true of nothing in the room
abbrev pub is_clause_false : RoomModel → Option (List Lit) → Bool
is_clause_false room None = false
is_clause_false room (Some clause) = are_false room clause

-- one of the lines has such a clause
abbrev pub closes_room : RoomModel → List Line → Bool
closes_room room all = list_any (λ line. is_clause_false room (clause_of line)) all

-- the law: where valid lines close a room, nothing permitted in it carries more than their best
abbrev pub ClosedRoom : Type 0
ClosedRoom = (f : Problem) (all : List Line) (room : RoomModel) (table : List ℕ) (c : ℕ) → IsFlat f → All (LineFits f) all → Valid f all → RoomFits f room → closes_room room all ≡ true → Inside table room → Permits f table → cargo f table ≡ Some c → IsTrue (beats c (best_of f all)) → ⊥
