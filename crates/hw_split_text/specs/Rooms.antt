-- The rooms of parts.
use Rattle.std.specs.Prelude.{◌≡◌, ◌↔◌, ℕ, List, [], ◌∷◌, IsTrue}
use Rattle.hw_model.specs.declared.lit.Lit.{Lit}
use Rattle.hw_model.specs.declared.lit.LitTruth.TheVariants.{Free}
use Rattle.hw_model.specs.declared.shape.Shape.{Shape}
use Rattle.hw_model.specs.Lits.{IsLitOf}
use Rattle.hw_model.specs.Narrowing.{truth, cut}
use Rattle.hw_model.specs.Rooms.{RoomModel, IsRoomOf, Inside, whole_room}
use Rattle.hw_split_text.specs.Splits.{Branch, branch_room, branch_holds}

-- each literal is one of the room's ships, and open in the room that those before it leave
abbrev pub OpenInTurn : RoomModel → List Lit → Type 0
OpenInTurn room [] = Unit {0}
OpenInTurn room (lit ∷ lits) = IsLitOf room.ships lit × (truth room lit ≡ Free) × OpenInTurn (cut lit room) lits

-- the room of a branch is one of the shape, and holds the timetables of the whole room of which the branch's literals are all true
pub record HasRoom (shape : Shape) (branch : Branch) : Type 0 where
  pub is_room : IsRoomOf shape (branch_room shape branch)
  pub inside : (table : List ℕ) → (Inside table (branch_room shape branch) ↔ (Inside table (whole_room shape) × IsTrue (branch_holds table branch)))
