-- Rooms that are alike to a source, and that it refutes and is quiet in them alike.
use Rattle.std.specs.Prelude.{◌≡◌, ◌↔◌, ℕ, false, Option, IsTrue}
use Rattle.hw_model.specs.declared.lit.Lit.{Lit}
use Rattle.hw_model.specs.declared.lit.LitTruth.TheVariants.{Free}
use Rattle.hw_model.specs.declared.source.Source.{Source}
use Rattle.hw_model.specs.declared.source.Source.TheVariants.{Goal}
use Rattle.hw_model.specs.Problem.{Problem}
use Rattle.hw_model.specs.Limits.{IsFlat}
use Rattle.hw_model.specs.Rooms.{RoomModel, RoomFits, low_of, high_of, order_of}
use Rattle.hw_model.specs.Narrowing.{truth, cut}
use Rattle.hw_model.specs.Refuting.{Refutes, IsSourceOf}
use Rattle.hw_model.specs.Quiet.{QuietSource, names_ship, names_order, names_lit}
use Rattle.hw_model.specs.Lits.{IsLitOf}

-- the rooms have the same ranges of the ships and the same orders of which the source speaks
pub record Alike (f : Problem) (source : Source) (a b : RoomModel) : Type 0 where
  pub lows : (ship : ℕ) → IsTrue (names_ship f source ship) → low_of b ship ≡ low_of a ship
  pub highs : (ship : ℕ) → IsTrue (names_ship f source ship) → high_of b ship ≡ high_of a ship
  pub orders : (v w : ℕ) → IsTrue (names_order f source v w) → order_of b v w ≡ order_of a v w

-- what refutes a room refutes each that is alike
abbrev pub AlikeRefuted : Type 0
AlikeRefuted = (f : Problem) (source : Source) (best : Option ℕ) (a b : RoomModel) → IsFlat f → Alike f source a b → Refutes f source best a → Refutes f source best b

-- what is quiet in a room is quiet in each that is alike
abbrev pub AlikeQuiet : Type 0
AlikeQuiet = (f : Problem) (source : Source) (best : Option ℕ) (a b : RoomModel) → IsFlat f → RoomFits f a → RoomFits f b → Alike f source a b → QuietSource f source best a → QuietSource f source best b

-- a cut by a free literal that the source doesn't speak of leaves it quiet, or not
abbrev pub UnspokenCut : Type 0
UnspokenCut = (f : Problem) (source : Source) (best : Option ℕ) (room : RoomModel) (lit : Lit) → IsFlat f → IsSourceOf f source → RoomFits f room → IsLitOf room.ships lit → truth room lit ≡ Free → names_lit f source lit ≡ false
    → (QuietSource f source best room ↔ QuietSource f source best (cut lit room))

-- the best matters to the goal alone
abbrev pub OtherBest : Type 0
OtherBest = (f : Problem) (source : Source) (best other : Option ℕ) (room : RoomModel) → (source ≡ Goal → ⊥) → QuietSource f source best room → QuietSource f source other room
