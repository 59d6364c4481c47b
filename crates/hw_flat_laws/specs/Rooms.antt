-- Literals in rooms, denied rooms and steps of a replay, worked out by hand.
use Rattle.std.specs.Prelude.{◌≡◌, ℕ, List, [], ◌∷◌, Some, None}
use Rattle.hw_model.specs.declared.lit.Lit.{Lit}
use Rattle.hw_model.specs.declared.lit.Lit.TheVariants as lits
use Rattle.hw_model.specs.declared.lit.LitTruth.TheVariants.{True, False, Free}
use Rattle.hw_model.specs.declared.narrowing.Narrowed.TheVariants.{Same, Cut, Conflict, Loose}
use Rattle.hw_model.specs.declared.order.Order.{Order}
use Rattle.hw_model.specs.declared.order.Order.TheVariants.{Unset, First, NotFirst}
use Rattle.hw_model.specs.Lits.{first_bad}
use Rattle.hw_model.specs.Narrowing.{truth, cut, denied}
use Rattle.hw_model.specs.Replay.{narrowing, room_after}
use Rattle.hw_model.specs.Rooms.{RoomModel, whole_room}
use Rattle.hw_lits.specs.Said.{above_said, below_said, turned_said}
use Rattle.hw_flat_laws.specs.Clauses.{shape_of_three_ships}

-- a room of three ships and four slots: their ranges, and the orders of the ships 0 and 1, 0 and 2, and 1 and 2
abbrev pub room_of_three : List (ℕ × ℕ) → Order → Order → Order → RoomModel
room_of_three ranges a b c = record { ships = 3; slots = 4; ranges = ranges; orders = Unset ∷ a ∷ b ∷ Unset ∷ Unset ∷ c ∷ Unset ∷ Unset ∷ Unset ∷ [] }

-- the whole room
abbrev pub whole_of_three_ships : RoomModel
whole_of_three_ships = whole_room shape_of_three_ships

-- ship 0 has the slots 1 to 3
abbrev pub late_room : RoomModel
late_room = room_of_three ((1, 3) ∷ (0, 3) ∷ (0, 3) ∷ []) Unset Unset Unset

-- ship 1 is not before ship 2
abbrev pub turned_room : RoomModel
turned_room = room_of_three ((0, 3) ∷ (0, 3) ∷ (0, 3) ∷ []) Unset Unset NotFirst

-- a room, and the clause that denies it
abbrev pub said : RoomModel
said = room_of_three ((1, 2) ∷ (0, 0) ∷ (3, 3) ∷ []) First Unset NotFirst

-- each bound and each order that the room sets
abbrev pub clause_said : List Lit
clause_said = lits.AtOrAfter 0 3 ∷ lits.Before 0 1 ∷ lits.AtOrAfter 1 1 ∷ lits.Before 2 3 ∷ lits.NotFirst 0 1 ∷ lits.First 1 2 ∷ []

-- a clause that is replayed
abbrev pub step_clause : List Lit
step_clause = lits.AtOrAfter 0 2 ∷ lits.AtOrAfter 1 3 ∷ lits.First 0 1 ∷ []

-- two ships have the slots 0 and 1, in an order
abbrev pub two : Order → RoomModel
two order = room_of_three ((0, 1) ∷ (0, 1) ∷ (0, 3) ∷ []) order Unset Unset

-- truths, cuts, denied rooms and steps
pub record RoomRows : Type 0 where
  -- of a room in which ship 0 has the slots 1 to 3
  pub bound_true : truth late_room (lits.AtOrAfter 0 1) ≡ True
  pub bound_false : truth late_room (lits.Before 0 1) ≡ False
  pub bound_free : truth late_room (lits.AtOrAfter 0 3) ≡ Free
  pub upper_bound_free : truth late_room (lits.Before 0 3) ≡ Free
  -- cut by an upper bound
  pub cut_by_bound : cut (lits.Before 0 3) late_room ≡ room_of_three ((1, 2) ∷ (0, 3) ∷ (0, 3) ∷ []) Unset Unset Unset
  -- an open order
  pub order_free : truth whole_of_three_ships (lits.First 1 2) ≡ Free
  -- cut by an order
  pub cut_by_order : cut (lits.NotFirst 1 2) whole_of_three_ships ≡ turned_room
  pub order_false : truth turned_room (lits.First 1 2) ≡ False
  pub order_true : truth turned_room (lits.NotFirst 1 2) ≡ True
  -- what two bounds leave out, and an order
  pub denied_clause : denied shape_of_three_ships (lits.AtOrAfter 0 3 ∷ lits.Before 0 1 ∷ lits.First 1 2 ∷ []) ≡ room_of_three ((1, 2) ∷ (0, 3) ∷ (0, 3) ∷ []) Unset Unset NotFirst
  -- no literals deny nothing
  pub denied_nothing : denied shape_of_three_ships [] ≡ whole_of_three_ships
  -- the clause of a room denies it
  pub denied_again : denied shape_of_three_ships clause_said ≡ said
  -- and is normal
  pub normal_again : first_bad shape_of_three_ships clause_said ≡ None
  -- what the room says of each ship and pair, in order
  pub first_above : above_said said 0 ≡ Some (lits.AtOrAfter 0 3)
  pub first_below : below_said said 0 ≡ Some (lits.Before 0 1)
  pub second_above : above_said said 1 ≡ Some (lits.AtOrAfter 1 1)
  pub second_below : below_said said 1 ≡ None
  pub third_above : above_said said 2 ≡ None
  pub third_below : below_said said 2 ≡ Some (lits.Before 2 3)
  pub first_pair : turned_said said 0 1 ≡ Some (lits.NotFirst 0 1)
  pub second_pair : turned_said said 0 2 ≡ None
  pub third_pair : turned_said said 1 2 ≡ Some (lits.First 1 2)
  -- three open literals
  pub several_open : narrowing step_clause whole_of_three_ships ≡ Loose (lits.AtOrAfter 0 2) (lits.AtOrAfter 1 3)
  pub nothing_cut : room_after (narrowing step_clause whole_of_three_ships) whole_of_three_ships ≡ whole_of_three_ships
  -- one open literal
  pub one_open : narrowing step_clause (two Unset) ≡ Cut (lits.First 0 1)
  pub cut_by_it : room_after (narrowing step_clause (two Unset)) (two Unset) ≡ two First
  -- a true literal
  pub one_true : narrowing step_clause (two First) ≡ Same
  -- no open literal
  pub none_open : narrowing step_clause (two NotFirst) ≡ Conflict
  -- no literals
  pub no_literals : narrowing [] (two NotFirst) ≡ Conflict
