-- Small problems and rooms with what was worked out for them by hand: where sources are quiet, and how many rooms there are.
use Rattle.std.specs.Prelude.{◌≡◌, ℕ, pos, neg_ℤ, true, false, [], ◌∷◌, Some, None}
use Rattle.hw_model.specs.declared.order.Order.{Order}
use Rattle.hw_model.specs.declared.order.Order.TheVariants.{Unset, First, NotFirst}
use Rattle.hw_model.specs.declared.rule.Rule.TheVariants.{Pair, After, Tugs}
use Rattle.hw_model.specs.declared.source.Source.TheVariants as sources
use Rattle.hw_model.specs.declared.shape.Shape.{Shape}
use Rattle.hw_model.specs.Problem.{Problem}
use Rattle.hw_model.specs.Rooms.{RoomModel, room_count}
use Rattle.hw_model.specs.Quiet.{QuietSource}

-- one ship, which can't sail in its first slot nor in its third
abbrev pub one_ship : Problem
one_ship = record { ships = 1; slots = 4; stay = false; values = None ∷ Some 5 ∷ None ∷ Some 9 ∷ []; rules = [] }

-- a room of that ship
abbrev pub room_from_to : ℕ → ℕ → RoomModel
room_from_to low high = record { ships = 1; slots = 4; ranges = (low, high) ∷ []; orders = Unset ∷ [] }

-- two ships that sail two slots apart: in the first and the last slot
abbrev pub two_apart : Problem
two_apart = record { ships = 2; slots = 3; stay = false; values = Some 10 ∷ Some 20 ∷ Some 30 ∷ Some 10 ∷ Some 20 ∷ Some 30 ∷ []; rules = Pair 0 1 (record { lo = neg_ℤ (pos 1); hi = pos 1 } ∷ []) ∷ [] }

-- the shape of two ships and three slots, without rules
abbrev pub shape_of_two_ships : Shape
shape_of_two_ships = record { ships = 2; slots = 3; rules = 0 }

-- the second ship sails two slots after the first
abbrev pub precedence : Problem
precedence = record { ships = 2; slots = 3; stay = false; values = Some 1 ∷ Some 2 ∷ Some 3 ∷ Some 3 ∷ Some 2 ∷ Some 1 ∷ []; rules = After 0 1 2 ∷ [] }

-- a room of two ships in three slots
abbrev pub two_ranges : ℕ × ℕ → ℕ × ℕ → Order → RoomModel
two_ranges first second order = record { ships = 2; slots = 3; ranges = first ∷ second ∷ []; orders = Unset ∷ order ∷ Unset ∷ Unset ∷ [] }

-- two ships whose tugs, two each for three slots, are too many together
abbrev pub tug_pair : Problem
tug_pair = record { ships = 2; slots = 6; stay = false; values = Some 0 ∷ Some 1 ∷ Some 5 ∷ Some 9 ∷ Some 5 ∷ Some 1 ∷ Some 0 ∷ Some 1 ∷ Some 5 ∷ Some 9 ∷ Some 5 ∷ Some 1 ∷ []; rules = Tugs 3 [] (record { ship = 0; tugs = 2; hold = 3 } ∷ record { ship = 1; tugs = 2; hold = 3 } ∷ []) ∷ [] }

-- a room of those two
abbrev pub tug_room : ℕ × ℕ → ℕ × ℕ → RoomModel
tug_room first second = record { ships = 2; slots = 6; ranges = first ∷ second ∷ []; orders = Unset ∷ Unset ∷ Unset ∷ Unset ∷ [] }

-- two ships that must not sail in one tide of three slots, but may stay
abbrev pub one_stays : Problem
one_stays = record { ships = 2; slots = 4; stay = true; values = Some 10 ∷ Some 20 ∷ Some 30 ∷ None ∷ Some 10 ∷ Some 20 ∷ Some 30 ∷ Some 0 ∷ []; rules = Pair 0 1 (record { lo = neg_ℤ (pos 2); hi = pos 2 } ∷ []) ∷ [] }

-- a room of those two
abbrev pub staying_room : ℕ × ℕ → ℕ × ℕ → Order → RoomModel
staying_room first second order = record { ships = 2; slots = 4; ranges = first ∷ second ∷ []; orders = Unset ∷ order ∷ Unset ∷ Unset ∷ [] }

-- three ships in two slots, with no rule
abbrev pub three_ships : Problem
three_ships = record { ships = 3; slots = 2; stay = false; values = Some 1 ∷ Some 1 ∷ Some 1 ∷ Some 1 ∷ Some 1 ∷ Some 1 ∷ []; rules = [] }

-- the orders of (0, 1), (1, 2) and (0, 2)
abbrev pub three_orders : Order → Order → Order → RoomModel
three_orders a b c = record { ships = 3; slots = 2; ranges = (0, 1) ∷ (0, 1) ∷ (0, 1) ∷ []; orders = Unset ∷ a ∷ c ∷ Unset ∷ Unset ∷ b ∷ Unset ∷ Unset ∷ Unset ∷ [] }

-- small problems and rooms in which sources are quiet or not
pub record QuietRows : Type 0 where
  pub window_hole_inside : QuietSource one_ship (sources.Window 0) None (room_from_to 1 3)
  pub window_low_without_value : QuietSource one_ship (sources.Window 0) None (room_from_to 0 3) → ⊥
  pub window_high_without_value : QuietSource one_ship (sources.Window 0) None (room_from_to 1 2) → ⊥
  pub pair_in_the_whole_room : QuietSource two_apart (sources.Rule 0) None (two_ranges (0, 2) (0, 2) Unset)
  pub pair_low_meets_none : QuietSource two_apart (sources.Rule 0) None (two_ranges (1, 2) (0, 2) Unset) → ⊥
  pub pair_high_against_the_order : QuietSource two_apart (sources.Rule 0) None (two_ranges (0, 2) (0, 2) First) → ⊥
  pub precedence_fixed_with_its_order : QuietSource precedence (sources.Rule 0) None (two_ranges (0, 0) (2, 2) First)
  pub precedence_fixed_without_it : QuietSource precedence (sources.Rule 0) None (two_ranges (0, 0) (2, 2) Unset) → ⊥
  pub tugs_held_apart : QuietSource tug_pair (sources.Rule 0) None (tug_room (2, 3) (0, 5))
  pub tugs_held_together : QuietSource tug_pair (sources.Rule 0) None (tug_room (2, 2) (3, 5)) → ⊥
  pub pair_of_which_one_may_stay : QuietSource one_stays (sources.Rule 0) None (staying_room (0, 2) (0, 3) Unset) → ⊥
  pub pair_of_which_one_stays : QuietSource one_stays (sources.Rule 0) None (staying_room (0, 2) (3, 3) First)
  pub orders_open : QuietSource three_ships (sources.Order 0 1 2) None (three_orders Unset Unset Unset)
  pub orders_that_leave_the_third_open : QuietSource three_ships (sources.Order 0 1 2) None (three_orders First NotFirst Unset)
  pub orders_that_set_the_third : QuietSource three_ships (sources.Order 0 1 2) None (three_orders First First Unset) → ⊥
  pub goal_above_the_best : QuietSource two_apart sources.Goal (Some 39) (two_ranges (0, 2) (0, 2) Unset)
  pub goal_at_the_best : QuietSource two_apart sources.Goal (Some 40) (two_ranges (0, 2) (0, 2) Unset) → ⊥
  pub goal_without_a_best : QuietSource two_apart sources.Goal None (two_ranges (0, 0) (0, 0) Unset)

-- the numbers of rooms of small problems
pub record RoomCounts : Type 0 where
  pub one_ship : room_count one_ship ≡ 10
  pub two_apart : room_count two_apart ≡ 108
  pub tug_pair : room_count tug_pair ≡ 1_323
  pub one_stays : room_count one_stays ≡ 300
  pub three_ships : room_count three_ships ≡ 729
