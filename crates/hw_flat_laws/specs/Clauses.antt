-- Lists of literals with the first bad one, worked out by hand.
use Rattle.std.specs.Prelude.{◌≡◌, [], ◌∷◌, Some, None}
use Rattle.hw_model.specs.declared.lit.Lit.TheVariants as lits
use Rattle.hw_model.specs.declared.shape.Shape.{Shape}
use Rattle.hw_model.specs.Lits.{first_bad, out_of_range, not_normal}

-- three ships and four slots
abbrev pub shape_of_three_ships : Shape
shape_of_three_ships = record { ships = 3; slots = 4; rules = 0 }

-- normal clauses, and the places of literals out of range or out of order
pub record ClauseRows : Type 0 where
  -- two bounds that leave slot 1 out
  pub slot_left_out : first_bad shape_of_three_ships (lits.AtOrAfter 0 2 ∷ lits.Before 0 1 ∷ lits.AtOrAfter 1 1 ∷ []) ≡ None
  -- a bound and two orders
  pub bound_and_orders : first_bad shape_of_three_ships (lits.AtOrAfter 2 1 ∷ lits.First 0 1 ∷ lits.NotFirst 0 2 ∷ []) ≡ None
  -- two bounds that leave no slot out
  pub no_slot_left_out : first_bad shape_of_three_ships (lits.AtOrAfter 0 2 ∷ lits.Before 0 3 ∷ lits.AtOrAfter 1 1 ∷ []) ≡ Some (not_normal 1)
  -- a bound and its negation
  pub its_negation : first_bad shape_of_three_ships (lits.AtOrAfter 0 2 ∷ lits.Before 0 2 ∷ lits.AtOrAfter 1 1 ∷ []) ≡ Some (not_normal 1)
  -- the upper bound first
  pub upper_bound_first : first_bad shape_of_three_ships (lits.Before 0 1 ∷ lits.AtOrAfter 0 2 ∷ lits.AtOrAfter 1 1 ∷ []) ≡ Some (not_normal 1)
  -- two lower bounds
  pub two_lower_bounds : first_bad shape_of_three_ships (lits.AtOrAfter 0 1 ∷ lits.AtOrAfter 0 2 ∷ lits.AtOrAfter 1 1 ∷ []) ≡ Some (not_normal 1)
  -- ships that don't ascend, before a worse one
  pub ships_before_worse : first_bad shape_of_three_ships (lits.AtOrAfter 1 1 ∷ lits.AtOrAfter 0 1 ∷ lits.Before 5 1 ∷ []) ≡ Some (not_normal 1)
  -- two orders of a pair
  pub two_orders : first_bad shape_of_three_ships (lits.AtOrAfter 0 1 ∷ lits.First 0 1 ∷ lits.NotFirst 0 1 ∷ []) ≡ Some (not_normal 2)
  -- pairs that don't ascend
  pub pairs : first_bad shape_of_three_ships (lits.AtOrAfter 0 1 ∷ lits.First 0 2 ∷ lits.First 0 1 ∷ []) ≡ Some (not_normal 2)
  -- a pair before a ship
  pub pair_before_ship : first_bad shape_of_three_ships (lits.AtOrAfter 0 1 ∷ lits.First 0 1 ∷ lits.AtOrAfter 1 1 ∷ []) ≡ Some (not_normal 2)
  -- no such ship
  pub no_such_ship : first_bad shape_of_three_ships (lits.AtOrAfter 0 1 ∷ lits.Before 3 1 ∷ lits.First 0 1 ∷ []) ≡ Some (out_of_range 1)
  -- slot 0
  pub slot_zero : first_bad shape_of_three_ships (lits.AtOrAfter 0 0 ∷ lits.AtOrAfter 1 1 ∷ lits.AtOrAfter 2 1 ∷ []) ≡ Some (out_of_range 0)
  -- no such slot
  pub no_such_slot : first_bad shape_of_three_ships (lits.AtOrAfter 0 1 ∷ lits.AtOrAfter 1 1 ∷ lits.Before 2 4 ∷ []) ≡ Some (out_of_range 2)
  -- a pair of one ship
  pub pair_of_one : first_bad shape_of_three_ships (lits.AtOrAfter 0 1 ∷ lits.AtOrAfter 1 1 ∷ lits.First 1 1 ∷ []) ≡ Some (out_of_range 2)
  -- a pair that doesn't ascend
  pub turned_pair : first_bad shape_of_three_ships (lits.AtOrAfter 0 1 ∷ lits.AtOrAfter 1 1 ∷ lits.NotFirst 2 1 ∷ []) ≡ Some (out_of_range 2)
  -- no such ship in a pair
  pub no_such_ship_in_pair : first_bad shape_of_three_ships (lits.AtOrAfter 0 1 ∷ lits.First 1 3 ∷ lits.First 0 1 ∷ []) ≡ Some (out_of_range 1)
  -- the first of three bad ones
  pub first_of_three : first_bad shape_of_three_ships (lits.AtOrAfter 0 0 ∷ lits.AtOrAfter 0 0 ∷ lits.AtOrAfter 0 0 ∷ []) ≡ Some (out_of_range 0)
