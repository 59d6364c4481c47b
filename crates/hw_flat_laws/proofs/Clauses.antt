-- The rows, computed.
use Rattle.std.proofs.Common.{refl}
use Rattle.hw_flat_laws.specs.Clauses.{ClauseRows}

pub rows : ClauseRows
rows = record {
  slot_left_out = refl;
  bound_and_orders = refl;
  no_slot_left_out = refl;
  its_negation = refl;
  upper_bound_first = refl;
  two_lower_bounds = refl;
  ships_before_worse = refl;
  two_orders = refl;
  pairs = refl;
  pair_before_ship = refl;
  no_such_ship = refl;
  slot_zero = refl;
  no_such_slot = refl;
  pair_of_one = refl;
  turned_pair = refl;
  no_such_ship_in_pair = refl;
  first_of_three = refl;
}
