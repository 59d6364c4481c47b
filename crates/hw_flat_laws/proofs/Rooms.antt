-- The rows, computed.
use Rattle.std.proofs.Common.{refl}
use Rattle.hw_flat_laws.specs.Rooms.{RoomRows}

pub rows : RoomRows
rows = record {
  bound_true = refl;
  bound_false = refl;
  bound_free = refl;
  upper_bound_free = refl;
  cut_by_bound = refl;
  order_free = refl;
  cut_by_order = refl;
  order_false = refl;
  order_true = refl;
  denied_clause = refl;
  denied_nothing = refl;
  denied_again = refl;
  normal_again = refl;
  first_above = refl;
  first_below = refl;
  second_above = refl;
  second_below = refl;
  third_above = refl;
  third_below = refl;
  first_pair = refl;
  second_pair = refl;
  third_pair = refl;
  several_open = refl;
  nothing_cut = refl;
  one_open = refl;
  cut_by_it = refl;
  one_true = refl;
  none_open = refl;
  no_literals = refl;
}
