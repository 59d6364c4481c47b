-- The worked rows, computed.
use Rattle.std.proofs.Common.{◌≡◌, ℕ, true, false, Option, Some, None, refl}
use Rattle.std.proofs.lemmas.Bool.{both_ways}
use Rattle.hw_model.specs.declared.order.Order.TheVariants.{Unset, First, NotFirst}
use Rattle.hw_model.specs.declared.source.Source.{Source}
use Rattle.hw_model.specs.declared.source.Source.TheVariants as sources
use Rattle.hw_model.specs.Problem.{Problem}
use Rattle.hw_model.specs.Rooms.{RoomModel}
use Rattle.hw_model.specs.Quiet.{QuietSource}
use Rattle.hw_model_laws.specs.Computed.{quiet}
use Rattle.hw_model_laws.specs.Rows.{QuietRows, RoomCounts, one_ship, two_apart, precedence, tug_pair, one_stays, three_ships, room_from_to, two_ranges, tug_room, staying_room, three_orders}
use Rattle.hw_model_laws.proofs.QuietTests.{quiet_from, from_quiet}

is_quiet : (f : Problem) (source : Source) (best : Option ℕ) (room : RoomModel) → quiet f source best room ≡ true → QuietSource f source best room
is_quiet f source best room e = quiet_from f source best room e

not_quiet : (f : Problem) (source : Source) (best : Option ℕ) (room : RoomModel) → quiet f source best room ≡ false → QuietSource f source best room → ⊥
not_quiet f source best room e h = both_ways _ e (from_quiet f source best room h)

pub quiet_rows : QuietRows
quiet_rows = record {
  window_hole_inside = is_quiet one_ship (sources.Window 0) None (room_from_to 1 3) refl;
  window_low_without_value = not_quiet one_ship (sources.Window 0) None (room_from_to 0 3) refl;
  window_high_without_value = not_quiet one_ship (sources.Window 0) None (room_from_to 1 2) refl;
  pair_in_the_whole_room = is_quiet two_apart (sources.Rule 0) None (two_ranges (0, 2) (0, 2) Unset) refl;
  pair_low_meets_none = not_quiet two_apart (sources.Rule 0) None (two_ranges (1, 2) (0, 2) Unset) refl;
  pair_high_against_the_order = not_quiet two_apart (sources.Rule 0) None (two_ranges (0, 2) (0, 2) First) refl;
  precedence_fixed_with_its_order = is_quiet precedence (sources.Rule 0) None (two_ranges (0, 0) (2, 2) First) refl;
  precedence_fixed_without_it = not_quiet precedence (sources.Rule 0) None (two_ranges (0, 0) (2, 2) Unset) refl;
  tugs_held_apart = is_quiet tug_pair (sources.Rule 0) None (tug_room (2, 3) (0, 5)) refl;
  tugs_held_together = not_quiet tug_pair (sources.Rule 0) None (tug_room (2, 2) (3, 5)) refl;
  pair_of_which_one_may_stay = not_quiet one_stays (sources.Rule 0) None (staying_room (0, 2) (0, 3) Unset) refl;
  pair_of_which_one_stays = is_quiet one_stays (sources.Rule 0) None (staying_room (0, 2) (3, 3) First) refl;
  orders_open = is_quiet three_ships (sources.Order 0 1 2) None (three_orders Unset Unset Unset) refl;
  orders_that_leave_the_third_open = is_quiet three_ships (sources.Order 0 1 2) None (three_orders First NotFirst Unset) refl;
  orders_that_set_the_third = not_quiet three_ships (sources.Order 0 1 2) None (three_orders First First Unset) refl;
  goal_above_the_best = is_quiet two_apart sources.Goal (Some 39) (two_ranges (0, 2) (0, 2) Unset) refl;
  goal_at_the_best = not_quiet two_apart sources.Goal (Some 40) (two_ranges (0, 2) (0, 2) Unset) refl;
  goal_without_a_best = is_quiet two_apart sources.Goal None (two_ranges (0, 0) (0, 0) Unset) refl;
}

pub room_counts : RoomCounts
room_counts = record { one_ship = refl; two_apart = refl; tug_pair = refl; one_stays = refl; three_ships = refl }
