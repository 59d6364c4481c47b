-- A room read and set range by range and order by order, and slots inside, worked out by hand.
use Rattle.std.specs.Prelude.{◌≡◌, true, false, ◌&&◌, nat_le}
use Rattle.hw_model.specs.declared.order.Order.TheVariants.{Unset, First, NotFirst}
use Rattle.hw_model.specs.Narrowing.{with_range, with_order}
use Rattle.hw_model.specs.Rooms.{RoomModel, whole_room, low_of, high_of, order_of, agrees}
use Rattle.hw_flat.specs.Opened.{opened}
use Rattle.hw_model_laws.specs.Rows.{shape_of_two_ships}

-- the whole room
abbrev pub whole_of_two_ships : RoomModel
whole_of_two_ships = whole_room shape_of_two_ships

-- each ship has another range
abbrev pub ranged : RoomModel
ranged = with_range (with_range whole_of_two_ships 0 1 2) 1 2 2

-- each ship has one slot
abbrev pub point : RoomModel
point = with_range ranged 0 2 2

-- and the ships are in order
abbrev pub ordered : RoomModel
ordered = with_order point 0 1 First

-- ship 0 has slot 1 alone
abbrev pub at_one : RoomModel
at_one = with_range whole_of_two_ships 0 1 1

-- the range of each ship and their order after each step; ranges and orders that slots agree with
pub record SettingRows : Type 0 where
  pub opened_first_low : low_of whole_of_two_ships 0 ≡ 0
  pub opened_first_high : high_of whole_of_two_ships 0 ≡ 2
  pub opened_second_low : low_of whole_of_two_ships 1 ≡ 0
  pub opened_second_high : high_of whole_of_two_ships 1 ≡ 2
  pub opened_order : order_of whole_of_two_ships 0 1 ≡ Unset
  pub ranged_first_low : low_of ranged 0 ≡ 1
  pub ranged_first_high : high_of ranged 0 ≡ 2
  pub ranged_second_low : low_of ranged 1 ≡ 2
  pub ranged_second_high : high_of ranged 1 ≡ 2
  pub ranged_order : order_of ranged 0 1 ≡ Unset
  pub point_first_low : low_of point 0 ≡ 2
  pub point_first_high : high_of point 0 ≡ 2
  pub point_second_low : low_of point 1 ≡ 2
  pub point_second_high : high_of point 1 ≡ 2
  pub point_order : order_of point 0 1 ≡ Unset
  pub ordered_first_low : low_of ordered 0 ≡ 2
  pub ordered_first_high : high_of ordered 0 ≡ 2
  pub ordered_second_low : low_of ordered 1 ≡ 2
  pub ordered_second_high : high_of ordered 1 ≡ 2
  pub ordered_order : order_of ordered 0 1 ≡ First
  pub reset_first_low : low_of (opened ordered) 0 ≡ 0
  pub reset_first_high : high_of (opened ordered) 0 ≡ 2
  pub reset_second_low : low_of (opened ordered) 1 ≡ 0
  pub reset_second_high : high_of (opened ordered) 1 ≡ 2
  pub reset_order : order_of (opened ordered) 0 1 ≡ Unset
  -- slot 1 agrees with the range of ship 0, slots 0 and 2 do not
  pub slot_inside : nat_le (low_of at_one 0) 1 && nat_le 1 (high_of at_one 0) ≡ true
  pub slot_before : nat_le (low_of at_one 0) 0 ≡ false
  pub slot_after : nat_le 2 (high_of at_one 0) ≡ false
  pub any : agrees Unset 1 0 ≡ true
  pub before : agrees First 1 2 ≡ true
  pub not_before : agrees First 1 1 ≡ false
  pub together : agrees NotFirst 1 1 ≡ true
  pub not_together : agrees NotFirst 1 2 ≡ false
