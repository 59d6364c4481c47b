-- The rows, computed.
use Rattle.std.proofs.Common.{refl}
use Rattle.hw_flat_laws.specs.Rules.{RuleRows}

pub rows : RuleRows
rows = record {
  source_2 = refl;
  number_2 = refl;
  source_3 = refl;
  number_3 = refl;
  source_7 = refl;
  number_7 = refl;
  goal_number = refl;
  value_in_range = refl;
  sum_of_room = refl;
  forced = refl;
  greater_first = refl;
  more = refl;
  first = refl;
  same = refl;
  apart_fits_cargo = refl;
  apart_fits = refl;
  too_near_cargo = refl;
  too_near = refl;
  no_value_cargo = refl;
  no_value = refl;
  too_many_tugs_cargo = refl;
  too_many_tugs = refl;
  first_may_not_stay_cargo = refl;
  first_may_not_stay = refl;
  second_stays_cargo = refl;
  second_stays = refl;
  busy_in_0 = refl;
  busy_in_1 = refl;
  busy_in_2 = refl;
  busy_in_3 = refl;
  busy_in_4 = refl;
  whole_sum = refl;
  cut_sum = refl;
  whole_load_0 = refl;
  whole_load_1 = refl;
  whole_load_2 = refl;
  whole_load_3 = refl;
  cut_load_0 = refl;
  cut_load_1 = refl;
  cut_load_2 = refl;
  cut_load_3 = refl;
  cut_room = refl;
  slots_0_and_2 = refl;
  slots_0_and_1 = refl;
  slots_1_and_1 = refl;
  slots_2_and_0 = refl;
}
