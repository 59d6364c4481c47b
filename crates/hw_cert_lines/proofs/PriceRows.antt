-- The worked rows of lines about tolls and prices, computed.
use Rattle.std.proofs.Common.{refl}
use Rattle.hw_cert_lines.specs.PriceRows.{PriceLineRows}

pub price_line_rows : PriceLineRows
price_line_rows = record {
  apart_by_the_rule = refl;
  apart_to_the_edge = refl;
  two_slots_apart_is_allowed = refl;
  one_job_of_two = refl;
  a_weight_too_heavy = refl;
  a_job_without_a_weight = refl;
  not_a_rule_on_tugs = refl;
  the_staying_slot = refl;
  toll_ten_thousand = refl;
  toll_ten_thousand_and_one = refl;
  a_toll_declared = refl;
  a_toll_not_declared_yet = refl;
  forty_is_the_most = refl;
  nothing_follows = refl;
  no_prices_in_force = refl;
  prices_out_of_force = refl;
  without_a_best = refl;
  both_late = refl;
  one_late = refl;
  a_bound_of_forty = refl;
  no_bound_of_thirty_nine = refl;
  a_bound_without_prices_in_force = refl;
  a_lower_bound = refl;
  the_bound_again = refl;
  none_permitted = refl;
  no_bound_without_a_scale = refl;
  a_bound_with_a_scale = refl;
}
