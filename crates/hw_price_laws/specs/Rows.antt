-- A small problem with tolls and prices, and what was worked out for them by hand.
use Rattle.std.specs.Prelude.{◌≡◌, pos, neg_ℤ, true, false, [], ◌∷◌, Some, None}
use Rattle.hw_model.specs.declared.order.Order.TheVariants.{Unset}
use Rattle.hw_model.specs.declared.rule.Rule.TheVariants as rules
use Rattle.hw_model.specs.Problem.{Problem, shape_of}
use Rattle.hw_model.specs.Rooms.{RoomModel, whole_room}
use Rattle.hw_price_laws.specs.declared.toll.Toll.{Toll}
use Rattle.hw_price_laws.specs.declared.toll.Toll.TheVariants.{Narrows, Tugs}
use Rattle.hw_price_laws.specs.declared.tariff.Tariff.{Tariff}
use Rattle.hw_price_laws.specs.Tolls.{usage, heaviest}
use Rattle.hw_price_laws.specs.Computed.{prices_refute}
use Rattle.hw_price_laws.specs.Judged.{is_toll}

-- two ships that sail two slots apart, in the first and the last slot, and that hold two tugs of three for two slots
abbrev pub tolled_ships_apart : Problem
tolled_ships_apart = record { ships = 2; slots = 3; stay = false; values = Some 10 ∷ Some 20 ∷ Some 30 ∷ Some 10 ∷ Some 20 ∷ None ∷ []; rules = rules.Pair 0 1 (record { lo = neg_ℤ (pos 1); hi = pos 1 } ∷ []) ∷ rules.Tugs 3 [] (record { ship = 0; tugs = 2; hold = 2 } ∷ record { ship = 1; tugs = 2; hold = 2 } ∷ []) ∷ [] }

-- two ships that hold one tug each for two slots, of a fleet of two tugs that has one from the second slot on
abbrev pub fewer_tugs_later : Problem
fewer_tugs_later = record { ships = 2; slots = 3; stay = false; values = Some 10 ∷ Some 20 ∷ Some 30 ∷ Some 10 ∷ Some 20 ∷ Some 30 ∷ []; rules = rules.Tugs 2 (record { from = 1; fleet = 1 } ∷ []) (record { ship = 0; tugs = 1; hold = 2 } ∷ record { ship = 1; tugs = 1; hold = 2 } ∷ []) ∷ [] }

-- of the second and the third slot one ship at most has one
abbrev pub late : Toll
late = Narrows (record { ship = 0; low = 1; high = 2 } ∷ record { ship = 1; low = 1; high = 2 } ∷ [])

-- in the second slot one of the two jobs at most is served
abbrev pub one_job : Toll
one_job = Tugs 3 1 (1 ∷ 1 ∷ []) 1

-- a late slot costs 30 parts, which are 10 tenths of a tonne
abbrev pub late_costs : Tariff
late_costs = record { scale = 3; dues = record { toll = 1; price = 30 } ∷ [] }

-- parts that are tenths of a tonne, and no dues
abbrev pub tariff_without_dues : Tariff
tariff_without_dues = record { scale = 1; dues = [] }

-- a scale of 0: the toll alone
abbrev pub tolls_alone : Tariff
tolls_alone = record { scale = 0; dues = record { toll = 1; price = 1 } ∷ [] }

-- both ships in late slots
abbrev pub both_late : RoomModel
both_late = record { ships = 2; slots = 3; ranges = (1, 2) ∷ (1, 1) ∷ []; orders = Unset ∷ Unset ∷ Unset ∷ Unset ∷ [] }

-- the second ship in the slot where it has no value
abbrev pub without_value : RoomModel
without_value = record { ships = 2; slots = 3; ranges = (0, 2) ∷ (2, 2) ∷ []; orders = Unset ∷ Unset ∷ Unset ∷ Unset ∷ [] }

-- what timetables take, how heavy jobs are, and what prices refute
pub record PriceRows : Type 0 where
  pub both_late_take_two : usage tolled_ships_apart late (2 ∷ 1 ∷ []) ≡ 2
  pub one_late_takes_one : usage tolled_ships_apart late (2 ∷ 0 ∷ []) ≡ 1
  pub both_hold_in_the_second_slot : usage tolled_ships_apart one_job (1 ∷ 0 ∷ []) ≡ 2
  pub held_no_more_in_the_second_slot : usage tolled_ships_apart one_job (2 ∷ 0 ∷ []) ≡ 1
  pub one_job_of_two_fits : heaviest (1 ∷ 1 ∷ []) (record { ship = 0; tugs = 2; hold = 2 } ∷ record { ship = 1; tugs = 2; hold = 2 } ∷ []) 3 ≡ 1
  pub both_jobs_fit_four : heaviest (1 ∷ 1 ∷ []) (record { ship = 0; tugs = 2; hold = 2 } ∷ record { ship = 1; tugs = 2; hold = 2 } ∷ []) 4 ≡ 2
  pub forty_is_the_most : prices_refute tolled_ships_apart (late ∷ []) late_costs (Some 40) (whole_room (shape_of tolled_ships_apart)) ≡ true
  pub forty_may_be_reached : prices_refute tolled_ships_apart (late ∷ []) late_costs (Some 39) (whole_room (shape_of tolled_ships_apart)) ≡ false
  pub without_prices_fifty_may_be : prices_refute tolled_ships_apart [] tariff_without_dues (Some 49) (whole_room (shape_of tolled_ships_apart)) ≡ false
  pub without_prices_no_more : prices_refute tolled_ships_apart [] tariff_without_dues (Some 50) (whole_room (shape_of tolled_ships_apart)) ≡ true
  pub never_without_a_best : prices_refute tolled_ships_apart (late ∷ []) late_costs None (whole_room (shape_of tolled_ships_apart)) ≡ false
  pub tolls_alone_without_a_best : prices_refute tolled_ships_apart (late ∷ []) tolls_alone None both_late ≡ true
  pub no_value_in_a_range : prices_refute tolled_ships_apart [] tariff_without_dues None without_value ≡ true

-- what is a toll of the problems and what isn't
pub record TollRows : Type 0 where
  pub late_slots_are_apart : is_toll tolled_ships_apart late ≡ true
  pub first_and_last_slot_may_be_both : is_toll tolled_ships_apart (Narrows (record { ship = 0; low = 0; high = 2 } ∷ record { ship = 1; low = 1; high = 2 } ∷ [])) ≡ false
  pub ships_ascend : is_toll tolled_ships_apart (Narrows (record { ship = 1; low = 1; high = 2 } ∷ record { ship = 0; low = 1; high = 2 } ∷ [])) ≡ false
  pub one_ship_alone : is_toll tolled_ships_apart (Narrows (record { ship = 1; low = 0; high = 2 } ∷ [])) ≡ true
  pub no_block : is_toll tolled_ships_apart (Narrows []) ≡ false
  pub one_job_is_served : is_toll tolled_ships_apart one_job ≡ true
  pub not_none : is_toll tolled_ships_apart (Tugs 3 1 (1 ∷ 1 ∷ []) 0) ≡ false
  pub behind_the_horizon : is_toll tolled_ships_apart (Tugs 3 3 (1 ∷ 1 ∷ []) 1) ≡ false
  pub a_weight_too_few : is_toll tolled_ships_apart (Tugs 3 1 (1 ∷ []) 1) ≡ false
  pub no_window : is_toll tolled_ships_apart (Tugs 1 1 (1 ∷ 1 ∷ []) 1) ≡ false
  pub no_rule_on_tugs : is_toll tolled_ships_apart (Tugs 2 1 (1 ∷ 1 ∷ []) 1) ≡ false
  pub both_jobs_before_the_step : is_toll fewer_tugs_later (Tugs 2 0 (1 ∷ 1 ∷ []) 2) ≡ true
  pub not_one_before_the_step : is_toll fewer_tugs_later (Tugs 2 0 (1 ∷ 1 ∷ []) 1) ≡ false
  pub one_job_from_the_step : is_toll fewer_tugs_later (Tugs 2 1 (1 ∷ 1 ∷ []) 1) ≡ true
  pub one_job_behind_the_step : is_toll fewer_tugs_later (Tugs 2 2 (1 ∷ 1 ∷ []) 1) ≡ true
  pub not_none_from_the_step : is_toll fewer_tugs_later (Tugs 2 1 (1 ∷ 1 ∷ []) 0) ≡ false
