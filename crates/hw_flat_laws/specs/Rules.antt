-- Restrictions by number, figures of rooms, and timetables and rules tested one by one, worked out by hand.
use Rattle.std.specs.Prelude.{◌≡◌, ℕ, List, [], ◌∷◌, pos, neg_ℤ, true, false, Some, None, replicate, sum_by}
use Rattle.hw_model.specs.declared.lit.Lit.TheVariants.{Before}
use Rattle.hw_model.specs.declared.order.Order.TheVariants.{Unset}
use Rattle.hw_model.specs.declared.rule.Job.{Job}
use Rattle.hw_model.specs.declared.rule.Rule.{Rule}
use Rattle.hw_model.specs.declared.rule.Rule.TheVariants.{Pair, After, Tugs}
use Rattle.hw_model.specs.declared.source.Source.TheVariants as sources
use Rattle.hw_model.specs.Narrowing.{cut}
use Rattle.hw_model.specs.Problem.{Problem}
use Rattle.hw_model.specs.Refuting.{source_of, greatest_value, greatest_sum, forced_by}
use Rattle.hw_model.specs.Rooms.{RoomModel}
use Rattle.hw_model.specs.Rules.{busy, pair_holds}
use Rattle.hw_model.specs.Timetables.{beats, breach, cargo}
use Rattle.hw_rules.specs.declared.spacing.Freeing.TheVariants.{Lesser}
use Rattle.hw_rules.specs.OneHole.{one_hole}
use Rattle.hw_rules.specs.Sources.{number_of}
use Rattle.hw_model_laws.specs.Rows.{two_apart, one_stays}

-- three ships and six slots, in all of which ships sail
abbrev pub always_sailing : Problem
always_sailing = record { ships = 3; slots = 6; stay = false; values = None ∷ Some 0 ∷ None ∷ None ∷ None ∷ None ∷ Some 5 ∷ Some 9 ∷ Some 7 ∷ None ∷ Some 2 ∷ Some 1 ∷ Some 0 ∷ Some 3 ∷ Some 3 ∷ Some 3 ∷ Some 3 ∷ Some 4 ∷ []; rules = Pair 0 1 (record { lo = neg_ℤ (pos 1); hi = pos 1 } ∷ []) ∷ Pair 0 1 (record { lo = pos 0; hi = pos 0 } ∷ record { lo = pos 2; hi = pos 3 } ∷ []) ∷ After 0 1 2 ∷ After 1 0 2 ∷ Tugs 1 [] (record { ship = 0; tugs = 1; hold = 2 } ∷ record { ship = 1; tugs = 1; hold = 2 } ∷ []) ∷ [] }

-- a room of theirs
abbrev pub sailing_room : RoomModel
sailing_room = record { ships = 3; slots = 6; ranges = (1, 1) ∷ (2, 5) ∷ (0, 4) ∷ []; orders = replicate 9 Unset }

-- two ships whose holes no two slots reach
abbrev pub holes_out_of_reach : Problem
holes_out_of_reach = record { ships = 2; slots = 3; stay = false; values = None ∷ None ∷ Some 7 ∷ None ∷ None ∷ Some 0 ∷ []; rules = Pair 0 1 (record { lo = neg_ℤ (pos 5); hi = neg_ℤ (pos 3) } ∷ record { lo = pos 3; hi = pos 5 } ∷ []) ∷ [] }

-- both ships hold two of three tugs for three slots
abbrev pub tugs : Problem
tugs = record { ships = 2; slots = 6; stay = false; values = Some 0 ∷ Some 1 ∷ Some 5 ∷ Some 9 ∷ Some 5 ∷ Some 1 ∷ Some 0 ∷ Some 1 ∷ Some 5 ∷ Some 9 ∷ Some 5 ∷ Some 1 ∷ []; rules = Tugs 3 [] (record { ship = 0; tugs = 2; hold = 3 } ∷ record { ship = 1; tugs = 2; hold = 3 } ∷ []) ∷ [] }

-- a room in which ship 0 has this range
abbrev pub room_by_range : ℕ × ℕ → RoomModel
room_by_range range = record { ships = 2; slots = 6; ranges = range ∷ (0, 5) ∷ []; orders = Unset ∷ Unset ∷ Unset ∷ Unset ∷ [] }

-- the jobs of its rule
abbrev pub both_jobs : List Job
both_jobs = record { ship = 0; tugs = 2; hold = 3 } ∷ record { ship = 1; tugs = 2; hold = 3 } ∷ []

-- the rule of the third
abbrev pub two_jobs : Rule
two_jobs = Tugs 3 [] (record { ship = 0; tugs = 2; hold = 3 } ∷ record { ship = 1; tugs = 2; hold = 3 } ∷ [])

-- the rule of the first
abbrev pub near : Rule
near = Pair 0 1 (record { lo = neg_ℤ (pos 1); hi = pos 1 } ∷ [])

-- numbers, figures, a precedence as one hole, cargo, what timetables break, tugs and pairs
pub record RuleRows : Type 0 where
  pub source_2 : source_of always_sailing 2 ≡ sources.Window 2
  pub number_2 : number_of always_sailing (sources.Window 2) ≡ Some 2
  pub source_3 : source_of always_sailing 3 ≡ sources.Rule 0
  pub number_3 : number_of always_sailing (sources.Rule 0) ≡ Some 3
  pub source_7 : source_of always_sailing 7 ≡ sources.Rule 4
  pub number_7 : number_of always_sailing (sources.Rule 4) ≡ Some 7
  -- the goal has no number
  pub goal_number : number_of always_sailing sources.Goal ≡ None
  -- of ship 1 in the slots 2 to 5
  pub value_in_range : greatest_value always_sailing 1 2 5 ≡ 7
  -- 0, 7 and 3
  pub sum_of_room : greatest_sum always_sailing sailing_room ≡ 10
  -- ship 0 alone holds a tug in slot 2 whatever its slot
  pub forced : sum_by (forced_by sailing_room 2) (record { ship = 0; tugs = 1; hold = 2 } ∷ record { ship = 1; tugs = 1; hold = 2 } ∷ []) ≡ 1
  -- from the greater ship to the lesser, whose staying frees it
  pub greater_first : one_hole 4 1 3 ≡ record { lesser = 1; greater = 4; hole = record { lo = neg_ℤ (pos 2); hi = pos 1_023 }; freeing = Lesser }
  -- more cargo
  pub more : beats 8 (Some 7) ≡ true
  -- nothing carried, where there was no timetable
  pub first : beats 0 None ≡ true
  -- the same cargo
  pub same : beats 7 (Some 7) ≡ false
  pub apart_fits_cargo : cargo two_apart (0 ∷ 2 ∷ []) ≡ Some 40
  pub apart_fits : breach two_apart (0 ∷ 2 ∷ []) ≡ None
  pub too_near_cargo : cargo two_apart (1 ∷ 2 ∷ []) ≡ Some 50
  pub too_near : breach two_apart (1 ∷ 2 ∷ []) ≡ Some (2, None)
  pub no_value_cargo : cargo holes_out_of_reach (2 ∷ 0 ∷ []) ≡ None
  pub no_value : breach holes_out_of_reach (2 ∷ 0 ∷ []) ≡ Some (1, None)
  pub too_many_tugs_cargo : cargo tugs (0 ∷ 1 ∷ []) ≡ Some 1
  pub too_many_tugs : breach tugs (0 ∷ 1 ∷ []) ≡ Some (2, Some 1)
  pub first_may_not_stay_cargo : cargo one_stays (3 ∷ 3 ∷ []) ≡ None
  pub first_may_not_stay : breach one_stays (3 ∷ 3 ∷ []) ≡ Some (0, None)
  pub second_stays_cargo : cargo one_stays (1 ∷ 3 ∷ []) ≡ Some 20
  pub second_stays : breach one_stays (1 ∷ 3 ∷ []) ≡ None
  pub busy_in_0 : busy two_jobs (0 ∷ 1 ∷ []) 0 ≡ 2
  pub busy_in_1 : busy two_jobs (0 ∷ 1 ∷ []) 1 ≡ 4
  pub busy_in_2 : busy two_jobs (0 ∷ 1 ∷ []) 2 ≡ 4
  pub busy_in_3 : busy two_jobs (0 ∷ 1 ∷ []) 3 ≡ 2
  pub busy_in_4 : busy two_jobs (0 ∷ 1 ∷ []) 4 ≡ 0
  -- the greatest values of both ships, and of a room in which ship 0 sails before slot 2
  pub whole_sum : greatest_sum tugs (room_by_range (0, 5)) ≡ 18
  pub cut_sum : greatest_sum tugs (room_by_range (0, 1)) ≡ 10
  -- the tugs that are held wherever the ships sail
  pub whole_load_0 : sum_by (forced_by (room_by_range (0, 5)) 0) both_jobs ≡ 0
  pub whole_load_1 : sum_by (forced_by (room_by_range (0, 5)) 1) both_jobs ≡ 0
  pub whole_load_2 : sum_by (forced_by (room_by_range (0, 5)) 2) both_jobs ≡ 0
  pub whole_load_3 : sum_by (forced_by (room_by_range (0, 5)) 3) both_jobs ≡ 0
  pub cut_load_0 : sum_by (forced_by (room_by_range (0, 1)) 0) both_jobs ≡ 0
  pub cut_load_1 : sum_by (forced_by (room_by_range (0, 1)) 1) both_jobs ≡ 2
  pub cut_load_2 : sum_by (forced_by (room_by_range (0, 1)) 2) both_jobs ≡ 2
  pub cut_load_3 : sum_by (forced_by (room_by_range (0, 1)) 3) both_jobs ≡ 0
  pub cut_room : cut (Before 0 2) (room_by_range (0, 5)) ≡ room_by_range (0, 1)
  pub slots_0_and_2 : pair_holds two_apart near 0 2 ≡ true
  pub slots_0_and_1 : pair_holds two_apart near 0 1 ≡ false
  pub slots_1_and_1 : pair_holds two_apart near 1 1 ≡ false
  pub slots_2_and_0 : pair_holds two_apart near 2 0 ≡ true
