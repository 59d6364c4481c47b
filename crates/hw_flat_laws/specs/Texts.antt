-- Flat problems and their texts, worked out by hand.
use Rattle.std.specs.Prelude.{◌≡◌, [], ◌∷◌, pos, neg_ℤ, true, false, Some, None, Ok, codes}
use Rattle.hw_model.specs.declared.rule.Rule.TheVariants.{Pair, After, Tugs}
use Rattle.hw_model.specs.Problem.{Problem}
use Rattle.hw_flat.specs.Demonstration.{demonstration}
use Rattle.hw_flat.specs.Text.{flat_text}
use Rattle.hw_flat.specs.TextWritten.{problem_text}
use Rattle.hw_model_laws.specs.Rows.{two_apart}

-- a ship with a value in two of three slots
abbrev pub ship_of_two_values : Problem
ship_of_two_values = record { ships = 1; slots = 3; stay = false; values = None ∷ Some 5 ∷ Some 9 ∷ []; rules = [] }

-- values, a gap, tugs and holds at their limits
abbrev pub limits : Problem
limits = record { ships = 2; slots = 4; stay = false; values = Some 0 ∷ Some 1000000000000 ∷ None ∷ Some 4 ∷ Some 5 ∷ Some 9 ∷ Some 5 ∷ Some 1 ∷ []; rules = After 1 0 512 ∷ Tugs 3 [] (record { ship = 0; tugs = 2; hold = 3 } ∷ record { ship = 1; tugs = 64; hold = 1024 } ∷ []) ∷ [] }

-- two ships and three holes; one of the ships may stay
abbrev pub three_holes : Problem
three_holes = record { ships = 2; slots = 4; stay = true; values = Some 10 ∷ Some 20 ∷ Some 30 ∷ None ∷ Some 10 ∷ Some 20 ∷ Some 30 ∷ Some 0 ∷ []; rules = Pair 0 1 (record { lo = neg_ℤ (pos 1023); hi = neg_ℤ (pos 2) } ∷ record { lo = pos 0; hi = pos 0 } ∷ record { lo = pos 2; hi = pos 1023 } ∷ []) ∷ [] }

-- a ship that may not stay
abbrev pub stays_not : Problem
stays_not = record { ships = 1; slots = 2; stay = true; values = Some 0 ∷ None ∷ []; rules = [] }

-- a fleet of three tugs, of none from slot 1 on, and of as many as all jobs can hold from slot 3 on
abbrev pub fleet_by_hours : Problem
fleet_by_hours = record { ships = 2; slots = 4; stay = false; values = Some 1 ∷ Some 2 ∷ Some 3 ∷ Some 4 ∷ Some 5 ∷ None ∷ Some 7 ∷ Some 8 ∷ []; rules = Tugs 3 (record { from = 1; fleet = 0 } ∷ record { from = 3; fleet = 2560 } ∷ []) (record { ship = 0; tugs = 2; hold = 3 } ∷ record { ship = 1; tugs = 64; hold = 1024 } ∷ []) ∷ [] }

-- a fleet that is greater than those of the texts without hours
abbrev pub great_fleet : Problem
great_fleet = record { ships = 1; slots = 1; stay = false; values = Some 5 ∷ []; rules = Tugs 1001 [] (record { ship = 0; tugs = 1; hold = 1 } ∷ []) ∷ [] }

-- a step that repeats the fleet before it, and a ship that may stay
abbrev pub repeated_fleet : Problem
repeated_fleet = record { ships = 1; slots = 3; stay = true; values = Some 5 ∷ Some 6 ∷ Some 0 ∷ []; rules = Tugs 2 (record { from = 1; fleet = 2 } ∷ []) (record { ship = 0; tugs = 1; hold = 1 } ∷ []) ∷ [] }

-- what the texts say, and how the problems are written; and the demonstration 1
pub record ProblemRows : Type 0 where
  pub one_ship_read : flat_text (codes "flat 1\nsize 1 3\nv - 5 9\nend\n") ≡ Ok ship_of_two_values
  pub one_ship_written : problem_text ship_of_two_values ≡ codes "flat 1\nsize 1 3\nv - 5 9\nend\n"
  pub two_apart_read : flat_text (codes "flat 1\nsize 2 3\nv 10 20 30\nv 10 20 30\np 0 1 -1:1\nend\n") ≡ Ok two_apart
  pub two_apart_written : problem_text two_apart ≡ codes "flat 1\nsize 2 3\nv 10 20 30\nv 10 20 30\np 0 1 -1:1\nend\n"
  pub limits_read : flat_text (codes "flat 1\nsize 2 4\nv 0 1000000000000 - 4\nv 5 9 5 1\ns 1 0 512\nu 3 0:2:3 1:64:1024\nend\n") ≡ Ok limits
  pub limits_written : problem_text limits ≡ codes "flat 1\nsize 2 4\nv 0 1000000000000 - 4\nv 5 9 5 1\ns 1 0 512\nu 3 0:2:3 1:64:1024\nend\n"
  pub three_holes_read : flat_text (codes "flat 2\nsize 2 3\nv 10 20 30 n\nv 10 20 30 y\np 0 1 -1023:-2 0:0 2:1023\nend\n") ≡ Ok three_holes
  pub three_holes_written : problem_text three_holes ≡ codes "flat 2\nsize 2 3\nv 10 20 30 n\nv 10 20 30 y\np 0 1 -1023:-2 0:0 2:1023\nend\n"
  pub stays_not_read : flat_text (codes "flat 2\nsize 1 1\nv 0 n\nend\n") ≡ Ok stays_not
  pub stays_not_written : problem_text stays_not ≡ codes "flat 2\nsize 1 1\nv 0 n\nend\n"
  pub by_hours_read : flat_text (codes "flat 3\nsize 2 4\nv 1 2 3 4\nv 5 - 7 8\nh 3 1:0 3:2560 0:2:3 1:64:1024\nend\n") ≡ Ok fleet_by_hours
  pub by_hours_written : problem_text fleet_by_hours ≡ codes "flat 3\nsize 2 4\nv 1 2 3 4\nv 5 - 7 8\nh 3 1:0 3:2560 0:2:3 1:64:1024\nend\n"
  pub great_fleet_read : flat_text (codes "flat 3\nsize 1 1\nv 5\nu 1001 0:1:1\nend\n") ≡ Ok great_fleet
  pub great_fleet_written : problem_text great_fleet ≡ codes "flat 3\nsize 1 1\nv 5\nu 1001 0:1:1\nend\n"
  pub repeated_read : flat_text (codes "flat 4\nsize 1 2\nv 5 6 y\nh 2 1:2 0:1:1\nend\n") ≡ Ok repeated_fleet
  pub repeated_written : problem_text repeated_fleet ≡ codes "flat 4\nsize 1 2\nv 5 6 y\nh 2 1:2 0:1:1\nend\n"
  -- of three ships and five slots
  pub demonstration_written : problem_text (demonstration 1 3 5) ≡ codes "flat 1\nsize 3 5\nv 990 1089 1188 1287 1386\nv 560 616 672 728 784\nv 990 1089 - 1287 1386\np 0 1 -1:2\np 0 2 -1:3\np 1 2 -3:3\nu 4 0:2:4 1:2:3 2:2:4\nend\n"
