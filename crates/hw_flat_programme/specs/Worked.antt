-- Small problems, and their programmes and texts worked out by hand.
use Rattle.std.specs.Prelude.{◌≡◌, ℕ, pos, neg_ℤ, true, false, List, [], ◌∷◌, Some, None, codes}
use Rattle.std.specs.List.{concat}
use Rattle.hw_model.specs.declared.rule.Rule.TheVariants.{Pair, After, Tugs}
use Rattle.hw_model.specs.declared.rule.Step.{Step}
use Rattle.hw_model.specs.Problem.{Problem}
use Rattle.hw_flat_programme.specs.declared.format.Sense.TheVariants.{AtMost, Exactly}
use Rattle.hw_flat_programme.specs.Programmes.{Term, Row}
use Rattle.hw_flat_programme.specs.Rows.{rows_of, rules_rows}
use Rattle.hw_flat_programme.specs.Texts.{lp_text, opb_text}

-- a term of weight 1
abbrev pub single_term : ℕ → ℕ → Term
single_term ship slot = record { weight = 1; ship = ship; slot = slot }

-- two tugs
abbrev pub double_term : ℕ → ℕ → Term
double_term ship slot = record { weight = 2; ship = ship; slot = slot }

-- at most one of these, or exactly one
abbrev pub most_one : List Term → Row
most_one terms = record { terms = terms; sense = AtMost; bound = 1 }

abbrev pub exactly_one : List Term → Row
exactly_one terms = record { terms = terms; sense = Exactly; bound = 1 }

-- at most as many tugs as the fleet has
abbrev pub most_tugs : ℕ → List Term → Row
most_tugs fleet terms = record { terms = terms; sense = AtMost; bound = fleet }

-- two ships that sail two slots apart: in the first and the last slot. The second one has no value in between
abbrev pub ships_apart_with_gap : Problem
ships_apart_with_gap = record { ships = 2; slots = 3; stay = false; values = Some 10 ∷ Some 20 ∷ Some 30 ∷ Some 10 ∷ None ∷ Some 30 ∷ []; rules = Pair 0 1 (record { lo = neg_ℤ (pos 1); hi = pos 1 } ∷ []) ∷ [] }

-- three ships that want the one slot, and a fourth one that is kept apart from the first alone
abbrev pub three_apart : Problem
three_apart = record { ships = 4; slots = 1; stay = false; values = Some 10 ∷ Some 20 ∷ Some 30 ∷ Some 40 ∷ []; rules = Pair 0 1 (record { lo = pos 0; hi = pos 0 } ∷ []) ∷ Pair 0 2 (record { lo = pos 0; hi = pos 0 } ∷ []) ∷ Pair 1 2 (record { lo = pos 0; hi = pos 0 } ∷ []) ∷ Pair 0 3 (record { lo = pos 0; hi = pos 0 } ∷ []) ∷ [] }

-- the second ship sails a slot after the first or later, and only the first one may stay
abbrev pub one_waits : Problem
one_waits = record { ships = 2; slots = 3; stay = true; values = Some 1 ∷ Some 2 ∷ Some 0 ∷ Some 3 ∷ Some 4 ∷ None ∷ []; rules = After 0 1 1 ∷ [] }

-- two ships of two tugs each, the first one for two slots
abbrev pub tug_pair_of_fleet : ℕ → List Step → Problem
tug_pair_of_fleet fleet later = record { ships = 2; slots = 2; stay = false; values = Some 1 ∷ Some 1 ∷ Some 1 ∷ Some 1 ∷ []; rules = Tugs fleet later (record { ship = 0; tugs = 2; hold = 2 } ∷ record { ship = 1; tugs = 2; hold = 1 } ∷ []) ∷ [] }

-- from a slot on so many tugs
abbrev pub fleet_from : ℕ → ℕ → List Step
fleet_from slot fleet = record { from = slot; fleet = fleet } ∷ []

-- a ship that can neither sail nor stay
abbrev pub stranded_ship : Problem
stranded_ship = record { ships = 1; slots = 1; stay = false; values = None ∷ []; rules = [] }

pub record WorkedRows : Type 0 where
  pub two_apart_rows : rows_of ships_apart_with_gap ≡ exactly_one (single_term 0 0 ∷ single_term 0 1 ∷ single_term 0 2 ∷ []) ∷ exactly_one (single_term 1 0 ∷ single_term 1 2 ∷ []) ∷ most_one (single_term 0 0 ∷ single_term 1 0 ∷ []) ∷ most_one (single_term 0 0 ∷ single_term 0 1 ∷ single_term 1 0 ∷ []) ∷ most_one (single_term 0 1 ∷ single_term 0 2 ∷ single_term 1 2 ∷ []) ∷ most_one (single_term 0 2 ∷ single_term 1 2 ∷ []) ∷ []
  pub three_apart_rows : rules_rows three_apart three_apart.rules ≡ most_one (single_term 0 0 ∷ single_term 1 0 ∷ single_term 2 0 ∷ []) ∷ most_one (single_term 0 0 ∷ single_term 2 0 ∷ single_term 1 0 ∷ []) ∷ most_one (single_term 1 0 ∷ single_term 2 0 ∷ single_term 0 0 ∷ []) ∷ most_one (single_term 0 0 ∷ single_term 3 0 ∷ []) ∷ []
  pub one_waits_rows : rules_rows one_waits one_waits.rules ≡ most_one (single_term 0 0 ∷ single_term 0 1 ∷ single_term 0 2 ∷ single_term 1 0 ∷ []) ∷ most_one (single_term 0 1 ∷ single_term 0 2 ∷ single_term 1 0 ∷ single_term 1 1 ∷ []) ∷ most_one (single_term 0 2 ∷ single_term 1 0 ∷ single_term 1 1 ∷ []) ∷ []
  pub three_tugs_rows : rules_rows (tug_pair_of_fleet 3 []) (tug_pair_of_fleet 3 []).rules ≡ most_tugs 3 (double_term 0 0 ∷ double_term 1 0 ∷ []) ∷ most_tugs 3 (double_term 0 0 ∷ double_term 0 1 ∷ double_term 1 1 ∷ []) ∷ []
  pub four_tugs_rows : rules_rows (tug_pair_of_fleet 4 []) (tug_pair_of_fleet 4 []).rules ≡ most_tugs 4 (double_term 0 0 ∷ double_term 0 1 ∷ double_term 1 1 ∷ []) ∷ []
  pub fewer_later_rows : rules_rows (tug_pair_of_fleet 4 (fleet_from 1 3)) (tug_pair_of_fleet 4 (fleet_from 1 3)).rules ≡ most_tugs 3 (double_term 0 0 ∷ double_term 0 1 ∷ double_term 1 1 ∷ []) ∷ []
  pub more_later_rows : rules_rows (tug_pair_of_fleet 3 (fleet_from 1 5)) (tug_pair_of_fleet 3 (fleet_from 1 5)).rules ≡ most_tugs 3 (double_term 0 0 ∷ double_term 1 0 ∷ []) ∷ most_tugs 5 (double_term 0 0 ∷ double_term 0 1 ∷ double_term 1 1 ∷ []) ∷ []
  pub nowhere_rows : rows_of stranded_ship ≡ exactly_one [] ∷ []

-- the texts of two of them
pub record WorkedTexts : Type 0 where
  pub two_apart_lp : lp_text ships_apart_with_gap ≡ concat (codes "Maximize\n cargo:\n + 10 x_0_0\n + 20 x_0_1\n + 30 x_0_2\n + 10 x_1_0\n + 30 x_1_2\nSubject To\n" ∷ codes " + 1 x_0_0\n + 1 x_0_1\n + 1 x_0_2\n = 1\n + 1 x_1_0\n + 1 x_1_2\n = 1\n + 1 x_0_0\n + 1 x_1_0\n <= 1\n" ∷ codes " + 1 x_0_0\n + 1 x_0_1\n + 1 x_1_0\n <= 1\n + 1 x_0_1\n + 1 x_0_2\n + 1 x_1_2\n <= 1\n + 1 x_0_2\n + 1 x_1_2\n <= 1\n" ∷ codes "Binary\n x_0_0\n x_0_1\n x_0_2\n x_1_0\n x_1_2\nEnd\n" ∷ [])
  pub two_apart_opb : opb_text ships_apart_with_gap ≡ concat (codes "* #variable= 6 #constraint= 6\n* ship V has slot K: x(V * 3 + K + 1)\n* cargo: 60 less this sum\nmin: +20 x1 +10 x2 +0 x3 +20 x4 +0 x6 ;\n" ∷ codes "+1 x1 +1 x2 +1 x3 = 1 ;\n+1 x4 +1 x6 = 1 ;\n-1 x1 -1 x4 >= -1 ;\n-1 x1 -1 x2 -1 x4 >= -1 ;\n-1 x2 -1 x3 -1 x6 >= -1 ;\n-1 x3 -1 x6 >= -1 ;\n" ∷ [])
  pub nowhere_lp : lp_text stranded_ship ≡ codes "Maximize\n cargo:\n + 0 x_0_0\nSubject To\n + 0 x_0_0\n = 1\nBinary\nEnd\n"
