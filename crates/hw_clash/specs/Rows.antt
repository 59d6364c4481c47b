-- Small problems and clashes with what was worked out for them by hand.
use Rattle.std.specs.Prelude.{◌≡◌, [], ◌∷◌, Some, None, Ok, Err, codes, false, pos}
use Rattle.hw_model.specs.declared.rule.Rule.TheVariants.{Pair, After}
use Rattle.hw_model.specs.Problem.{Problem}
use Rattle.hw_clash.specs.declared.fault.ClashWord.TheVariants as words
use Rattle.hw_repair.specs.declared.plan.Wish.TheVariants.{Kept, Planned}
use Rattle.hw_clash.specs.Wished.{Wished, with_wishes, unplanned}
use Rattle.hw_clash.specs.Parts.{part, rule_numbers}
use Rattle.hw_clash.specs.Clashing.{IsClash}
use Rattle.hw_clash.specs.Text.{clash_text, clash_by}

-- two ships, each with one slot of two; the second sails after the first, and not in the next slot
abbrev pub no_way : Problem
no_way = record { ships = 2; slots = 2; stay = false; values = Some 1 ∷ None ∷ Some 1 ∷ Some 1 ∷ []; rules = After 0 1 1 ∷ Pair 0 1 (record { lo = pos 1; hi = pos 1 } ∷ []) ∷ [] }

-- two ships in two slots, the second of which sails after the first; the first was planned for slot 0 and is late, the second has sailed in slot 1. The wishes have the numbers 3 and 4
abbrev pub late_first_ship : Wished
late_first_ship = with_wishes (record { ships = 2; slots = 2; stay = false; values = Some 1 ∷ Some 1 ∷ Some 1 ∷ Some 1 ∷ []; rules = After 0 1 1 ∷ [] }) (Planned 0 1 ∷ Kept 1 ∷ [])

-- what parts are
pub record PartRows : Type 0 where
  pub both_rules : part (unplanned no_way) (2 ∷ 3 ∷ []) ≡ record { ships = 2; slots = 2; stay = false; values = Some 0 ∷ Some 0 ∷ Some 0 ∷ Some 0 ∷ []; rules = no_way.rules }
  pub a_window : (part (unplanned no_way) (0 ∷ 3 ∷ [])).values ≡ Some 0 ∷ None ∷ Some 0 ∷ Some 0 ∷ []
  pub second_rule : (part (unplanned no_way) (0 ∷ 3 ∷ [])).rules ≡ Pair 0 1 (record { lo = pos 1; hi = pos 1 } ∷ []) ∷ []
  -- of the two rules only the second is kept: number 3 of the problem is number 2 of the part
  pub renumbered : rule_numbers (unplanned no_way) (0 ∷ 3 ∷ []) ≡ 3 ∷ []
  pub a_late_ship : (part late_first_ship (2 ∷ 3 ∷ [])).values ≡ None ∷ Some 0 ∷ Some 0 ∷ Some 0 ∷ []
  pub a_sailed_ship : (part late_first_ship (4 ∷ [])).values ≡ Some 0 ∷ Some 0 ∷ None ∷ Some 0 ∷ []
  pub nothing : part (unplanned no_way) [] ≡ record { ships = 2; slots = 2; stay = false; values = Some 0 ∷ Some 0 ∷ Some 0 ∷ Some 0 ∷ []; rules = [] }

-- what is left after all restrictions were tried
pub record ClashRows : Type 0 where
  pub the_two_rules : IsClash (unplanned no_way) (2 ∷ 3 ∷ [])
  -- the wish of the ship that has sailed isn't in it: the late one is too late for any slot of the other
  pub the_rule_and_the_late_ship : IsClash late_first_ship (2 ∷ 3 ∷ [])

-- what texts of clashes say
pub record ClashTextRows : Type 0 where
  pub the_clash : clash_text (unplanned no_way) (codes "clash 1\nkeep 2 3\ndrop 2 1 0\ndrop 3 0 1\nend\n") ≡ Ok (clash_by (2 ∷ 3 ∷ []) ((1 ∷ 0 ∷ []) ∷ (0 ∷ 1 ∷ []) ∷ []))
  pub no_byte : clash_text (unplanned no_way) [] ≡ Err (record { number = 1; word = words.Header })
  pub none_kept : clash_text (unplanned no_way) (codes "clash 1\nkeep\n") ≡ Err (record { number = 2; word = words.Keep })
  pub not_ascending : clash_text (unplanned no_way) (codes "clash 1\nkeep 3 2\n") ≡ Err (record { number = 2; word = words.Keep })
  pub no_restriction : clash_text (unplanned no_way) (codes "clash 1\nkeep 2 4\n") ≡ Err (record { number = 2; word = words.Keep })
  pub another_drop : clash_text (unplanned no_way) (codes "clash 1\nkeep 2 3\ndrop 3 0 1\n") ≡ Err (record { number = 3; word = words.Drop })
  pub few_slots : clash_text (unplanned no_way) (codes "clash 1\nkeep 2 3\ndrop 2 0\n") ≡ Err (record { number = 3; word = words.Drop })
  pub not_met : clash_text (unplanned no_way) (codes "clash 1\nkeep 2 3\ndrop 2 1 0\ndrop 3 1 1\nend\n") ≡ Err (record { number = 4; word = words.Table })
  pub table_before_later_form : clash_text (unplanned no_way) (codes "clash 1\nkeep 2 3\ndrop 2 0 1\ndrop 3 9 9\n") ≡ Err (record { number = 3; word = words.Table })
  pub no_end : clash_text (unplanned no_way) (codes "clash 1\nkeep 2 3\ndrop 2 1 0\ndrop 3 0 1\n") ≡ Err (record { number = 5; word = words.Tail })
  pub a_byte_after : clash_text (unplanned no_way) (codes "clash 1\nkeep 2 3\ndrop 2 1 0\ndrop 3 0 1\nend\n ") ≡ Err (record { number = 6; word = words.Tail })
  pub a_wish : clash_text late_first_ship (codes "clash 1\nkeep 2 3\ndrop 2 1 0\ndrop 3 0 1\nend\n") ≡ Ok (clash_by (2 ∷ 3 ∷ []) ((1 ∷ 0 ∷ []) ∷ (0 ∷ 1 ∷ []) ∷ []))
  pub wish_not_met : clash_text late_first_ship (codes "clash 1\nkeep 2 3\ndrop 2 0 0\n") ≡ Err (record { number = 3; word = words.Table })
  pub no_wish : clash_text late_first_ship (codes "clash 1\nkeep 2 5\n") ≡ Err (record { number = 2; word = words.Keep })
