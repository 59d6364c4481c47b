-- Small splits with what was worked out for them by hand.
use Rattle.std.specs.Prelude.{◌≡◌, [], ◌∷◌, Some, None, Ok, Err, codes, List}
use Rattle.hw_model.specs.declared.lit.Lit.TheVariants.{AtOrAfter, Before}
use Rattle.hw_split_text.specs.declared.fault.SplitWord.TheVariants as words
use Rattle.hw_split_text.specs.declared.node.Node.{Node}
use Rattle.hw_split_text.specs.declared.node.Node.TheVariants.{Fork, Part}
use Rattle.hw_split_text.specs.Splits.{split_parts, part_at}
use Rattle.hw_split_text.specs.Text.{split_text}
use Rattle.hw_split_text.specs.Written.{written_split}
use Rattle.hw_model_laws.specs.Rows.{shape_of_two_ships}

-- ship 0 sails in slot 0; or later, and then ship 1 in slot 0 or 1, or in slot 2
abbrev pub three_parts : List Node
three_parts = Fork 0 1 ∷ Part ∷ Fork 1 2 ∷ Part ∷ Part ∷ []

-- the parts of splits
pub record SplitRows : Type 0 where
  pub all : split_parts (Part ∷ []) ≡ [] ∷ []
  pub three : split_parts three_parts ≡ (Before 0 1 ∷ []) ∷ (AtOrAfter 0 1 ∷ Before 1 2 ∷ []) ∷ (AtOrAfter 0 1 ∷ AtOrAfter 1 2 ∷ []) ∷ []
  pub none : part_at three_parts 0 ≡ None
  pub second : part_at three_parts 2 ≡ Some (AtOrAfter 0 1 ∷ Before 1 2 ∷ [])
  pub fourth : part_at three_parts 4 ≡ None

-- what texts of splits say
pub record SplitTextRows : Type 0 where
  pub one_part : split_text shape_of_two_ships (codes "split 1\np\nend\n") ≡ Ok (Part ∷ [])
  pub three : split_text shape_of_two_ships (codes "split 1\ns 0 1\np\ns 1 2\np\np\nend\n") ≡ Ok three_parts
  pub no_byte : split_text shape_of_two_ships [] ≡ Err (record { number = 1; word = words.Header })
  pub other_header : split_text shape_of_two_ships (codes "split 2\np\nend\n") ≡ Err (record { number = 1; word = words.Header })
  pub no_node : split_text shape_of_two_ships (codes "split 1\nend\n") ≡ Err (record { number = 2; word = words.Node })
  pub no_slot_before : split_text shape_of_two_ships (codes "split 1\ns 0 0\np\np\nend\n") ≡ Err (record { number = 2; word = words.Node })
  pub last_slot : split_text shape_of_two_ships (codes "split 1\ns 0 2\np\np\nend\n") ≡ Ok (Fork 0 2 ∷ Part ∷ Part ∷ [])
  pub no_such_slot : split_text shape_of_two_ships (codes "split 1\ns 0 3\np\np\nend\n") ≡ Err (record { number = 2; word = words.Node })
  pub no_such_ship : split_text shape_of_two_ships (codes "split 1\ns 2 1\np\np\nend\n") ≡ Err (record { number = 2; word = words.Node })
  pub cut_off_before : split_text shape_of_two_ships (codes "split 1\ns 0 1\ns 0 2\np\np\np\nend\n") ≡ Err (record { number = 3; word = words.Node })
  pub same_slot_later : split_text shape_of_two_ships (codes "split 1\ns 0 1\np\ns 0 1\np\np\nend\n") ≡ Err (record { number = 4; word = words.Node })
  pub later_slot_later : split_text shape_of_two_ships (codes "split 1\ns 0 1\np\ns 0 2\np\np\nend\n") ≡ Ok (Fork 0 1 ∷ Part ∷ Fork 0 2 ∷ Part ∷ Part ∷ [])
  pub two_spellings : split_text shape_of_two_ships (codes "split 1\ns 0 01\np\np\nend\n") ≡ Err (record { number = 2; word = words.Node })
  pub branch_missing : split_text shape_of_two_ships (codes "split 1\ns 0 1\np\nend\n") ≡ Err (record { number = 4; word = words.Node })
  pub branch_too_many : split_text shape_of_two_ships (codes "split 1\np\np\nend\n") ≡ Err (record { number = 3; word = words.Tail })
  pub text_cut_off : split_text shape_of_two_ships (codes "split 1\ns 0 1\np\np") ≡ Err (record { number = 4; word = words.Node })
  pub no_end : split_text shape_of_two_ships (codes "split 1\np\n") ≡ Err (record { number = 3; word = words.Tail })
  pub end_without_its_end : split_text shape_of_two_ships (codes "split 1\np\nend") ≡ Err (record { number = 3; word = words.Tail })
  pub a_byte_after : split_text shape_of_two_ships (codes "split 1\np\nend\n\n") ≡ Err (record { number = 4; word = words.Tail })

-- the texts of splits
pub record WrittenSplitRows : Type 0 where
  pub one_part : written_split (Part ∷ []) ≡ codes "split 1\np\nend\n"
  pub three : written_split three_parts ≡ codes "split 1\ns 0 1\np\ns 1 2\np\np\nend\n"
