-- Lines of the third version and their texts, worked out by hand.
use Rattle.std.specs.Prelude.{◌≡◌, [], ◌∷◌, Some, None, Ok, Err, codes}
use Rattle.hw_model.specs.declared.lit.Lit.TheVariants.{AtOrAfter}
use Rattle.hw_model.specs.declared.shape.Shape.{Shape}
use Rattle.hw_price_laws.specs.declared.toll.Toll.TheVariants as tolls
use Rattle.hw_cert_lines.specs.declared.line.Line.TheVariants as lines
use Rattle.hw_cert.specs.declared.stop.FormWord.TheVariants.{Form, Range, Normal}
use Rattle.hw_cert.specs.declared.version.Version.TheVariants.{Two, Three}
use Rattle.hw_cert.specs.Spelled.{version_of_header, version_to}
use Rattle.hw_cert.specs.Fits.{line_read}

-- three ships, four slots, two rules: the rules' numbers are 3 and 4
abbrev pub three_ships_two_rules : Shape
three_ships_two_rules = record { ships = 3; slots = 4; rules = 2 }

-- what is read of texts of the third version, and why others aren't
pub record TextRows : Type 0 where
  pub narrows : line_read three_ships_two_rules Three (codes "n 0:1:3 2:0:0") ≡ Ok (lines.Toll (tolls.Narrows (record { ship = 0; low = 1; high = 3 } ∷ record { ship = 2; low = 0; high = 0 } ∷ [])))
  pub tugs : line_read three_ships_two_rules Three (codes "u 4 3 2560 64 0") ≡ Ok (lines.Toll (tolls.Tugs 4 3 (64 ∷ 0 ∷ []) 2_560))
  pub tugs_without_weights : line_read three_ships_two_rules Three (codes "u 3 0 0") ≡ Ok (lines.Toll (tolls.Tugs 3 0 [] 0))
  pub tariff : line_read three_ships_two_rules Three (codes "y 1000 1:7 3:1000000000000000000") ≡ Ok (lines.Tariff (record { scale = 1_000; dues = record { toll = 1; price = 7 } ∷ record { toll = 3; price = 1_000_000_000_000_000_000 } ∷ [] }))
  pub tariff_without_prices : line_read three_ships_two_rules Three (codes "y 0") ≡ Ok (lines.Tariff (record { scale = 0; dues = [] }))
  pub priced : line_read three_ships_two_rules Three (codes "p a1.3") ≡ Ok (lines.Priced (AtOrAfter 1 3 ∷ []))
  pub priced_without_literals : line_read three_ships_two_rules Three (codes "p") ≡ Ok (lines.Priced [])
  pub bound : line_read three_ships_two_rules Three (codes "b 40000000000000") ≡ Ok (lines.Bound 40_000_000_000_000)
  pub no_block : line_read three_ships_two_rules Three (codes "n") ≡ Err Form
  pub a_block_of_two_numbers : line_read three_ships_two_rules Three (codes "n 0:1") ≡ Err Form
  pub one_ship_twice : line_read three_ships_two_rules Three (codes "n 1:0:0 1:2:3") ≡ Err Range
  pub a_block_that_falls : line_read three_ships_two_rules Three (codes "n 0:3:1") ≡ Err Range
  pub a_slot_too_late : line_read three_ships_two_rules Three (codes "n 0:1:4") ≡ Err Range
  pub a_ship_too_many : line_read three_ships_two_rules Three (codes "n 3:0:0") ≡ Err Range
  pub a_ship_for_a_rule : line_read three_ships_two_rules Three (codes "u 2 0 1 1") ≡ Err Range
  pub a_rule_too_many : line_read three_ships_two_rules Three (codes "u 5 0 1 1") ≡ Err Range
  pub too_heavy : line_read three_ships_two_rules Three (codes "u 2 0 1 65") ≡ Err Form
  pub too_much : line_read three_ships_two_rules Three (codes "u 3 0 2561 1") ≡ Err Form
  pub too_great_a_scale : line_read three_ships_two_rules Three (codes "y 1000001 0:1") ≡ Err Form
  pub too_dear : line_read three_ships_two_rules Three (codes "y 1 1:1000000000000000001") ≡ Err Form
  pub toll_nought : line_read three_ships_two_rules Three (codes "y 1 0:1") ≡ Err Range
  pub tolls_that_fall : line_read three_ships_two_rules Three (codes "y 1 2:1 2:1") ≡ Err Range
  pub an_absent_literal : line_read three_ships_two_rules Three (codes "p a1.4") ≡ Err Range
  pub literals_that_fall : line_read three_ships_two_rules Three (codes "p a1.1 a0.1") ≡ Err Normal
  pub too_great_a_bound : line_read three_ships_two_rules Three (codes "b 40000000000001") ≡ Err Form
  pub two_bounds : line_read three_ships_two_rules Three (codes "b 1 2") ≡ Err Form
  pub no_toll_of_the_second_version : line_read three_ships_two_rules Two (codes "n 0:1:3") ≡ Err Form
  pub no_bound_of_the_second_version : line_read three_ships_two_rules Two (codes "b 1") ≡ Err Form
  pub third_header : version_to Three (codes "cert 3") ≡ Some Three
  pub second_header_up_to_three : version_to Three (codes "cert 2") ≡ Some Two
  pub third_header_up_to_two : version_of_header (codes "cert 3") ≡ None
  pub fourth_header : version_to Three (codes "cert 4") ≡ None
