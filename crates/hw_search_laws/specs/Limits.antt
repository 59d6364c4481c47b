-- The limits of problems, tolls, prices, certificates and searches as numbers: definitions cite the constants, so a constant that is
-- wrong would make them wrong with it.
use Rattle.std.specs.Prelude.{◌≡◌}
use Rattle.hw_model.specs.declared.limits.TheConstants.{MOST_SHIPS, MOST_SLOTS, MOST_RULES, MOST_VALUE, MOST_HOLES, MOST_DIFFERENCE, MOST_TUGS, MOST_FLEET, MOST_PLAIN_FLEET, MOST_HOLD, MOST_CARGO, MOST_HELD}
use Rattle.hw_lits.specs.declared.clause.TheConstants.{MOST_LITERALS}
use Rattle.hw_price_laws.specs.declared.limits.TheConstants.{MOST_TOLLS, MOST_DUES, MOST_PRICE, MOST_SCALE, MOST_GAIN}
use Rattle.hw_cert.specs.declared.taking.TheConstants.{MOST_OF_LINE}
use Rattle.hw_search_laws.specs.declared.limits.TheConstants.{MOST_BUDGET, MOST_PRICED}

-- each limit and its number
pub record LimitsAre : Type 0 where
  pub ships : MOST_SHIPS ≡ 40
  pub slots : MOST_SLOTS ≡ 512
  pub rules : MOST_RULES ≡ 4_000
  pub value : MOST_VALUE ≡ 1_000_000_000_000
  pub holes : MOST_HOLES ≡ 8
  pub difference : MOST_DIFFERENCE ≡ 1_023
  pub tugs : MOST_TUGS ≡ 64
  pub fleet : MOST_FLEET ≡ 2_560
  pub plain_fleet : MOST_PLAIN_FLEET ≡ 1_000
  pub hold : MOST_HOLD ≡ 1_024
  pub cargo : MOST_CARGO ≡ 40_000_000_000_000
  pub held : MOST_HELD ≡ 2_560
  pub literals : MOST_LITERALS ≡ 860
  pub tolls : MOST_TOLLS ≡ 10_000
  pub dues : MOST_DUES ≡ 100_000
  pub price : MOST_PRICE ≡ 1_000_000_000_000_000_000
  pub scale : MOST_SCALE ≡ 1_000_000
  pub gain : MOST_GAIN ≡ 1_000_000_000_000_000_000
  pub line : MOST_OF_LINE ≡ 1_048_576
  pub budget : MOST_BUDGET ≡ 100_000
  pub priced : MOST_PRICED ≡ 1_000_000_000
