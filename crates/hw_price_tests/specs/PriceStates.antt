-- What is kept of tolls, tariffs and bounds that come one after another.
use Rattle.std.specs.Prelude.{ℕ, ◌≤◌, List, [], Option, None, length, option_map, All, IfSome}
use Rattle.hw_model.specs.Problem.{Problem}
use Rattle.hw_price_laws.specs.declared.limits.TheConstants.{MOST_TOLLS}
use Rattle.hw_price_laws.specs.declared.tariff.Tariff.{Tariff}
use Rattle.hw_price_laws.specs.declared.toll.Toll.{Toll}
use Rattle.hw_price_laws.specs.Tolls.{IsToll}
use Rattle.hw_price_tests.specs.InForce.{Charged, IsCharged}

-- the tolls so far, the tariff in force as it was charged, and the last bound in tenths of a tonne
pub record PriceState : Type 0 where
  pub tolls : List Toll
  pub charged : Option Charged
  pub bound : Option ℕ

-- the tariff in force
abbrev pub tariff_in_force : PriceState → Option Tariff
tariff_in_force state = option_map (λ c. c.tariff) state.charged

-- no tolls, no tariff and no bound
abbrev pub no_prices : PriceState
no_prices = record { tolls = []; charged = None; bound = None }

-- at most 10,000 tolls, each one of the problem, and what is in force is charged for them
pub record AreGood (f : Problem) (state : PriceState) : Type 0 where
  pub few : length state.tolls ≤ MOST_TOLLS
  pub tolls : All (IsToll f) state.tolls
  pub charged : IfSome state.charged (IsCharged f state.tolls)
