-- A tariff in force: its allowance, what each ship pays in each slot, and its best balance, charged once.
use Rattle.std.specs.Prelude.{◌≡◌, ℕ, ◌-◌, ◌<◌, ◌≤◌, List, [], ◌++◌, Option, None, length, slice_index, slice_index_or, All, IfSome}
use Rattle.hw_model.specs.Problem.{Problem}
use Rattle.hw_price_laws.specs.declared.limits.TheConstants.{MOST_COST}
use Rattle.hw_price_laws.specs.declared.tariff.Balance.{Balance}
use Rattle.hw_price_laws.specs.declared.tariff.Due.{Due}
use Rattle.hw_price_laws.specs.declared.tariff.Tariff.{Tariff}
use Rattle.hw_price_laws.specs.declared.toll.Toll.{Toll}
use Rattle.hw_price_laws.specs.Prices.{TariffFits, allowance}
use Rattle.hw_price_laws.specs.Computed.{BalanceFits, best_balance, pays}

-- a tariff with its allowance, a cost per ship and slot, and a balance per ship or none, all in parts
pub record Charged : Type 0 where
  pub tariff : Tariff
  pub allowed : ℕ
  pub costs : List (List ℕ)
  pub tops : List (Option Balance)

-- a cost for each slot, which is what the ship pays there
pub record ShipCosts (f : Problem) (tolls : List Toll) (dues : List Due) (ship : ℕ) (costs : List ℕ) : Type 0 where
  pub each_slot : length costs ≡ f.slots
  pub paid : (slot : ℕ) → slot < f.slots → slice_index costs slot ≡ pays f tolls dues ship slot

-- such costs for each ship
pub record AreCosts (f : Problem) (tolls : List Toll) (dues : List Due) (costs : List (List ℕ)) : Type 0 where
  pub each_ship : length costs ≡ f.ships
  pub ships : (ship : ℕ) → ship < f.ships → ShipCosts f tolls dues ship (slice_index_or costs ship [])

-- for each ship its best balance over all its slots
pub record AreTops (f : Problem) (tolls : List Toll) (tariff : Tariff) (tops : List (Option Balance)) : Type 0 where
  pub each_ship : length tops ≡ f.ships
  pub ships : (ship : ℕ) → ship < f.ships → slice_index_or tops ship None ≡ best_balance f tolls tariff ship 0 (f.slots - 1)

-- the limits of an allowance and of the best balances
pub record AreSmall (allowed : ℕ) (tops : List (Option Balance)) : Type 0 where
  pub small_allowed : allowed ≤ MOST_COST
  pub small_tops : All (λ top. IfSome top (BalanceFits 1)) tops

-- the tariff fits the tolls, the allowance is its own, the costs are what it makes ships pay, and the balances are the best ones
pub record IsCharged (f : Problem) (tolls : List Toll) (c : Charged) : Type 0 where
  pub fits : TariffFits (length tolls) c.tariff
  pub allowed : c.allowed ≡ allowance tolls c.tariff.dues
  pub costs : AreCosts f tolls c.tariff.dues c.costs
  pub tops : AreTops f tolls c.tariff c.tops

-- what is charged for tolls is charged for these and more after them
abbrev pub ChargedStays : Type 0
ChargedStays = (f : Problem) (tolls more : List Toll) (c : Charged) → IsCharged f tolls c → IsCharged f (tolls ++ more) c
