-- The refutation by prices as a test that computes, ship by ship.
use Rattle.std.specs.Prelude.{ℕ, ◌+◌, ◌-◌, ◌*◌, ◌≤◌, Bool, true, nat_lt, ◌==◌, ◌&&◌, if◌then◌else◌, List, Option, None, Some, fold, sum_by, option_map}
use Rattle.std.specs.List.{range_with_len}
use Rattle.hw_model.specs.Problem.{Problem, value_at}
use Rattle.hw_model.specs.Rooms.{RoomModel, low_of, high_of}
use Rattle.hw_price_laws.specs.declared.limits.TheConstants.{MOST_GAIN, MOST_COST}
use Rattle.hw_price_laws.specs.declared.tariff.Balance.{Balance}
use Rattle.hw_price_laws.specs.declared.tariff.Due.{Due}
use Rattle.hw_price_laws.specs.declared.tariff.Tariff.{Tariff}
use Rattle.hw_price_laws.specs.declared.toll.Charge.{Charge}
use Rattle.hw_price_laws.specs.declared.toll.Toll.{Toll}
use Rattle.hw_price_laws.specs.Tolls.{charges, lies_in}
use Rattle.hw_price_laws.specs.Prices.{toll_at, allowance, aim}

-- what a ship with this slot takes of a charge
abbrev pub takes : ℕ → ℕ → Charge → ℕ
takes ship slot charge = if charge.ship == ship && lies_in charge.low charge.high slot then charge.amount else 0

-- what it takes of a toll, nothing where there is none
abbrev pub takes_at : Problem → Option Toll → ℕ → ℕ → ℕ
takes_at f None ship slot = 0
takes_at f (Some toll) ship slot = sum_by (takes ship slot) (charges f toll)

-- what a ship pays in a slot
abbrev pub pays : Problem → List Toll → List Due → ℕ → ℕ → ℕ
pays f tolls dues ship slot = sum_by (λ due. due.price * takes_at f (toll_at tolls due.toll) ship slot) dues

-- the balance of a ship in a slot, or none where it has no value there
abbrev pub balance : Problem → List Toll → Tariff → ℕ → ℕ → Option Balance
balance f tolls tariff ship slot = option_map (λ v. record { gain = tariff.scale * v; cost = pays f tolls tariff.dues ship slot }) (value_at f ship slot)

-- the limits of the balance of this many ships
pub record BalanceFits (ships : ℕ) (b : Balance) : Type 0 where
  pub small_gain : b.gain ≤ MOST_GAIN * ships
  pub small_cost : b.cost ≤ MOST_COST * ships

-- the first of two balances unless the second is better
abbrev pub better : Option Balance → Option Balance → Option Balance
better None b = b
better (Some a) None = Some a
better (Some a) (Some b) = if nat_lt (a.gain + b.cost) (b.gain + a.cost) then Some b else Some a

-- a ship's best balance in a range, none where it has no value there
abbrev pub best_balance : Problem → List Toll → Tariff → ℕ → ℕ → ℕ → Option Balance
best_balance f tolls tariff ship low high = fold (λ most slot. better most (balance f tolls tariff ship slot)) None (range_with_len low (high + 1 - low))

-- two balances together, where both are there
abbrev pub together : Option Balance → Option Balance → Option Balance
together None b = None
together (Some a) None = None
together (Some a) (Some b) = Some (record { gain = a.gain + b.gain; cost = a.cost + b.cost })

-- the ships' best balances together, none where a ship has no value in its range
abbrev pub best_balances : Problem → List Toll → Tariff → RoomModel → Option Balance
best_balances f tolls tariff room = fold (λ sum ship. together sum (best_balance f tolls tariff ship (low_of room ship) (high_of room ship))) (Some (record { gain = 0; cost = 0 })) (range_with_len 0 f.ships)

-- the balance with the allowance added stays below the aim; without a balance there is nothing to reach it
abbrev pub falls_short : ℕ → ℕ → Option Balance → Bool
falls_short allowed aimed None = true
falls_short allowed aimed (Some b) = nat_lt (b.gain + allowed) (aimed + b.cost)

-- the prices refute the room
abbrev pub prices_refute : Problem → List Toll → Tariff → Option ℕ → RoomModel → Bool
prices_refute f tolls tariff best room = falls_short (allowance tolls tariff.dues) (aim tariff.scale best) (best_balances f tolls tariff room)
