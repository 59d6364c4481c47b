-- What the exact tests find of a clause.
use Rattle.std.specs.Prelude.{ℕ, ◌≤◌, List, Option}
use Rattle.hw_model.specs.declared.limits.TheConstants.{MOST_CARGO}
use Rattle.hw_model.specs.declared.lit.Lit.{Lit}
use Rattle.hw_model.specs.declared.source.Source.TheVariants.{Goal}
use Rattle.hw_model.specs.Problem.{Problem, shape_of}
use Rattle.hw_model.specs.Lits.{IsClause}
use Rattle.hw_model.specs.Narrowing.{denied}
use Rattle.hw_model.specs.Quiet.{SpeaksOnlyOf}
use Rattle.hw_model.specs.Rooms.{RoomModel}
use Rattle.hw_lits.specs.Active.{IsActive}
use Rattle.hw_price_laws.specs.declared.tariff.Tariff.{Tariff}
use Rattle.hw_price_laws.specs.declared.toll.Toll.{Toll}
use Rattle.hw_price_laws.specs.Prices.{PricesBound, PricesRefute}

-- a normal clause that is active in the room, that names no order, and whose denied room the prices refute
pub record IsTested (f : Problem) (tolls : List Toll) (tariff : Tariff) (best : Option ℕ) (room : RoomModel) (clause : List Lit) : Type 0 where
  pub refuted : PricesRefute f tolls tariff best (denied (shape_of f) clause)
  pub normal : IsClause (shape_of f) clause
  pub active : IsActive clause room
  pub speaks : SpeaksOnlyOf f Goal clause

-- a bound within its limit, which the prices leave the whole problem
pub record IsTariffBound (f : Problem) (tolls : List Toll) (tariff : Tariff) (bound : ℕ) : Type 0 where
  pub scaled : 1 ≤ tariff.scale
  pub bounded : PricesBound f tolls tariff bound
  pub small : bound ≤ MOST_CARGO
