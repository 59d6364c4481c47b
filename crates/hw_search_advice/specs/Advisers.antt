-- What an adviser may answer.
use Rattle.std.specs.Prelude.{◌≡◌, ℕ, ◌≤◌, true, List, ◌++◌, Option, Some, None, All, IfSome, IsSomeAnd, length, map}
use Rattle.std.specs.List.Sorted.{IsStrictlyIncreasing}
use Rattle.std.specs.Option.{option_copied}
use Rattle.std.specs.Borrow.{Bor}
use Rattle.hw_model.specs.declared.limits.TheConstants.{MOST_CARGO}
use Rattle.hw_model.specs.declared.lit.Lit.{Lit}
use Rattle.hw_model.specs.declared.lit.LitTruth.TheVariants.{Free}
use Rattle.hw_model.specs.declared.source.Source.TheVariants.{Goal}
use Rattle.hw_model.specs.Problem.{Problem, shape_of}
use Rattle.hw_model.specs.Lits.{lit_fits, IsClause}
use Rattle.hw_model.specs.Narrowing.{truth, denied}
use Rattle.hw_model.specs.Quiet.{SpeaksOnlyOf}
use Rattle.hw_model.specs.Rooms.{RoomModel, RoomFits}
use Rattle.hw_lits.specs.Active.{IsActive}
use Rattle.hw_price_laws.specs.declared.limits.TheConstants.{MOST_TOLLS}
use Rattle.hw_price_laws.specs.declared.tariff.Tariff.{Tariff}
use Rattle.hw_price_laws.specs.declared.toll.Toll.{Toll}
use Rattle.hw_price_laws.specs.Tolls.{IsToll}
use Rattle.hw_price_laws.specs.Prices.{PricesBound, PricesRefute, TariffFits}
use Rattle.hw_search_advice.specs.declared.adviser.Advice.{Advice}
use Rattle.hw_search_advice.specs.declared.adviser.Bounding.{Bounding}
use Rattle.hw_search_advice.specs.declared.adviser.Scene.{Scene}

-- a room of the problem, at most 10,000 tolls of it, and a tariff on them, if there is one
pub record SceneFits (f : Problem) (room : RoomModel) (tolls : List Toll) (tariff : Option (Bor Tariff)) : Type 0 where
  pub room_fits : RoomFits f room
  pub of_problem : All (IsToll f) tolls
  pub few : length tolls ≤ MOST_TOLLS
  pub tariff_fits : IfSome tariff (λ t. TariffFits (length tolls) t.now)

-- what an adviser may be shown
abbrev pub IsScene : Scene → Type 0
IsScene scene = SceneFits scene.flat.now scene.room.now scene.tolls.now scene.tariff

-- the given tariff, or where none is given the one in force
abbrev pub in_force : Option Tariff → Option Tariff → Option Tariff
in_force old None = old
in_force old (Some tariff) = Some tariff

-- tolls of the problem that bring the declared ones to at most 10,000, and a tariff on all of them whose dues are on ascending tolls
pub record AreFurtherPrices (f : Problem) (declared more : List Toll) (tariff : Option Tariff) : Type 0 where
  pub tolls : All (IsToll f) more
  pub few : length (declared ++ more) ≤ MOST_TOLLS
  pub fits : IfSome tariff (TariffFits (length (declared ++ more)))
  pub ascend : IfSome tariff (λ t. IsStrictlyIncreasing (map (λ due. due.toll) t.dues))

-- a clause that is active in the room, that names no order, and whose denied room the prices refute, with these tolls after the declared ones
pub record IsAdvice (f : Problem) (declared : List Toll) (last : Option Tariff) (best : Option ℕ) (room : RoomModel) (more : List Toll) (tariff : Option Tariff) (clause : List Lit) : Type 0 where
  pub prices : AreFurtherPrices f declared more tariff
  pub refuted : IsSomeAnd (in_force last tariff) (λ t. PricesRefute f (declared ++ more) t best (denied (shape_of f) clause))
  pub normal : IsClause (shape_of f) clause
  pub active : IsActive clause room
  pub speaks : SpeaksOnlyOf f Goal clause

-- a bound of the whole problem by the prices, with these tolls after the declared ones
pub record IsBoundAdvice (f : Problem) (declared : List Toll) (last : Option Tariff) (more : List Toll) (tariff : Option Tariff) (bound : ℕ) : Type 0 where
  pub prices : AreFurtherPrices f declared more tariff
  pub bounded : IsSomeAnd (in_force last tariff) (λ t. (1 ≤ t.scale) × PricesBound f (declared ++ more) t bound)
  pub small : bound ≤ MOST_CARGO

-- advice in a scene: it holds of the scene's problem, tolls, tariff, best and room
abbrev pub IsAdviceIn : Scene → Advice → Type 0
IsAdviceIn scene advice = IsAdvice scene.flat.now scene.tolls.now (option_copied scene.tariff) scene.best scene.room.now advice.tolls.items advice.tariff advice.clause

-- a bound in a scene: it holds of the scene's problem, tolls and tariff
abbrev pub IsBoundIn : Scene → Bounding → Type 0
IsBoundIn scene bounding = IsBoundAdvice scene.flat.now scene.tolls.now (option_copied scene.tariff) bounding.tolls.items bounding.tariff bounding.bound

-- a literal of the problem that the room leaves open
pub record IsOpenIn (f : Problem) (room : RoomModel) (lit : Lit) : Type 0 where
  pub fits : lit_fits (shape_of f) lit ≡ true
  pub free : truth room lit ≡ Free
