-- What heeding advice leaves, and where it stops.
use Rattle.std.specs.Prelude.{◌≡◌, ◌<◌, ◌++◌, List, Option, Some, None, Result, Ok, Err, length}
use Rattle.hw_trail_laws.specs.declared.event.Why.{Why}
use Rattle.hw_cert.specs.declared.log.LogStop.{LogStop}
use Rattle.hw_cert.specs.Logs.{LogModel}
use Rattle.hw_price_laws.specs.declared.tariff.Tariff.{Tariff}
use Rattle.hw_price_laws.specs.declared.toll.Toll.{Toll}
use Rattle.hw_search_advice.specs.declared.adviser.Advice.{Advice}
use Rattle.hw_search_advice.specs.Advisers.{in_force, IsAdvice}
use Rattle.hw_search_laws.specs.declared.outcome.Turn.{Turn}
use Rattle.hw_search_laws.specs.Prices.{PriceModel, bound_tariff}
use Rattle.hw_search_laws.specs.Searches.{SearchModel, best_cargo, room_in}
use Rattle.hw_search_laws.specs.Settling.{IsConflict}
use Rattle.hw_search_laws.specs.Advised.{Heeds, AdvisedMeets}
use Rattle.hw_search.specs.declared.settling.Asked.{Asked}
use Rattle.hw_search.specs.declared.settling.Asked.TheVariants as asked
use Rattle.hw_search.specs.Faults.{TurnKeepsFaults}
use Rattle.hw_search.specs.Pricing.{HeedStops}

-- advice for a search: it holds of the search's problem, prices, best and room
abbrev pub IsAdviceFor : SearchModel → Advice → Type 0
IsAdviceFor s advice = IsAdvice s.problem s.prices.tolls s.prices.tariff (best_cargo s) (room_in s) advice.tolls.items advice.tariff advice.clause

-- more tolls
abbrev pub with_tolls : PriceModel → List Toll → PriceModel
with_tolls p tolls = record p { tolls = p.tolls ++ tolls }

-- the older tariff that is kept, where another comes into force
abbrev pub older_given : PriceModel → Option Tariff → Option Tariff
older_given p None = p.older
older_given p (Some tariff) = bound_tariff p

-- another tariff in force, where one is given
abbrev pub with_given : PriceModel → Option Tariff → PriceModel
with_given p tariff = record p { tariff = in_force p.tariff tariff; older = older_given p tariff }

-- advice was heeded, and an event came
pub record HeedGains (s after : SearchModel) (old new : LogModel) : Type 0 where
  pub heeds : Heeds s after old new
  pub more : length s.trail.events < length after.trail.events

-- advice was heeded, and its clause has no literal left
pub record HeedFails (s after : SearchModel) (old new : LogModel) (why : Why) : Type 0 where
  pub heeds : Heeds s after old new
  pub conflict : IsConflict after why

-- there was nothing to heed, a literal was implied, or there is a conflict
abbrev pub ConsultMeets : Type 0 → SearchModel → SearchModel → LogModel → LogModel → Result Asked LogStop → Type 0
ConsultMeets nothing s after old new (Ok asked.Quiet) = nothing
ConsultMeets nothing s after old new (Ok asked.Cut) = HeedGains s after old new
ConsultMeets nothing s after old new (Ok (asked.Conflict why)) = HeedFails s after old new why
ConsultMeets nothing s after old new (Err stop) = HeedStops s after old stop new

-- an adviser was consulted: it had nothing to say and all is as before, or its advice was heeded
abbrev pub ConsultHeeds : SearchModel → SearchModel → LogModel → LogModel → Result Asked LogStop → Type 0
ConsultHeeds s after old new result = ConsultMeets ((after ≡ s) × (new ≡ old)) s after old new result

-- a turn with advice, and what it does to the log's faults
pub record AdvisedTurn (s : SearchModel) (old : LogModel) (turn : Turn) (after : SearchModel) (new : LogModel) : Type 0 where
  pub meets : AdvisedMeets s old turn after new
  pub kept : TurnKeepsFaults turn old new

-- a round of a turn with advice: it goes on after an event, or it is over
abbrev pub RoundMeets : SearchModel → SearchModel → LogModel → LogModel → Option Turn → Type 0
RoundMeets s after old new None = HeedGains s after old new
RoundMeets s after old new (Some turn) = AdvisedTurn s old turn after new
