-- A bound that an adviser gives, written after the tolls and the tariff by which it holds.
use Rattle.std.specs.Prelude.{◌≡◌, ℕ, Option, Some, None, Result, Ok, Err, ⊤}
use Rattle.hw_search_advice.specs.declared.adviser.Bounding.{Bounding}
use Rattle.hw_search_advice.specs.Advisers.{IsBoundAdvice}
use Rattle.hw_cert.specs.declared.log.LogStop.{LogStop}
use Rattle.hw_cert.specs.declared.log.LogStop.TheVariants as stops
use Rattle.hw_cert.specs.Logs.{LogModel}
use Rattle.hw_search_laws.specs.declared.outcome.Bounded.{Bounded}
use Rattle.hw_search_laws.specs.declared.outcome.Bounded.TheVariants as bounds
use Rattle.hw_cert_laws.specs.Laws.{IsBound}
use Rattle.hw_search_laws.specs.Searches.{SearchModel}
use Rattle.hw_search_laws.specs.Advised.{Heeds}
use Rattle.hw_search.specs.Pricing.{HeedStops, IsBelow, TellsBound}

-- a bound for a search: it holds of the search's problem and prices
abbrev pub IsBoundFor : SearchModel → Bounding → Type 0
IsBoundFor s bounding = IsBoundAdvice s.problem s.prices.tolls s.prices.tariff bounding.tolls.items bounding.tariff bounding.bound

-- a bound below the last one was written, after tolls and a tariff by which it holds
pub record WritesLowerBound (s : SearchModel) (bound : ℕ) (after : SearchModel) (old new : LogModel) : Type 0 where
  pub below : IsBelow s bound
  pub bounds : IsBound s.problem bound
  pub mid : SearchModel
  pub then : LogModel
  pub heeds : Heeds s mid old then
  pub tells : TellsBound mid bound after then new

-- a bound was written after what it needs, there was none to write, or where that stopped
abbrev pub BoundHeeds : SearchModel → SearchModel → LogModel → LogModel → Result (Option ℕ) LogStop → Type 0
BoundHeeds s after old new (Ok None) = (after ≡ s) × (new ≡ old)
BoundHeeds s after old new (Ok (Some bound)) = WritesLowerBound s bound after old new
BoundHeeds s after old new (Err stop) = HeedStops s after old stop new

-- the answer where a line wasn't taken
abbrev pub bounded_by : LogStop → Bounded
bounded_by stops.Failed = bounds.LogFailed
bounded_by stops.NoMemory = bounds.NoMemory

-- a call for a bound had no fault of the log, unless it says that the log failed
abbrev pub BoundKeepsFaults : Bounded → LogModel → LogModel → Type 0
BoundKeepsFaults bounds.Lower old new = new.faults ≡ old.faults
BoundKeepsFaults bounds.Same old new = new.faults ≡ old.faults
BoundKeepsFaults bounds.NoMemory old new = new.faults ≡ old.faults
BoundKeepsFaults bounds.LogFailed old new = ⊤
