-- Tolls, tariffs and bounds that are told line by line, and where that stops.
use Rattle.std.specs.Prelude.{◌≡◌, ◌<◌, ◌≤◌, ◌++◌, Result, Ok, Err, ℕ, [], ◌∷◌, IfSome, IsSomeAnd}
use Rattle.hw_cert.specs.declared.log.LogStop.{LogStop}
use Rattle.hw_cert.specs.Logs.{LogModel, Grows}
use Rattle.hw_search_advice.specs.declared.adviser.Standing.{Standing}
use Rattle.hw_search_laws.specs.Prices.{PriceModel, with_bound}
use Rattle.hw_search_laws.specs.Searches.{SearchModel, IsSearch}
use Rattle.hw_search_laws.specs.Advised.{Heeds, StopsBy, HeedWrites}
use Rattle.hw_search.specs.Turning.{turn_of}
use Rattle.hw_price_laws.specs.Prices.{PricesBound}
use Rattle.hw_cert_lines.specs.declared.line.Line.TheVariants as lines

-- where a search stands
abbrev pub standing_of : SearchModel → Standing
standing_of s = record { lemmas = s.lemmas; restarts = s.restarts; level = s.trail.level }

-- the search with other prices
abbrev pub with_other_prices : SearchModel → PriceModel → SearchModel
with_other_prices s prices = record s { prices = prices }

-- what was heeded before a stop, and where the log stands after it
pub record HeedStops (s after : SearchModel) (old : LogModel) (stop : LogStop) (new : LogModel) : Type 0 where
  pub then : LogModel
  pub heeds : Heeds s after old then
  pub later : then.faults ≤ new.faults
  pub cause : StopsBy s.problem (turn_of stop) then new

-- advice was heeded, up to a stop
abbrev pub HeedMeets : {A : Type 0} → SearchModel → SearchModel → LogModel → LogModel → Result A LogStop → Type 0
HeedMeets s after old new (Ok done) = Heeds s after old new
HeedMeets s after old new (Err stop) = HeedStops s after old stop new

-- the bound is below the last one
abbrev pub IsBelow : SearchModel → ℕ → Type 0
IsBelow s bound = IfSome s.prices.bound (λ last. bound < last)

-- the prices in force show a bound of the whole problem
abbrev pub ShowsBound : SearchModel → ℕ → Type 0
ShowsBound s bound = IsSomeAnd s.prices.tariff (λ tariff. (1 ≤ tariff.scale) × PricesBound s.problem s.prices.tolls tariff bound)

-- the line of a bound was written, which is the last one from now on
pub record TellsBound (s : SearchModel) (bound : ℕ) (after : SearchModel) (old new : LogModel) : Type 0 where
  pub search : after ≡ with_other_prices s (with_bound s.prices bound)
  pub kept : IsSearch after
  pub same_faults : new.faults ≡ old.faults
  pub line : Grows old new (λ was now. now.lines ≡ was.lines ++ lines.Bound bound ∷ [])
  pub writes : Grows old new (HeedWrites s after)

-- a bound was told, or where that stopped
abbrev pub TellMeets : {A : Type 0} → SearchModel → ℕ → SearchModel → LogModel → LogModel → Result A LogStop → Type 0
TellMeets s bound after old new (Ok done) = TellsBound s bound after old new
TellMeets s bound after old new (Err stop) = HeedStops s after old stop new
