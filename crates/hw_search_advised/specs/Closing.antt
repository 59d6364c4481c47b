-- A search that its own bound closes, part by part.
use Rattle.std.specs.Prelude.{◌≡◌, ⊤, Result, Ok, Err}
use Rattle.hw_cert.specs.declared.log.LogStop.{LogStop}
use Rattle.hw_cert.specs.declared.log.LogStop.TheVariants as stops
use Rattle.hw_cert.specs.Logs.{LogModel, Grows}
use Rattle.hw_search_laws.specs.declared.outcome.Closed.{Closed}
use Rattle.hw_search_laws.specs.declared.outcome.Closed.TheVariants as closes
use Rattle.hw_search_laws.specs.Closing.{WritesLast, Closes}
use Rattle.hw_search_laws.specs.Searches.{SearchModel}
use Rattle.hw_search.specs.Pricing.{HeedStops}

-- the last line was written, or where that stopped
abbrev pub LastMeets : {A : Type 0} → SearchModel → LogModel → LogModel → Result A LogStop → Type 0
LastMeets s old new (Ok done) = (new.faults ≡ old.faults) × Grows old new (WritesLast s.problem)
LastMeets s old new (Err stop) = HeedStops s s old stop new

-- the search is closed, or where that stopped
abbrev pub CloseDoes : {A : Type 0} → SearchModel → SearchModel → LogModel → LogModel → Result A LogStop → Type 0
CloseDoes s after old new (Ok done) = Closes s after old new
CloseDoes s after old new (Err stop) = HeedStops s after old stop new

-- the answer where a line wasn't taken
abbrev pub closed_by : LogStop → Closed
closed_by stops.Failed = closes.LogFailed
closed_by stops.NoMemory = closes.NoMemory

-- the call had no fault of the log, unless it says that the log failed
abbrev pub CloseKeepsFaults : Closed → LogModel → LogModel → Type 0
CloseKeepsFaults closes.Open old new = new.faults ≡ old.faults
CloseKeepsFaults closes.Ended old new = new.faults ≡ old.faults
CloseKeepsFaults closes.NoMemory old new = new.faults ≡ old.faults
CloseKeepsFaults closes.LogFailed old new = ⊤
