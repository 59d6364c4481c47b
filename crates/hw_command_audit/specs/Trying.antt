-- All events tried once.
use Rattle.std.specs.Prelude.{◌≡◌, List, Some, None, Result, Ok, Err, ⊤}
use Rattle.hw_desk.specs.declared.whole.ReadStop.TheVariants as stops
use Rattle.hw_audit.specs.Audits.{Audited}
use Rattle.hw_audit.specs.Watching.{first_refused}
use Rattle.hw_audit.specs.declared.event.PortEvent.{PortEvent}
use Rattle.hw_command_audit.specs.declared.reading.TextStop.{TextStop}
use Rattle.hw_command_audit.specs.declared.reading.TextStop.TheVariants as texts

-- all events are taken from a state on, and what is watched stands before them again; or the first one that is refused is told, by its line; or memory ran out
abbrev pub TriesEvents : Audited → List PortEvent → Result Audited TextStop → Type 0
TriesEvents first events (Ok again) = (again ≡ first) × (first_refused first.problem first.fleet 2 first.state events ≡ None)
TriesEvents first events (Err (texts.Line number word)) = first_refused first.problem first.fleet 2 first.state events ≡ Some (number, word)
TriesEvents first events (Err (texts.Input stops.NoMemory)) = ⊤
TriesEvents first events (Err stop) = ⊥
