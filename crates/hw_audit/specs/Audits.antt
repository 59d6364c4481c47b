-- A timetable that is watched, with its problem and its port's fleet.
use Rattle.std.specs.Prelude.{◌≡◌, not, ℕ, ◌≤◌, Bool, List, length, take, filter, Some, None, Result, Ok, Err, slice_set}
use Rattle.std.specs.List.{range_with_len}
use Rattle.hw_model.specs.Problem.{Problem}
use Rattle.hw_model.specs.Limits.{IsFlat}
use Rattle.hw_model.specs.Timetables.{restriction_count}
use Rattle.hw_port.specs.Whole.{Parts}
use Rattle.hw_tide.specs.Levels.{TideParts}
use Rattle.hw_port_model.specs.Flattened.{flattened}
use Rattle.hw_port_model.specs.Numbers.{whole}
use Rattle.hw_audit.specs.declared.event.PortEvent.{PortEvent}
use Rattle.hw_audit.specs.declared.fault.AuditWord.{AuditWord}
use Rattle.hw_audit.specs.Keeping.{AuditIsKept, kept_holds}
use Rattle.hw_audit.specs.Watching.{Watched, watched, IsWatched, refused_event, watched_after}

pub record Audited : Type 0 where
  pub problem : Problem
  pub fleet : ℕ
  pub state : Watched

-- a timetable of a port, before any event
abbrev pub audited : Parts → TideParts → List ℕ → Audited
audited p h table = record { problem = flattened p h; fleet = whole p.fleet; state = watched table }

-- the same with another state
abbrev pub in_state : Audited → Watched → Audited
in_state a s = record { problem = a.problem; fleet = a.fleet; state = s }

-- an event is taken, and changes the state; or it is refused by its first reason, and nothing changes
abbrev pub Applies : PortEvent → Audited → Audited → Result Unit AuditWord → Type 0
Applies event old new (Ok done) = (refused_event old.problem old.fleet old.state event ≡ None) × (new ≡ in_state old (watched_after old.state event))
Applies event old new (Err word) = (refused_event old.problem old.fleet old.state event ≡ Some word) × (new ≡ old)

-- ---- parts of a change

abbrev pub state_of : List ℕ → List Bool → ℕ → Watched
state_of table sailed withdrawn = record { table = table; sailed = sailed; withdrawn = withdrawn }

-- the state with another slot of a ship
abbrev pub with_slot : Watched → ℕ → ℕ → Watched
with_slot s ship slot = state_of (slice_set s.table ship slot) s.sailed s.withdrawn

-- the state with another number of tugs withdrawn
abbrev pub with_withdrawn : Watched → ℕ → Watched
with_withdrawn s withdrawn = state_of s.table s.sailed withdrawn

-- ---- what is kept besides

-- the first `many` places of a list hold the restrictions that are broken by what is kept
pub record AreListed (f : Problem) (table : List ℕ) (holds : List Bool) (many : ℕ) (broken : List ℕ) : Type 0 where
  pub places : length broken ≡ restriction_count f
  pub within : many ≤ length broken
  pub listed : take many broken ≡ filter (λ n. not (kept_holds f table holds n)) (range_with_len 0 (restriction_count f))

-- a state within its limits, what is kept of it, and the list of what is broken
pub record IsAudit (f : Problem) (fleet : ℕ) (s : Watched) (holds : List Bool) (held broken : List ℕ) (many : ℕ) : Type 0 where
  pub limits : IsFlat f
  pub watched : IsWatched f fleet s
  pub few : fleet ≤ 1_000
  pub kept : AuditIsKept f s holds held
  pub listed : AreListed f s.table holds many broken
