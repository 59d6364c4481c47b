-- The laws of a port's restrictions in the port's words.
use Rattle.std.specs.Prelude.{◌≡◌, ◌↔◌, ℕ, List, length, Some, IsTrue, slice_get}
use Rattle.hw_model.specs.Timetables.{restriction_count, restriction_holds}
use Rattle.hw_port.specs.Kept.{PortKept}
use Rattle.hw_port.specs.Whole.{Parts}
use Rattle.hw_tide.specs.Levels.{TideParts}
use Rattle.hw_port_model.specs.Flattened.{flattened}
use Rattle.hw_port_model.specs.Timetables.{IsPortTimetable}
use Rattle.hw_port_named.specs.declared.named.Named.{Named}
use Rattle.hw_port_named.specs.Restrictions.{named_restrictions}
use Rattle.hw_port_named.specs.Meaning.{IsNamed, NamedHolds}

-- as many are named as the flat problem has restrictions
abbrev pub EachIsNamed : Type 0
EachIsNamed = (p : Parts) (h : TideParts) → PortKept p → length (named_restrictions p) ≡ restriction_count (flattened p h)

-- what is named for a number is the flat problem's restriction of that number
abbrev pub NamedByRule : Type 0
NamedByRule = (p : Parts) (h : TideParts) (number : ℕ) (named : Named) → PortKept p
    → slice_get (named_restrictions p) number ≡ Some named → IsNamed (flattened p h) number named

-- of a timetable of the port it holds exactly where that restriction does
abbrev pub NamedMeans : Type 0
NamedMeans = (p : Parts) (h : TideParts) (table : List ℕ) (number : ℕ) (named : Named) → PortKept p → IsPortTimetable p table
    → slice_get (named_restrictions p) number ≡ Some named
    → (IsTrue (restriction_holds (flattened p h) table number) ↔ NamedHolds p h table named)
