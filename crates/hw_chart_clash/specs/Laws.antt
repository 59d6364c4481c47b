-- What the marks of a clash say, in the words of its restrictions.
use Rattle.std.specs.Prelude.{◌≡◌, ◌↔◌, ◌<◌, ℕ, List, None, Some, map, slice_get, sum_by, zip}
use Rattle.hw_port.specs.Whole.{Parts}
use Rattle.hw_tide.specs.Levels.{TideParts}
use Rattle.hw_port_model.specs.Drafts.{value}
use Rattle.hw_port_model.specs.Numbers.{whole}
use Rattle.hw_port_model.specs.Permitted.{tugs_held}
use Rattle.hw_port_named.specs.declared.named.Named.{Named}
use Rattle.hw_port_named.specs.Restrictions.{named_restrictions}
use Rattle.hw_chart_clash.specs.Marks.{kept_mark_at, mark_named}
use Rattle.hw_chart_clash.specs.Shapes.{denied_level, lacking_level}

-- a kept restriction has its mark at its own place
abbrev pub EachKeptIsMarked : Type 0
EachKeptIsMarked = (p : Parts) (kept : List ℕ) (place number : ℕ) (named : Named) → slice_get kept place ≡ Some number → slice_get (named_restrictions p) number ≡ Some named → slice_get (map (kept_mark_at p) kept) place ≡ Some (mark_named p number named)

-- the window of a ship is marked from its top in just the slots in which it may not sail
abbrev pub DeniedSlots : Type 0
DeniedSlots = (p : Parts) (h : TideParts) (ship slot : ℕ) → (denied_level p h ship slot ≡ 0 ↔ value p h ship slot ≡ None)

-- the tugs' window is marked from its top in just the slots in which a timetable holds more tugs than the fleet has
abbrev pub LackingSlots : Type 0
LackingSlots = (p : Parts) (table : List ℕ) (slot : ℕ) → (lacking_level p table slot ≡ 0 ↔ whole p.fleet < sum_by (tugs_held p slot) (zip p.ships table))
