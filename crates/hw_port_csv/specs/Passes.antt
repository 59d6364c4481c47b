-- The pass that limits a draft, as a table shows it, and the first pass at a waypoint.
use Rattle.std.specs.Prelude.{ℕ, ℤ, nat_eq, List, [], ◌∷◌, Option, Some, None, if◌then◌else◌}
use Rattle.hw_port.specs.declared.parts.Pass.{Pass}
use Rattle.hw_port_model.specs.Numbers.{whole}
use Rattle.hw_draft.specs.declared.passage.Passage.{Passage}
use Rattle.hw_draft.specs.Passages.{under_keel}

-- the water under the keel of a ship, where its draft and the pass that limits it are known
abbrev pub keel_at : Option ℤ → Option Passage → Option ℤ
keel_at None limit = None
keel_at (Some draft) None = None
keel_at (Some draft) (Some m) = Some (under_keel m draft)

-- the clearance of that pass
abbrev pub clearance_of : Option Passage → Option ℤ
clearance_of None = None
clearance_of (Some m) = Some m.clearance

-- how many slots after sailing a route first names a waypoint
abbrev pub offset_at : List Pass → ℕ → Option ℕ
offset_at [] place = None
offset_at (pass ∷ more) place = if nat_eq (whole pass.waypoint) place then Some (whole pass.offset) else offset_at more place
