-- How a ship fares in a slot from its earliest to its latest: with which draft it may sail, or why it may not.
use Rattle.std.specs.Prelude.{ℕ, ℤ, pos, Bool, true, false, Option, Some, None, if◌then◌else◌}
use Rattle.hw_port.specs.Parts.{ShipParts}
use Rattle.hw_port.specs.Whole.{Parts}
use Rattle.hw_tide.specs.Levels.{TideParts}
use Rattle.hw_port_model.specs.Numbers.{is_outgoing}
use Rattle.hw_port_model.specs.Drafts.{allowed, sailing}
use Rattle.hw_port_windows.specs.declared.status.Status.{Status}
use Rattle.hw_port_windows.specs.declared.status.Status.TheVariants.{Sails, Closed, Shallow, TidesEnd}
use Rattle.hw_port_windows.specs.Closings.{closed_in}

-- why a ship doesn't sail: something is closed; otherwise by the allowed draft, where it is there
abbrev pub reason_by : Bool → Option ℤ → Status
reason_by true allowed = Closed
reason_by false (Some allowed) = Shallow allowed
reason_by false None = TidesEnd

-- by the sailing draft, where it is there, and otherwise by what is closed and the allowed draft
abbrev pub status_by : Option ℤ → Bool → Option ℤ → Status
status_by (Some draft) closed allowed = Sails draft
status_by None closed allowed = reason_by closed allowed

-- of the ship at a place of the port's list
abbrev pub reason_in : Parts → TideParts → ℕ → ℕ → Status
reason_in p h v slot = reason_by (closed_in p v slot) (allowed p h v slot)

abbrev pub status_in : Parts → TideParts → ℕ → ℕ → Status
status_in p h v slot = status_by (sailing p h v slot) (closed_in p v slot) (allowed p h v slot)

abbrev pub sails : Status → Bool
sails (Sails draft) = true
sails Closed = false
sails (Shallow allowed) = false
sails TidesEnd = false

abbrev pub is_closed_status : Status → Bool
is_closed_status (Sails draft) = false
is_closed_status Closed = true
is_closed_status (Shallow allowed) = false
is_closed_status TidesEnd = false

abbrev pub is_shallow : Status → Bool
is_shallow (Sails draft) = false
is_shallow Closed = false
is_shallow (Shallow allowed) = true
is_shallow TidesEnd = false

abbrev pub tides_end : Status → Bool
tides_end (Sails draft) = false
tides_end Closed = false
tides_end (Shallow allowed) = false
tides_end TidesEnd = true

-- two are of one kind, whatever their drafts
abbrev pub statuses_alike : Status → Status → Bool
statuses_alike (Sails draft) other = sails other
statuses_alike Closed other = is_closed_status other
statuses_alike (Shallow allowed) other = is_shallow other
statuses_alike TidesEnd other = tides_end other

-- the draft with which the ship may sail, or that the water allows it; 0 where neither is told
abbrev pub draft_of : Status → ℤ
draft_of (Sails draft) = draft
draft_of Closed = pos 0
draft_of (Shallow allowed) = allowed
draft_of TidesEnd = pos 0

abbrev pub status_draft : Parts → TideParts → ℕ → ℕ → ℤ
status_draft p h v slot = draft_of (status_in p h v slot)

-- the draft at which a ship sails that the water doesn't keep back
abbrev pub full_draft : ShipParts → ℤ
full_draft s = if is_outgoing s then s.deep else s.light
