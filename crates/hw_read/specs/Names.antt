-- The names of an object's members, by the table.
use Rattle.std.specs.Prelude.{ℕ, List, []}
use Rattle.hw_read.specs.declared.table.Names.{Names}
use Rattle.hw_read.specs.declared.table.Names.TheVariants as objects
use Rattle.hw_read.specs.declared.table.Version.{Version}
use Rattle.hw_read.specs.Table.{Entry, object, names_in, turnaround, pass, stretch, berth, after, port_closing, waypoint_members, ship_members, port_members}

abbrev pub names_at : Entry → List (List ℕ)
names_at (object n ms) = names_in ms
names_at _ = []

-- the names of the members that an object of a kind may have, by the table
abbrev pub names_of : Version → Names → List (List ℕ)
names_of version objects.Port = names_in (port_members version)
names_of version objects.Waypoint = names_in (waypoint_members version)
names_of version objects.Turnaround = names_at turnaround
names_of version objects.Ship = names_in (ship_members version)
names_of version objects.Pass = names_at pass
names_of version objects.Stretch = names_at stretch
names_of version objects.Berth = names_at berth
names_of version objects.After = names_at after
names_of version objects.Closing = names_at port_closing
