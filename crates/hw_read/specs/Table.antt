-- The table of places, and all faults of form of a value in the order of the table.
use Rattle.std.specs.Prelude.{ℕ, ◌+◌, ◌++◌, ℤ, pos, List, [], ◌∷◌, codes, Bool, true, false, Option, Some, None, if◌then◌else◌, option_and_then}
use Rattle.std.specs.Ordering.{int_eq}
use Rattle.hw_port.specs.declared.fault.Path.{Path}
use Rattle.hw_port.specs.declared.fault.PortFault.{PortFault}
use Rattle.hw_port.specs.declared.places.Place.{Place}
use Rattle.hw_port.specs.declared.places.Place.TheVariants as places
use Rattle.hw_port.specs.declared.fault.PortWord.{PortWord}
use Rattle.hw_port.specs.declared.fault.PortWord.TheVariants.{Missing, Kind, Other}
use Rattle.serde_json.specs.Data.{Data, Items, no_items, item, Members as JsonMembers}
use Rattle.serde_json.specs.Find.{get, as_str, as_bool, as_array, as_object}
use Rattle.hw_read.specs.declared.stars.Stars.{Stars}
use Rattle.hw_read.specs.declared.table.Version.{Version}
use Rattle.hw_read.specs.declared.table.Version.TheVariants.{First, Second, Third}
use Rattle.hw_read.specs.Places.{path, deeper, no_stars}
use Rattle.hw_read.specs.Form.{whole_number, all_named}

-- an entry is a place with its kind; a list's items have one entry, an object's members one each
mutual
  pub data Entry : Type 0 where
    number : Place → Entry
    text : Place → Entry
    truth : Place → Entry
    list : Place → Entry → Entry
    object : Place → Members → Entry

  pub data Members : Type 0 where
    no_more : Members
    member : List ℕ → Entry → Members → Members

-- members that stand in the third version's table alone
abbrev pub in_third : Version → Members → Members
in_third First ms = no_more
in_third Second ms = no_more
in_third Third ms = ms

-- the slots that are closed, from one to another
abbrev pub closing : Place → Place → Place → Entry
closing whole from to = object whole (
    member (codes "from") (number from) (
    member (codes "to") (number to) no_more))

abbrev pub closed : Place → Entry → Members
closed place inner = member (codes "closed") (list place inner) no_more

abbrev pub port_closing : Entry
port_closing = closing places.Closing places.ClosingFrom places.ClosingTo

abbrev pub waypoint_closing : Entry
waypoint_closing = closing places.WaypointClosing places.WaypointClosingFrom places.WaypointClosingTo

abbrev pub ship_closing : Entry
ship_closing = closing places.ShipClosing places.ShipClosingFrom places.ShipClosingTo

abbrev pub waypoint_members : Version → Members
waypoint_members version =
    member (codes "name") (text places.WaypointName) (
    member (codes "depth") (number places.WaypointDepth) (
    in_third version (closed places.WaypointClosed waypoint_closing)))

abbrev pub turnaround : Entry
turnaround = object places.Turnaround (
    member (codes "outgoing") (number places.TurnaroundOutgoing) (
    member (codes "incoming") (number places.TurnaroundIncoming) no_more))

abbrev pub pass : Entry
pass = object places.Pass (
    member (codes "waypoint") (number places.PassWaypoint) (
    member (codes "offset") (number places.PassOffset) (
    member (codes "clearance") (number places.PassClearance) no_more)))

abbrev pub stretch : Entry
stretch = object places.Stretch (
    member (codes "section") (number places.StretchSection) (
    member (codes "enter") (number places.StretchEnter) (
    member (codes "leave") (number places.StretchLeave) no_more)))

-- the member of ships that may stay, which the first version's table hasn't, and the closed slots of the third
abbrev pub staying : Version → Members
staying First = no_more
staying Second = member (codes "may_stay") (truth places.ShipMayStay) no_more
staying Third = member (codes "may_stay") (truth places.ShipMayStay) (closed places.ShipClosed ship_closing)

abbrev pub ship_members : Version → Members
ship_members version =
    member (codes "name") (text places.ShipName) (
    member (codes "direction") (text places.ShipDirection) (
    member (codes "class") (number places.ShipClass) (
    member (codes "earliest") (number places.ShipEarliest) (
    member (codes "latest") (number places.ShipLatest) (
    member (codes "tpc") (number places.ShipTpc) (
    member (codes "light") (number places.ShipLight) (
    member (codes "deep") (number places.ShipDeep) (
    member (codes "route") (list places.ShipRoute pass) (
    member (codes "channel") (list places.ShipChannel stretch) (
    member (codes "tugs") (number places.ShipTugs) (
    member (codes "job") (number places.ShipJob) (
    staying version))))))))))))

abbrev pub berth : Entry
berth = object places.BerthPair (
    member (codes "outgoing") (number places.BerthOutgoing) (
    member (codes "incoming") (number places.BerthIncoming) (
    member (codes "clear") (number places.BerthClear) no_more)))

abbrev pub after : Entry
after = object places.AfterPair (
    member (codes "first") (number places.AfterFirst) (
    member (codes "second") (number places.AfterSecond) (
    member (codes "gap") (number places.AfterGap) no_more)))

-- the date and time at which slot 0 begins
abbrev pub with_start : Version → Members → Members
with_start First ms = ms
with_start Second ms = ms
with_start Third ms = member (codes "start") (text places.Start) ms

-- the heights that judge a pass, and the closed slots
abbrev pub with_heights : Version → Members → Members
with_heights First ms = ms
with_heights Second ms = ms
with_heights Third ms = member (codes "heights") (text places.Heights) (member (codes "closed") (list places.Closed port_closing) ms)

abbrev pub port_members : Version → Members
port_members version =
    member (codes "version") (number places.Version) (with_start version (
    member (codes "slots") (number places.Slots) (
    member (codes "slot_minutes") (number places.SlotMinutes) (with_heights version (
    member (codes "waypoints") (list places.Waypoints (object places.Waypoint (waypoint_members version))) (
    member (codes "sections") (list places.Sections (text places.Section)) (
    member (codes "separation") (list places.Separation (list places.SeparationRow (number places.SeparationGap))) (
    member (codes "turnaround") turnaround (
    member (codes "fleet") (number places.Fleet) (
    member (codes "ships") (list places.Ships (object places.Ship (ship_members version))) (
    member (codes "berths") (list places.Berths berth) (
    in_third version (member (codes "after") (list places.After after) no_more)))))))))))))

unfoldable pub port : Version → Entry
port version = object places.Root (port_members version)

abbrev pub version_by : Option ℤ → Version
version_by None = First
version_by (Some z) = if int_eq z (pos 3) then Third else if int_eq z (pos 2) then Second else First

-- the second or third version where the member `version` is the number 2 or 3, and the first elsewhere
abbrev pub version_of : Data → Version
version_of d = version_by (option_and_then whole_number (get (codes "version") d))

abbrev pub entry_place : Entry → Place
entry_place (number n) = n
entry_place (text n) = n
entry_place (truth n) = n
entry_place (list n p) = n
entry_place (object n ms) = n

abbrev pub names_in : Members → List (List ℕ)
names_in no_more = []
names_in (member name p ms) = name ∷ names_in ms

abbrev pub one_fault : Path → PortWord → List PortFault
one_fault path word = record { path = path; word = word } ∷ []

-- a value of another kind
abbrev pub kind_faults : {A : Type 0} → Path → Option A → List PortFault
kind_faults path None = one_fault path Kind
kind_faults path (Some x) = []

abbrev pub each_faults : (Stars → Data → List PortFault) → Stars → ℕ → Items → List PortFault
each_faults faults s i no_items = []
each_faults faults s i (item d ds) = faults (deeper s i) d ++ each_faults faults s (i + 1) ds

-- no list, or the faults of its items one after another
abbrev pub list_faults : (Stars → Data → List PortFault) → Path → Stars → Option Items → List PortFault
list_faults faults path s None = one_fault path Kind
list_faults faults path s (Some ds) = each_faults faults s 0 ds

abbrev pub other_faults : Path → Bool → List PortFault
other_faults path true = []
other_faults path false = one_fault path Other

-- no object, or one with a member of another name, and then the faults of its members
abbrev pub object_faults : Path → List (List ℕ) → List PortFault → Option JsonMembers → List PortFault
object_faults path names inside None = one_fault path Kind
object_faults path names inside (Some ms) = other_faults path (all_named names ms) ++ inside

-- no member, or the faults of its value
abbrev pub member_faults : (Stars → Data → List PortFault) → Path → Stars → Option Data → List PortFault
member_faults faults path s None = one_fault path Missing
member_faults faults path s (Some d) = faults s d

-- all faults of a value at a place, in the order of the table
abbrev mutual
  pub entry_faults : Entry → Stars → Data → List PortFault
  entry_faults (number n) s d = kind_faults (path n s) (whole_number d)
  entry_faults (text n) s d = kind_faults (path n s) (as_str d)
  entry_faults (truth n) s d = kind_faults (path n s) (as_bool d)
  entry_faults (list n p) s d = list_faults (entry_faults p) (path n s) s (as_array d)
  entry_faults (object n ms) s d = object_faults (path n s) (names_in ms) (members_faults ms s d) (as_object d)

  pub members_faults : Members → Stars → Data → List PortFault
  members_faults no_more s d = []
  members_faults (member name p ms) s d = member_faults (entry_faults p) (path (entry_place p) s) s (get name d) ++ members_faults ms s d

-- all faults of form of an instance, by the table of its version
abbrev pub instance_faults : Data → List PortFault
instance_faults d = entry_faults (port (version_of d)) no_stars d

-- the first of these faults
abbrev pub first_of : List PortFault → Option PortFault
first_of [] = None
first_of (f ∷ fs) = Some f
