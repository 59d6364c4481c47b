-- The places of an instance: one table of their numbers and texts, and the words of faults.
use Rattle.std.specs.Prelude.{ℕ, ◌==◌, List, [], ◌∷◌, ◌++◌, Option, Some, None, codes, decimal, slice_get, if◌then◌else◌}
use Rattle.std.specs.Option.{option_map_or}
use Rattle.hw_port.specs.declared.fault.Path.{Path}
use Rattle.hw_port.specs.declared.fault.PortWord.{PortWord}
use Rattle.hw_port.specs.declared.fault.PortWord.TheVariants as words
use Rattle.hw_port.specs.declared.places.Place.{Place}
use Rattle.hw_port.specs.declared.places.Place.TheVariants as places

-- a line for each place: its number, and its text with a star for the number of a list item
abbrev pub line_of : Place → ℕ × List ℕ
line_of places.Root = (0, codes "root")
line_of places.Version = (1, codes "version")
line_of places.Slots = (2, codes "slots")
line_of places.SlotMinutes = (3, codes "slot_minutes")
line_of places.Waypoints = (4, codes "waypoints")
line_of places.Waypoint = (5, codes "waypoints.*")
line_of places.WaypointName = (6, codes "waypoints.*.name")
line_of places.WaypointDepth = (7, codes "waypoints.*.depth")
line_of places.Sections = (8, codes "sections")
line_of places.Section = (9, codes "sections.*")
line_of places.Separation = (10, codes "separation")
line_of places.SeparationRow = (11, codes "separation.*")
line_of places.SeparationGap = (12, codes "separation.*.*")
line_of places.Turnaround = (13, codes "turnaround")
line_of places.TurnaroundOutgoing = (14, codes "turnaround.outgoing")
line_of places.TurnaroundIncoming = (15, codes "turnaround.incoming")
line_of places.Fleet = (16, codes "fleet")
line_of places.Ships = (17, codes "ships")
line_of places.Ship = (18, codes "ships.*")
line_of places.ShipName = (19, codes "ships.*.name")
line_of places.ShipDirection = (20, codes "ships.*.direction")
line_of places.ShipClass = (21, codes "ships.*.class")
line_of places.ShipEarliest = (22, codes "ships.*.earliest")
line_of places.ShipLatest = (23, codes "ships.*.latest")
line_of places.ShipTpc = (24, codes "ships.*.tpc")
line_of places.ShipLight = (25, codes "ships.*.light")
line_of places.ShipDeep = (26, codes "ships.*.deep")
line_of places.ShipRoute = (27, codes "ships.*.route")
line_of places.Pass = (28, codes "ships.*.route.*")
line_of places.PassWaypoint = (29, codes "ships.*.route.*.waypoint")
line_of places.PassOffset = (30, codes "ships.*.route.*.offset")
line_of places.PassClearance = (31, codes "ships.*.route.*.clearance")
line_of places.ShipChannel = (32, codes "ships.*.channel")
line_of places.Stretch = (33, codes "ships.*.channel.*")
line_of places.StretchSection = (34, codes "ships.*.channel.*.section")
line_of places.StretchEnter = (35, codes "ships.*.channel.*.enter")
line_of places.StretchLeave = (36, codes "ships.*.channel.*.leave")
line_of places.ShipTugs = (37, codes "ships.*.tugs")
line_of places.ShipJob = (38, codes "ships.*.job")
line_of places.Berths = (39, codes "berths")
line_of places.BerthPair = (40, codes "berths.*")
line_of places.BerthOutgoing = (41, codes "berths.*.outgoing")
line_of places.BerthIncoming = (42, codes "berths.*.incoming")
line_of places.BerthClear = (43, codes "berths.*.clear")
line_of places.ShipMayStay = (44, codes "ships.*.may_stay")
line_of places.Heights = (45, codes "heights")
line_of places.Closed = (46, codes "closed")
line_of places.Closing = (47, codes "closed.*")
line_of places.ClosingFrom = (48, codes "closed.*.from")
line_of places.ClosingTo = (49, codes "closed.*.to")
line_of places.WaypointClosed = (50, codes "waypoints.*.closed")
line_of places.WaypointClosing = (51, codes "waypoints.*.closed.*")
line_of places.WaypointClosingFrom = (52, codes "waypoints.*.closed.*.from")
line_of places.WaypointClosingTo = (53, codes "waypoints.*.closed.*.to")
line_of places.ShipClosed = (54, codes "ships.*.closed")
line_of places.ShipClosing = (55, codes "ships.*.closed.*")
line_of places.ShipClosingFrom = (56, codes "ships.*.closed.*.from")
line_of places.ShipClosingTo = (57, codes "ships.*.closed.*.to")
line_of places.After = (58, codes "after")
line_of places.AfterPair = (59, codes "after.*")
line_of places.AfterFirst = (60, codes "after.*.first")
line_of places.AfterSecond = (61, codes "after.*.second")
line_of places.AfterGap = (62, codes "after.*.gap")
line_of places.Start = (63, codes "start")

-- the number of a place
abbrev pub number_of_place : Place → ℕ
number_of_place place = (line_of place).0

-- the text of a place
abbrev pub text_of : Place → List ℕ
text_of place = (line_of place).1

-- the places in the order of their numbers
abbrev pub all_places : List Place
all_places = places.Root ∷ places.Version ∷ places.Slots ∷ places.SlotMinutes ∷ places.Waypoints ∷ places.Waypoint ∷ places.WaypointName ∷ places.WaypointDepth ∷ places.Sections ∷ places.Section ∷ places.Separation ∷ places.SeparationRow ∷ places.SeparationGap ∷ places.Turnaround ∷ places.TurnaroundOutgoing ∷ places.TurnaroundIncoming ∷ places.Fleet ∷ places.Ships ∷ places.Ship ∷ places.ShipName ∷ places.ShipDirection ∷ places.ShipClass ∷ places.ShipEarliest ∷ places.ShipLatest ∷ places.ShipTpc ∷ places.ShipLight ∷ places.ShipDeep ∷ places.ShipRoute ∷ places.Pass ∷ places.PassWaypoint ∷ places.PassOffset ∷ places.PassClearance ∷ places.ShipChannel ∷ places.Stretch ∷ places.StretchSection ∷ places.StretchEnter ∷ places.StretchLeave ∷ places.ShipTugs ∷ places.ShipJob ∷ places.Berths ∷ places.BerthPair ∷ places.BerthOutgoing ∷ places.BerthIncoming ∷ places.BerthClear ∷ places.ShipMayStay ∷ places.Heights ∷ places.Closed ∷ places.Closing ∷ places.ClosingFrom ∷ places.ClosingTo ∷ places.WaypointClosed ∷ places.WaypointClosing ∷ places.WaypointClosingFrom ∷ places.WaypointClosingTo ∷ places.ShipClosed ∷ places.ShipClosing ∷ places.ShipClosingFrom ∷ places.ShipClosingTo ∷ places.After ∷ places.AfterPair ∷ places.AfterFirst ∷ places.AfterSecond ∷ places.AfterGap ∷ places.Start ∷ []

-- the place of a number, if there is one
abbrev pub place_at : ℕ → Option Place
place_at number = slice_get all_places number

-- the text of the place of a number; nothing where there is none
abbrev pub text_at : ℕ → List ℕ
text_at number = option_map_or text_of (place_at number) []

-- the text of a number of a list item, if there is one
abbrev pub number_text : Option ℕ → List ℕ
number_text None = []
number_text (Some n) = decimal n

-- a place with its numbers set in for its stars, the first two in order
abbrev pub filled : List ℕ → Option ℕ → Option ℕ → List ℕ
filled [] first second = []
filled (b ∷ bs) first second = if b == 42 then number_text first ++ filled bs second None else b ∷ filled bs first second

-- a path as it is printed
unfoldable pub path_text : Path → List ℕ
path_text path = filled (text_at path.field) path.first path.second

-- the word of a fault, as it is printed
abbrev pub word_text : PortWord → List ℕ
word_text words.Missing = codes "missing"
word_text words.Kind = codes "kind"
word_text words.Other = codes "other"
word_text words.Range = codes "range"
word_text words.Count = codes "count"
word_text words.Name = codes "name"
word_text words.Repeat = codes "repeat"
word_text words.Order = codes "order"
word_text words.Side = codes "side"
