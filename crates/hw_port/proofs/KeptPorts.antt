-- A port without a fault keeps the meaning rules.
use Rattle.std.proofs.Common.{◌≡◌, ◌<ℤ◌, ℕ, ◌+◌, ℤ, pos, negsuc, List, [], ◌∷◌, length, Option, Some, None, IfSome, arith, All}
use Rattle.std.proofs.lemmas.List.Elements.{All-cons}
use Rattle.hw_port.specs.declared.fault.Path.{Path}
use Rattle.hw_port.specs.declared.parts.Waypoint.{Waypoint}
use Rattle.hw_port.specs.declared.parts.Section.{Section}
use Rattle.hw_port.specs.declared.parts.Pass.{Pass}
use Rattle.hw_port.specs.declared.parts.Stretch.{Stretch}
use Rattle.hw_port.specs.declared.parts.BerthPair.{BerthPair}
use Rattle.hw_port.specs.declared.parts.Closing.{Closing}
use Rattle.hw_port.specs.declared.parts.AfterPair.{AfterPair}
use Rattle.hw_port.specs.declared.places.Place.{Place}
use Rattle.hw_port.specs.Parts.{ShipParts}
use Rattle.hw_port.specs.Whole.{Parts}
use Rattle.hw_port.specs.Ships.{sort_fault, window_fault, load_fault, pass_fault, route_fault, stretch_fault, stretches_fault, channel_fault, tugs_fault, ship_fault}
use Rattle.hw_port.specs.Meaning.{start_fault, calendar_fault, waypoint_fault, waypoints_fault, section_fault, sections_fault, gap_fault, row_fault, separation_fault, tug_fault, ships_fault, side_fault, berth_fault, berths_fault, heights_fault, after_fault, afters_fault, port_fault}
use Rattle.hw_port.specs.Closings.{closing_fault, closed_fault}
use Rattle.hw_port.specs.Kept.{ClosingKept, ClosedKept, AfterKept, Within, IsPlace, Counts, WaypointKept, SectionKept, RowKept, PassKept, StretchKept, Ascends, ShipKept, BerthKept, PortKept, IsStart, Sails}
use Rattle.hw_port.proofs.Keeping.{neither, unless_none, range_kept, place_kept, count_kept, at_least_kept, above_kept, name_kept, each_kept}
use Rattle.hw_port.proofs.Wording.{direction_from, heights_from, differ_from, sails_from}
use Rattle.hw_port.proofs.Differing.{used_not, at_place, differ_by}

closing_kept : (from to : Place) (outer : Option ℕ) (many : ℤ) (k : ℕ) (c : Closing) → closing_fault from to outer many k c ≡ None → ClosingKept many c
unfolding closing_fault
closing_kept from to outer many k c e =
    let a = neither _ _ e in
    let b = neither _ _ a.1 in
    record { from = place_kept _ _ _ a.0; to = place_kept _ _ _ b.0; order = at_least_kept _ _ _ b.1 }

closed_kept : (list : Path) (from to : Place) (outer : Option ℕ) (most : ℕ) (many : ℤ) (closings : List Closing) → closed_fault list from to outer most many closings ≡ None → ClosedKept most many closings
unfolding closed_fault
closed_kept list from to outer most many closings e =
    let a = neither _ _ e in
    record { size = count_kept _ _ _ _ a.0; each = each_kept (closing_fault from to outer many) (ClosingKept many) (closing_kept from to outer many) 0 closings a.1 }

waypoint_kept : (all : List Waypoint) (i : ℕ) (w : Waypoint) → waypoint_fault all i w ≡ None → WaypointKept w
unfolding waypoint_fault
waypoint_kept all i w e =
    let p = neither _ _ e in
    let d = neither _ _ p.1 in
    record { name = name_kept _ _ _ p.0; depth = range_kept _ _ _ _ d.0; closed = closed_kept _ _ _ _ _ _ _ d.1 }

section_kept : (all : List Section) (i : ℕ) (s : Section) → section_fault all i s ≡ None → SectionKept s
unfolding section_fault
section_kept all i s e = name_kept _ _ _ e

gap_kept : (i j : ℕ) (gap : ℤ) → gap_fault i j gap ≡ None → Within (pos 1) (pos 512) gap
unfolding gap_fault
gap_kept i j gap e = range_kept _ _ _ _ e

row_kept : (classes i : ℕ) (row : List ℤ) → row_fault classes i row ≡ None → RowKept classes row
unfolding row_fault
row_kept classes i row e =
    let p = neither _ _ e in
    let size = count_kept _ _ _ _ p.0 in
    record { size = omega (arith, size.low, size.high); gaps = each_kept (gap_fault i) (Within (pos 1) (pos 512)) (gap_kept i) 0 row p.1 }

pass_kept : (i : ℕ) (waypoints : ℤ) (j : ℕ) (p : Pass) → pass_fault i waypoints j p ≡ None → PassKept waypoints p
unfolding pass_fault
pass_kept i waypoints j p e =
    let a = neither _ _ e in
    let b = neither _ _ a.1 in
    record { waypoint = place_kept _ _ _ a.0; offset = range_kept _ _ _ _ b.0; clearance = range_kept _ _ _ _ b.1 }

-- a stretch, and that it stands above the one before
stretch_kept : (i : ℕ) (sections : ℤ) (j : ℕ) (before : ℤ) (s : Stretch) → stretch_fault i sections j before s ≡ None → StretchKept sections s × (before <ℤ s.section)
unfolding stretch_fault
stretch_kept i sections j before s e =
    let a = neither _ _ e in
    let b = neither _ _ a.1 in
    let c = neither _ _ b.1 in
    let d = neither _ _ c.1 in
    (record { section = place_kept _ _ _ a.0; enter = range_kept _ _ _ _ c.0; leave = range_kept _ _ _ _ d.0; order = above_kept _ _ _ d.1 }, above_kept _ _ _ b.0)

stretches_kept : (i : ℕ) (sections : ℤ) (j : ℕ) (before : ℤ) (ss : List Stretch) → stretches_fault i sections j before ss ≡ None → All (StretchKept sections) ss × Ascends before ss
stretches_kept i sections j before [] e = (λ k d h. absurd (omega (arith, h)), tt)
stretches_kept i sections j before (s ∷ ss) e =
    let a = neither (stretch_fault i sections j before s) (stretches_fault i sections (j + 1) s.section ss) e in
    let one = stretch_kept i sections j before s a.0 in
    let more = stretches_kept i sections (j + 1) s.section ss a.1 in
    (All-cons (StretchKept sections) s ss one.0 more.0, (one.1, more.1))

route_kept : (i : ℕ) (waypoints : ℤ) (route : List Pass) → route_fault i waypoints route ≡ None → Counts 1 16 (length route) × All (PassKept waypoints) route
unfolding route_fault
route_kept i waypoints route e =
    let a = neither _ _ e in
    (count_kept _ _ _ _ a.0, each_kept (pass_fault i waypoints) (PassKept waypoints) (pass_kept i waypoints) 0 route a.1)

channel_kept : (i : ℕ) (sections : ℤ) (channel : List Stretch) → channel_fault i sections channel ≡ None → Counts 0 8 (length channel) × All (StretchKept sections) channel × Ascends (negsuc 0) channel
unfolding channel_fault
channel_kept i sections channel e =
    let a = neither _ _ e in
    let b = stretches_kept i sections 0 (negsuc 0) channel a.1 in
    (count_kept _ _ _ _ a.0, b.0, b.1)

ship_kept : (p : Parts) (i : ℕ) (s : ShipParts) → ship_fault p i s ≡ None → ShipKept p s
unfolding ship_fault sort_fault window_fault load_fault tugs_fault
ship_kept p i s e =
    let a = neither (sort_fault p.ships (pos (length p.separation)) i s) _ e in
    let b = neither (window_fault i p.slots s.earliest s.latest) _ a.1 in
    let c = neither (load_fault i s.tpc s.light s.deep) _ b.1 in
    let d = neither (route_fault i (pos (length p.waypoints)) s.route) _ c.1 in
    let f = neither (channel_fault i (pos (length p.sections)) s.channel) _ d.1 in
    let sort = neither _ _ a.0 in
    let class = neither _ _ sort.1 in
    let window = neither _ _ b.0 in
    let last = neither _ _ window.1 in
    let tpc = neither _ _ c.0 in
    let light = neither _ _ tpc.1 in
    let deep = neither _ _ light.1 in
    let route = route_kept i _ s.route d.0 in
    let channel = channel_kept i _ s.channel f.0 in
    let g = neither (tugs_fault i s.tugs s.job) _ f.1 in
    let tugs = neither _ _ g.0 in
    record {
      name = name_kept _ _ _ sort.0;
      direction = direction_from s.direction (unless_none _ _ _ class.0);
      class = place_kept _ _ _ class.1;
      earliest = place_kept _ _ _ window.0;
      latest = place_kept _ _ _ last.0;
      window = at_least_kept _ _ _ last.1;
      tpc = range_kept _ _ _ _ tpc.0;
      light = range_kept _ _ _ _ light.0;
      deep = range_kept _ _ _ _ deep.0;
      load = at_least_kept _ _ _ deep.1;
      passes = route.0;
      route = route.1;
      stretches = channel.0;
      channel = channel.1;
      ascends = channel.2;
      tugs = range_kept _ _ _ _ tugs.0;
      job = range_kept _ _ _ _ tugs.1;
      closed = closed_kept _ _ _ _ _ _ _ g.1;
    }

side_kept : (path : Path) (direction : List ℕ) (ships : List ShipParts) (ship : ℤ) → side_fault path direction ships ship ≡ None → IsPlace (pos (length ships)) ship × Sails direction ships ship
unfolding side_fault
side_kept path direction ships ship e =
    let a = neither _ _ e in
    (place_kept _ _ _ a.0, sails_from direction ships ship (unless_none _ _ _ a.1))

berth_kept : (ships : List ShipParts) (i : ℕ) (b : BerthPair) → berth_fault ships i b ≡ None → BerthKept ships b
unfolding berth_fault
berth_kept ships i b e =
    let a = neither _ _ e in
    let c = neither _ _ a.1 in
    let out = side_kept _ _ _ _ a.0 in
    let in_ = side_kept _ _ _ _ c.0 in
    record { outgoing_place = out.0; outgoing_side = out.1; incoming_place = in_.0; incoming_side = in_.1; clear = range_kept _ _ _ _ c.1 }

after_kept : (ships : ℤ) (i : ℕ) (a : AfterPair) → after_fault ships i a ≡ None → AfterKept ships a
unfolding after_fault
after_kept ships i a e =
    let first = neither _ _ e in
    let second = neither _ _ first.1 in
    let differ = neither _ _ second.1 in
    record { first = place_kept _ _ _ first.0; second = place_kept _ _ _ second.0; differ = differ_from a.first a.second (unless_none _ _ _ differ.0); gap = range_kept _ _ _ _ differ.1 }

start_kept : (start : Option (List ℕ)) → start_fault start ≡ None → IfSome start IsStart
unfolding start_fault
start_kept None e = tt
start_kept (Some text) e = unless_none _ _ _ e

pub port_kept : (p : Parts) → port_fault p ≡ None → PortKept p
unfolding port_fault calendar_fault heights_fault afters_fault waypoints_fault waypoint_fault sections_fault section_fault separation_fault tug_fault ships_fault ship_fault sort_fault berths_fault
port_kept p e =
    let a = neither (calendar_fault p.version p.start p.slots p.slot_minutes) _ e in
    let tide = neither (heights_fault p.heights) _ a.1 in
    let closed = neither _ _ tide.1 in
    let b = neither (waypoints_fault p.waypoints) _ closed.1 in
    let c = neither (sections_fault p.sections) _ b.1 in
    let d = neither (separation_fault p.separation) _ c.1 in
    let f = neither (tug_fault p.turnaround p.fleet) _ d.1 in
    let g = neither (ships_fault p) _ f.1 in
    let version = neither _ _ a.0 in
    let start = neither (start_fault p.start) _ version.1 in
    let slots = neither _ _ start.1 in
    let waypoints = neither _ _ b.0 in
    let sections = neither _ _ c.0 in
    let rows = neither _ _ d.0 in
    let out = neither _ _ f.0 in
    let fleet = neither _ _ out.1 in
    let ships = neither _ _ g.0 in
    let h = neither (berths_fault p.ships p.berths) _ g.1 in
    let berths = neither _ _ h.0 in
    let after = neither _ _ h.1 in
    record {
      version = range_kept _ _ _ _ version.0;
      start = start_kept p.start start.0;
      slots = range_kept _ _ _ _ slots.0;
      slot_minutes = range_kept _ _ _ _ slots.1;
      heights = heights_from p.heights (unless_none _ _ _ tide.0);
      closed = closed_kept _ _ _ _ _ _ _ closed.0;
      waypoint_count = count_kept _ _ _ _ waypoints.0;
      waypoints = each_kept (waypoint_fault p.waypoints) WaypointKept (waypoint_kept p.waypoints) 0 p.waypoints waypoints.1;
      waypoint_names = differ_by (λ w. w.name) p.waypoints (λ j w at. used_not _ _ _ (neither _ _ (at_place (waypoint_fault p.waypoints) 0 p.waypoints j j w (omega arith) waypoints.1 at)).0);
      section_count = count_kept _ _ _ _ sections.0;
      sections = each_kept (section_fault p.sections) SectionKept (section_kept p.sections) 0 p.sections sections.1;
      section_names = differ_by (λ s. s.name) p.sections (λ j s at. used_not _ _ _ (at_place (section_fault p.sections) 0 p.sections j j s (omega arith) sections.1 at));
      class_count = count_kept _ _ _ _ rows.0;
      separation = each_kept (row_fault (length p.separation)) (RowKept (length p.separation)) (row_kept (length p.separation)) 0 p.separation rows.1;
      turnaround_outgoing = range_kept _ _ _ _ out.0;
      turnaround_incoming = range_kept _ _ _ _ fleet.0;
      fleet = range_kept _ _ _ _ fleet.1;
      ship_count = count_kept _ _ _ _ ships.0;
      ships = each_kept (ship_fault p) (ShipKept p) (ship_kept p) 0 p.ships ships.1;
      ship_names = differ_by (λ s. s.name) p.ships (λ j s at. used_not _ _ _ (neither _ _ (neither (sort_fault p.ships (pos (length p.separation)) j s) _ (at_place (ship_fault p) 0 p.ships j j s (omega arith) ships.1 at)).0).0);
      berth_count = count_kept _ _ _ _ berths.0;
      berths = each_kept (berth_fault p.ships) (BerthKept p.ships) (berth_kept p.ships) 0 p.berths berths.1;
      after_count = count_kept _ _ _ _ after.0;
      after = each_kept (after_fault (pos (length p.ships))) (AfterKept (pos (length p.ships))) (after_kept (pos (length p.ships))) 0 p.after after.1;
    }
