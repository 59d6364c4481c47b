-- A port that keeps the meaning rules has no fault.
use Rattle.std.proofs.Common.{◌≡◌, ℕ, zero, suc, ◌+◌, ◌≤◌, ◌≤ℤ◌, ◌<ℤ◌, ℤ, pos, negsuc, Bool, true, false, not, ◌&&◌, List, [], ◌∷◌, length, take, slice_get, Option, Some, None, IfSome, refl, sym, ap, subst, arith, All, nat_le, int_le, int_lt}
use Rattle.std.proofs.lemmas.Bool.{and_from}
use Rattle.std.proofs.lemmas.Bool.Decides.{nat_tests}
use Rattle.std.proofs.lemmas.Int.{ints}
use Rattle.hw_port.specs.declared.fault.Path.{Path}
use Rattle.hw_port.specs.declared.fault.PortFault.{PortFault}
use Rattle.hw_port.specs.declared.fault.PortWord.{PortWord}
use Rattle.hw_port.specs.declared.fault.PortWord.TheVariants.{Range, Count, Name, Repeat, Order, Side}
use Rattle.hw_port.specs.declared.places.Place.TheVariants as places
use Rattle.hw_port.specs.declared.parts.Waypoint.{Waypoint}
use Rattle.hw_port.specs.declared.parts.Section.{Section}
use Rattle.hw_port.specs.declared.parts.Pass.{Pass}
use Rattle.hw_port.specs.declared.parts.Stretch.{Stretch}
use Rattle.hw_port.specs.declared.parts.BerthPair.{BerthPair}
use Rattle.hw_port.specs.declared.parts.Closing.{Closing}
use Rattle.hw_port.specs.declared.parts.AfterPair.{AfterPair}
use Rattle.hw_port.specs.declared.places.Place.{Place}
use Rattle.std.specs.Ordering.{int_eq}
use Rattle.hw_lemmas.specs.Operators.{◌or_else◌}
use Rattle.hw_port.specs.Parts.{ShipParts}
use Rattle.hw_port.specs.Whole.{Parts}
use Rattle.hw_port.specs.Faults.{unless, each, at, at_item}
use Rattle.hw_port.specs.Rules.{in_range, is_place, is_name, is_direction, range, place_in_list, count, at_least, above, new_name, among, is_heights}
use Rattle.hw_port.specs.Ships.{sort_fault, window_fault, load_fault, pass_fault, route_fault, stretch_fault, stretches_fault, channel_fault, tugs_fault, ship_fault}
use Rattle.hw_port.specs.Meaning.{start_fault, calendar_fault, waypoint_fault, waypoints_fault, section_fault, sections_fault, gap_fault, row_fault, separation_fault, tug_fault, ships_fault, has_direction, ship_at, side_fault, berth_fault, berths_fault, heights_fault, after_fault, afters_fault, port_fault}
use Rattle.hw_port.specs.Starts.{is_start}
use Rattle.hw_port.specs.Closings.{closing_fault, closed_fault}
use Rattle.hw_port.specs.Kept.{ClosingKept, ClosedKept, AfterKept, Within, IsPlace, Counts, WaypointKept, SectionKept, RowKept, PassKept, StretchKept, Ascends, ShipKept, BerthKept, PortKept, FaultlessIsKept, IsStart, IsName, Sails}
use Rattle.hw_port.proofs.Wording.{from_name, from_direction, from_heights, from_differ, from_sails}
use Rattle.hw_port.proofs.Differing.{fresh_by}
use Rattle.hw_port.proofs.KeptPorts.{port_kept}

both : (a b : Option PortFault) → a ≡ None → b ≡ None → a or_else b ≡ None
both None b e d = d
both (Some f) b e d = absurd cc

holds : (path : Path) (word : PortWord) (b : Bool) → b ≡ true → unless path word b ≡ None
holds path word true e = refl
holds path word false e = absurd cc

pub le_test : (a b : ℤ) → a ≤ℤ b → int_le a b ≡ true
le_test a b h = grind (arith, ints)

pub lt_test : (a b : ℤ) → a <ℤ b → int_lt a b ≡ true
lt_test a b h = grind (arith, ints)

in_its_range : (path : Path) (low high value : ℤ) → Within low high value → range path low high value ≡ None
unfolding range
in_its_range path low high value w = holds path Range (in_range low high value) (and_from (int_le low value) (int_le value high) (le_test low value w.low) (le_test value high w.high))

in_its_place : (path : Path) (many value : ℤ) → IsPlace many value → place_in_list path many value ≡ None
unfolding place_in_list
in_its_place path many value w = holds path Range (is_place many value) (and_from (int_le (pos 0) value) (int_lt value many) (le_test (pos 0) value w.low) (lt_test value many w.below))

le_nat : (a b : ℕ) → a ≤ b → nat_le a b ≡ true
le_nat a b h = grind (arith, nat_tests)

so_many : (path : Path) (low high many : ℕ) → Counts low high many → count path low high many ≡ None
unfolding count
so_many path low high many w = holds path Count (nat_le low many && nat_le many high) (and_from (nat_le low many) (nat_le many high) (le_nat low many w.low) (le_nat many high w.high))

is_at_least : (path : Path) (low value : ℤ) → low ≤ℤ value → at_least path low value ≡ None
unfolding at_least
is_at_least path low value h = holds path Order (int_le low value) (le_test low value h)

is_above : (path : Path) (low value : ℤ) → low <ℤ value → above path low value ≡ None
unfolding above
is_above path low value h = holds path Order (int_lt low value) (lt_test low value h)

named : (path : Path) (used : Bool) (text : List ℕ) → IsName text → used ≡ false → new_name path used text ≡ None
unfolding new_name
named path used text good fresh = both (unless path Name (is_name text)) (unless path Repeat (not used)) (holds path Name (is_name text) (from_name text good)) (holds path Repeat (not used) (ap not fresh))

no_fault : {A : Type 0} (rule : ℕ → A → Option PortFault) (from : ℕ) (xs : List A) → ((k place_in_list : ℕ) (x : A) → place_in_list ≡ from + k → slice_get xs k ≡ Some x → rule place_in_list x ≡ None) → each rule from xs ≡ None
no_fault rule from [] h = refl
no_fault rule from (x ∷ xs) h = both (rule from x) (each rule (from + 1) xs) (h 0 from x (omega arith) refl) (no_fault rule (from + 1) xs (λ k at y e get. h (suc k) at y (omega (arith, e)) get))

each_good : {A : Type 0} (rule : ℕ → A → Option PortFault) (P : A → Type 0) → ((i : ℕ) (x : A) → P x → rule i x ≡ None) → (from : ℕ) (xs : List A) → All P xs → each rule from xs ≡ None
each_good rule P good from [] all = refl
each_good rule P good from (x ∷ xs) all = both (rule from x) (each rule (from + 1) xs) (good from x (all 0 x (omega arith))) (each_good rule P good (from + 1) xs (λ k d lt. all (suc k) d (omega (arith, lt))))

kept_at : {A : Type 0} (P : A → Type 0) (xs : List A) (k : ℕ) (x : A) → All P xs → slice_get xs k ≡ Some x → P x
kept_at P [] k x all get = absurd cc
kept_at P (y ∷ ys) zero x all get =
    let same : y ≡ x = cc in
    subst P same (all 0 y (omega arith))
kept_at P (y ∷ ys) (suc k) x all get = kept_at P ys k x (λ i d lt. all (suc i) d (omega (arith, lt))) get

-- ---- the rules

good_closing : (from to : Place) (outer : Option ℕ) (many : ℤ) (k : ℕ) (c : Closing) → ClosingKept many c → closing_fault from to outer many k c ≡ None
unfolding closing_fault
good_closing from to outer many k c kept = both _ _ (in_its_place _ _ _ kept.from) (both _ _ (in_its_place _ _ _ kept.to) (is_at_least _ _ _ kept.order))

good_closed : (list : Path) (from to : Place) (outer : Option ℕ) (most : ℕ) (many : ℤ) (closings : List Closing) → ClosedKept most many closings → closed_fault list from to outer most many closings ≡ None
unfolding closed_fault
good_closed list from to outer most many closings kept = both _ _ (so_many _ _ _ _ kept.size) (each_good (closing_fault from to outer many) (ClosingKept many) (good_closing from to outer many) 0 closings kept.each)

good_waypoint : (all : List Waypoint) (i : ℕ) (w : Waypoint) → WaypointKept w → among (λ v. v.name) w.name (take i all) ≡ false → waypoint_fault all i w ≡ None
unfolding waypoint_fault
good_waypoint all i w kept fresh = both _ _ (named _ _ _ kept.name fresh) (both _ _ (in_its_range _ _ _ _ kept.depth) (good_closed _ _ _ _ _ _ _ kept.closed))

good_section : (all : List Section) (i : ℕ) (s : Section) → SectionKept s → among (λ v. v.name) s.name (take i all) ≡ false → section_fault all i s ≡ None
unfolding section_fault
good_section all i s kept fresh = named _ _ _ kept fresh

good_gap : (i j : ℕ) (gap : ℤ) → Within (pos 1) (pos 512) gap → gap_fault i j gap ≡ None
unfolding gap_fault
good_gap i j gap kept = in_its_range _ _ _ _ kept

good_row : (classes i : ℕ) (row : List ℤ) → RowKept classes row → row_fault classes i row ≡ None
unfolding row_fault
good_row classes i row kept = both _ _ (so_many _ _ _ _ (record { low = omega (arith, kept.size); high = omega (arith, kept.size) })) (each_good (gap_fault i) (Within (pos 1) (pos 512)) (good_gap i) 0 row kept.gaps)

good_pass : (i : ℕ) (waypoints : ℤ) (j : ℕ) (p : Pass) → PassKept waypoints p → pass_fault i waypoints j p ≡ None
unfolding pass_fault
good_pass i waypoints j p kept = both _ _ (in_its_place _ _ _ kept.waypoint) (both _ _ (in_its_range _ _ _ _ kept.offset) (in_its_range _ _ _ _ kept.clearance))

good_stretch : (i : ℕ) (sections : ℤ) (j : ℕ) (before : ℤ) (s : Stretch) → StretchKept sections s → before <ℤ s.section → stretch_fault i sections j before s ≡ None
unfolding stretch_fault
good_stretch i sections j before s kept up = both _ _ (in_its_place _ _ _ kept.section) (both _ _ (is_above _ _ _ up) (both _ _ (in_its_range _ _ _ _ kept.enter) (both _ _ (in_its_range _ _ _ _ kept.leave) (is_above _ _ _ kept.order))))

good_stretches : (i : ℕ) (sections : ℤ) (j : ℕ) (before : ℤ) (ss : List Stretch) → All (StretchKept sections) ss → Ascends before ss → stretches_fault i sections j before ss ≡ None
good_stretches i sections j before [] all up = refl
good_stretches i sections j before (s ∷ ss) all up = both (stretch_fault i sections j before s) (stretches_fault i sections (j + 1) s.section ss) (good_stretch i sections j before s (all 0 s (omega arith)) up.0) (good_stretches i sections (j + 1) s.section ss (λ k d lt. all (suc k) d (omega (arith, lt))) up.1)

good_ship : (p : Parts) (i : ℕ) (s : ShipParts) → ShipKept p s → among (λ v. v.name) s.name (take i p.ships) ≡ false → ship_fault p i s ≡ None
unfolding ship_fault sort_fault window_fault load_fault route_fault channel_fault tugs_fault
good_ship p i s kept fresh =
    both (sort_fault p.ships (pos (length p.separation)) i s) _ (both _ _ (named _ _ _ kept.name fresh) (both _ _ (holds (at_item places.ShipDirection i) Name (is_direction s.direction) (from_direction s.direction kept.direction)) (in_its_place _ _ _ kept.class)))
    (both (window_fault i p.slots s.earliest s.latest) _ (both _ _ (in_its_place _ _ _ kept.earliest) (both _ _ (in_its_place _ _ _ kept.latest) (is_at_least _ _ _ kept.window)))
    (both (load_fault i s.tpc s.light s.deep) _ (both _ _ (in_its_range _ _ _ _ kept.tpc) (both _ _ (in_its_range _ _ _ _ kept.light) (both _ _ (in_its_range _ _ _ _ kept.deep) (is_at_least _ _ _ kept.load))))
    (both (route_fault i (pos (length p.waypoints)) s.route) _ (both _ _ (so_many _ _ _ _ kept.passes) (each_good (pass_fault i (pos (length p.waypoints))) (PassKept (pos (length p.waypoints))) (good_pass i (pos (length p.waypoints))) 0 s.route kept.route))
    (both (channel_fault i (pos (length p.sections)) s.channel) _ (both _ _ (so_many _ _ _ _ kept.stretches) (good_stretches i (pos (length p.sections)) 0 (negsuc 0) s.channel kept.channel kept.ascends))
    (both (tugs_fault i s.tugs s.job) _ (both _ _ (in_its_range _ _ _ _ kept.tugs) (in_its_range _ _ _ _ kept.job))
    (good_closed _ _ _ _ _ _ _ kept.closed))))))

good_side : (path : Path) (direction : List ℕ) (ships : List ShipParts) (ship : ℤ) → IsPlace (pos (length ships)) ship → Sails direction ships ship → side_fault path direction ships ship ≡ None
unfolding side_fault
good_side path direction ships ship at side = both _ _ (in_its_place _ _ _ at) (holds path Side (has_direction direction (ship_at ships ship)) (from_sails direction ships ship side))

good_berth : (ships : List ShipParts) (i : ℕ) (b : BerthPair) → BerthKept ships b → berth_fault ships i b ≡ None
unfolding berth_fault
good_berth ships i b kept = both _ _ (good_side _ _ _ _ kept.outgoing_place kept.outgoing_side) (both _ _ (good_side _ _ _ _ kept.incoming_place kept.incoming_side) (in_its_range _ _ _ _ kept.clear))

good_after : (ships : ℤ) (i : ℕ) (a : AfterPair) → AfterKept ships a → after_fault ships i a ≡ None
unfolding after_fault
good_after ships i a kept = both _ _ (in_its_place _ _ _ kept.first) (both _ _ (in_its_place _ _ _ kept.second) (both _ _ (holds (at_item places.AfterSecond i) Order (not (int_eq a.first a.second)) (from_differ a.first a.second kept.differ)) (in_its_range _ _ _ _ kept.gap)))

good_start : (start : Option (List ℕ)) → IfSome start IsStart → start_fault start ≡ None
unfolding start_fault
good_start None h = refl
good_start (Some text) h = holds (at places.Start) Name (is_start text) h

port_good : (p : Parts) → PortKept p → port_fault p ≡ None
unfolding port_fault calendar_fault heights_fault afters_fault waypoints_fault sections_fault separation_fault tug_fault ships_fault berths_fault
port_good p kept =
    both (calendar_fault p.version p.start p.slots p.slot_minutes) _ (both _ _ (in_its_range _ _ _ _ kept.version) (both (start_fault p.start) _ (good_start p.start kept.start) (both _ _ (in_its_range _ _ _ _ kept.slots) (in_its_range _ _ _ _ kept.slot_minutes))))
    (both (heights_fault p.heights) _ (holds (at places.Heights) Name (is_heights p.heights) (from_heights p.heights kept.heights))
    (both _ _ (good_closed _ _ _ _ _ _ _ kept.closed)
    (both (waypoints_fault p.waypoints) _ (both _ _ (so_many _ _ _ _ kept.waypoint_count) (no_fault (waypoint_fault p.waypoints) 0 p.waypoints (λ k at w e get.
    let here : at ≡ k = omega (arith, e) in
    subst (λ n. waypoint_fault p.waypoints n w ≡ None) (sym here) (good_waypoint p.waypoints k w (kept_at WaypointKept p.waypoints k w kept.waypoints get) (fresh_by (λ v. v.name) p.waypoints kept.waypoint_names k w get)))))
    (both (sections_fault p.sections) _ (both _ _ (so_many _ _ _ _ kept.section_count) (no_fault (section_fault p.sections) 0 p.sections (λ k at s e get.
    let here : at ≡ k = omega (arith, e) in
    subst (λ n. section_fault p.sections n s ≡ None) (sym here) (good_section p.sections k s (kept_at SectionKept p.sections k s kept.sections get) (fresh_by (λ v. v.name) p.sections kept.section_names k s get)))))
    (both (separation_fault p.separation) _ (both _ _ (so_many _ _ _ _ kept.class_count) (each_good (row_fault (length p.separation)) (RowKept (length p.separation)) (good_row (length p.separation)) 0 p.separation kept.separation))
    (both (tug_fault p.turnaround p.fleet) _ (both _ _ (in_its_range _ _ _ _ kept.turnaround_outgoing) (both _ _ (in_its_range _ _ _ _ kept.turnaround_incoming) (in_its_range _ _ _ _ kept.fleet)))
    (both (ships_fault p) _ (both _ _ (so_many _ _ _ _ kept.ship_count) (no_fault (ship_fault p) 0 p.ships (λ k at s e get.
    let here : at ≡ k = omega (arith, e) in
    subst (λ n. ship_fault p n s ≡ None) (sym here) (good_ship p k s (kept_at (ShipKept p) p.ships k s kept.ships get) (fresh_by (λ v. v.name) p.ships kept.ship_names k s get)))))
    (both (berths_fault p.ships p.berths) _ (both _ _ (so_many _ _ _ _ kept.berth_count) (each_good (berth_fault p.ships) (BerthKept p.ships) (good_berth p.ships) 0 p.berths kept.berths))
    (both _ _ (so_many _ _ _ _ kept.after_count) (each_good (after_fault (pos (length p.ships))) (AfterKept (pos (length p.ships))) (good_after (pos (length p.ships))) 0 p.after kept.after))))))))))

pub faultless_law : FaultlessIsKept
faultless_law = λ p. (port_kept p, port_good p)
