-- The words of the meaning rules' faults.
use Rattle.std.proofs.Common.{◌≡◌, ℕ, ◌+◌, ℤ, negsuc, Bool, true, false, not, ◌&&◌, List, [], ◌∷◌, length, Option, Some, None, nat_le, int_le, int_lt, subst, sym, Result, Ok, Err, IfErr}
use Rattle.hw_port.specs.declared.fault.Path.{Path}
use Rattle.hw_port.specs.declared.fault.PortFault.{PortFault}
use Rattle.hw_port.specs.declared.places.Place.TheVariants as places
use Rattle.hw_port.specs.declared.fault.PortWord.{PortWord}
use Rattle.hw_port.specs.declared.fault.PortWord.TheVariants.{Range, Count, Name, Repeat, Order, Side}
use Rattle.hw_port.specs.declared.parts.Waypoint.{Waypoint}
use Rattle.hw_port.specs.declared.parts.Section.{Section}
use Rattle.hw_port.specs.declared.parts.Turnaround.{Turnaround}
use Rattle.hw_port.specs.declared.parts.Pass.{Pass}
use Rattle.hw_port.specs.declared.parts.Stretch.{Stretch}
use Rattle.hw_port.specs.declared.parts.BerthPair.{BerthPair}
use Rattle.hw_port.specs.declared.parts.Closing.{Closing}
use Rattle.hw_port.specs.declared.parts.AfterPair.{AfterPair}
use Rattle.hw_port.specs.declared.places.Place.{Place}
use Rattle.std.specs.Ordering.{int_eq}
use Rattle.hw_lemmas.specs.Operators.{◌or_else◌}
use Rattle.hw_port.specs.Parts.{ShipParts}
use Rattle.hw_port.specs.Whole.{Parts}
use Rattle.hw_port.specs.Faults.{unless, each, fault_of, at, at_item}
use Rattle.hw_port.specs.Rules.{range, place_in_list, count, at_least, above, new_name, is_name, is_direction, in_range, is_place, is_heights}
use Rattle.hw_port.specs.Starts.{is_start}
use Rattle.hw_port.specs.Closings.{closing_fault, closed_fault}
use Rattle.hw_port.specs.Ships.{sort_fault, window_fault, load_fault, pass_fault, route_fault, stretch_fault, stretches_fault, channel_fault, tugs_fault, ship_fault}
use Rattle.hw_port.specs.Meaning.{start_fault, calendar_fault, waypoint_fault, waypoints_fault, section_fault, sections_fault, gap_fault, row_fault, separation_fault, tug_fault, ships_fault, has_direction, ship_at, side_fault, berth_fault, berths_fault, heights_fault, after_fault, afters_fault, port_fault, IsMeaning}

-- no fault, or one of meaning
abbrev Means : Option PortFault → Type 0
Means None = Unit {0}
Means (Some f) = IsMeaning f.word

either : (a b : Option PortFault) → Means a → Means b → Means (a or_else b)
either None b h k = k
either (Some f) b h k = h

of_test : (path : Path) (word : PortWord) (b : Bool) → IsMeaning word → Means (unless path word b)
of_test path word true h = tt
of_test path word false h = h

of_each : {A : Type 0} (rule : ℕ → A → Option PortFault) → ((i : ℕ) (x : A) → Means (rule i x)) → (i : ℕ) (xs : List A) → Means (each rule i xs)
of_each rule h i [] = tt
of_each rule h i (x ∷ xs) = either (rule i x) (each rule (i + 1) xs) (h i x) (of_each rule h (i + 1) xs)

of_range : (path : Path) (low high value : ℤ) → Means (range path low high value)
unfolding range
of_range path low high value = of_test path Range (in_range low high value) tt

of_place : (path : Path) (many value : ℤ) → Means (place_in_list path many value)
unfolding place_in_list
of_place path many value = of_test path Range (is_place many value) tt

of_count : (path : Path) (low high many : ℕ) → Means (count path low high many)
unfolding count
of_count path low high many = of_test path Count (nat_le low many && nat_le many high) tt

of_least : (path : Path) (low value : ℤ) → Means (at_least path low value)
unfolding at_least
of_least path low value = of_test path Order (int_le low value) tt

of_above : (path : Path) (low value : ℤ) → Means (above path low value)
unfolding above
of_above path low value = of_test path Order (int_lt low value) tt

of_name : (path : Path) (used : Bool) (text : List ℕ) → Means (new_name path used text)
unfolding new_name
of_name path used text = either (unless path Name (is_name text)) (unless path Repeat (not used)) (of_test path Name (is_name text) tt) (of_test path Repeat (not used) tt)

of_closing : (from to : Place) (outer : Option ℕ) (many : ℤ) (k : ℕ) (c : Closing) → Means (closing_fault from to outer many k c)
unfolding closing_fault
of_closing from to outer many k c = either _ _ (of_place _ _ _) (either _ _ (of_place _ _ _) (of_least _ _ _))

of_closed : (list : Path) (from to : Place) (outer : Option ℕ) (most : ℕ) (many : ℤ) (closings : List Closing) → Means (closed_fault list from to outer most many closings)
unfolding closed_fault
of_closed list from to outer most many closings = either _ _ (of_count _ _ _ _) (of_each (closing_fault from to outer many) (of_closing from to outer many) 0 closings)

of_waypoint : (all : List Waypoint) (i : ℕ) (w : Waypoint) → Means (waypoint_fault all i w)
unfolding waypoint_fault
of_waypoint all i w = either _ _ (of_name _ _ _) (either _ _ (of_range _ _ _ _) (of_closed _ _ _ _ _ _ _))

of_section : (all : List Section) (i : ℕ) (s : Section) → Means (section_fault all i s)
unfolding section_fault
of_section all i s = of_name _ _ _

of_gap : (i j : ℕ) (gap : ℤ) → Means (gap_fault i j gap)
unfolding gap_fault
of_gap i j gap = of_range _ _ _ _

of_row : (classes i : ℕ) (row : List ℤ) → Means (row_fault classes i row)
unfolding row_fault
of_row classes i row = either _ _ (of_count _ _ _ _) (of_each (gap_fault i) (of_gap i) 0 row)

of_pass : (i : ℕ) (waypoints : ℤ) (j : ℕ) (p : Pass) → Means (pass_fault i waypoints j p)
unfolding pass_fault
of_pass i waypoints j p = either _ _ (of_place _ _ _) (either _ _ (of_range _ _ _ _) (of_range _ _ _ _))

of_stretch : (i : ℕ) (sections : ℤ) (j : ℕ) (before : ℤ) (s : Stretch) → Means (stretch_fault i sections j before s)
unfolding stretch_fault
of_stretch i sections j before s = either _ _ (of_place _ _ _) (either _ _ (of_above _ _ _) (either _ _ (of_range _ _ _ _) (either _ _ (of_range _ _ _ _) (of_above _ _ _))))

of_stretches : (i : ℕ) (sections : ℤ) (j : ℕ) (before : ℤ) (ss : List Stretch) → Means (stretches_fault i sections j before ss)
of_stretches i sections j before [] = tt
of_stretches i sections j before (s ∷ ss) = either (stretch_fault i sections j before s) (stretches_fault i sections (j + 1) s.section ss) (of_stretch i sections j before s) (of_stretches i sections (j + 1) s.section ss)

of_route : (i : ℕ) (waypoints : ℤ) (route : List Pass) → Means (route_fault i waypoints route)
unfolding route_fault
of_route i waypoints route = either _ _ (of_count _ _ _ _) (of_each (pass_fault i waypoints) (of_pass i waypoints) 0 route)

of_channel : (i : ℕ) (sections : ℤ) (channel : List Stretch) → Means (channel_fault i sections channel)
unfolding channel_fault
of_channel i sections channel = either _ _ (of_count _ _ _ _) (of_stretches i sections 0 (negsuc 0) channel)

of_sort : (all : List ShipParts) (classes : ℤ) (i : ℕ) (s : ShipParts) → Means (sort_fault all classes i s)
unfolding sort_fault
of_sort all classes i s = either _ _ (of_name _ _ _) (either _ _ (of_test (at_item places.ShipDirection i) Name (is_direction s.direction) tt) (of_place _ _ _))

of_window : (i : ℕ) (slots earliest latest : ℤ) → Means (window_fault i slots earliest latest)
unfolding window_fault
of_window i slots earliest latest = either _ _ (of_place _ _ _) (either _ _ (of_place _ _ _) (of_least _ _ _))

of_load : (i : ℕ) (tpc light deep : ℤ) → Means (load_fault i tpc light deep)
unfolding load_fault
of_load i tpc light deep = either _ _ (of_range _ _ _ _) (either _ _ (of_range _ _ _ _) (either _ _ (of_range _ _ _ _) (of_least _ _ _)))

of_tugs : (i : ℕ) (tugs job : ℤ) → Means (tugs_fault i tugs job)
unfolding tugs_fault
of_tugs i tugs job = either _ _ (of_range _ _ _ _) (of_range _ _ _ _)

of_ship : (p : Parts) (i : ℕ) (s : ShipParts) → Means (ship_fault p i s)
unfolding ship_fault
of_ship p i s = either _ _ (of_sort _ _ _ _) (either _ _ (of_window _ _ _ _) (either _ _ (of_load _ _ _ _) (either _ _ (of_route _ _ _) (either _ _ (of_channel _ _ _) (either _ _ (of_tugs _ _ _) (of_closed _ _ _ _ _ _ _))))))

of_side : (path : Path) (direction : List ℕ) (ships : List ShipParts) (ship : ℤ) → Means (side_fault path direction ships ship)
unfolding side_fault
of_side path direction ships ship = either _ _ (of_place _ _ _) (of_test path Side (has_direction direction (ship_at ships ship)) tt)

of_berth : (ships : List ShipParts) (i : ℕ) (b : BerthPair) → Means (berth_fault ships i b)
unfolding berth_fault
of_berth ships i b = either _ _ (of_side _ _ _ _) (either _ _ (of_side _ _ _ _) (of_range _ _ _ _))

of_start : (start : Option (List ℕ)) → Means (start_fault start)
unfolding start_fault
of_start None = tt
of_start (Some text) = of_test (at places.Start) Name (is_start text) tt

of_calendar : (version : ℤ) (start : Option (List ℕ)) (slots slot_minutes : ℤ) → Means (calendar_fault version start slots slot_minutes)
unfolding calendar_fault
of_calendar version start slots slot_minutes = either _ _ (of_range _ _ _ _) (either _ _ (of_start start) (either _ _ (of_range _ _ _ _) (of_range _ _ _ _)))

of_waypoints : (all : List Waypoint) → Means (waypoints_fault all)
unfolding waypoints_fault
of_waypoints all = either _ _ (of_count _ _ _ _) (of_each (waypoint_fault all) (of_waypoint all) 0 all)

of_sections : (all : List Section) → Means (sections_fault all)
unfolding sections_fault
of_sections all = either _ _ (of_count _ _ _ _) (of_each (section_fault all) (of_section all) 0 all)

of_rows : (rows : List (List ℤ)) → Means (separation_fault rows)
unfolding separation_fault
of_rows rows = either _ _ (of_count _ _ _ _) (of_each (row_fault (length rows)) (of_row (length rows)) 0 rows)

of_turnaround : (turnaround : Turnaround) (fleet : ℤ) → Means (tug_fault turnaround fleet)
unfolding tug_fault
of_turnaround turnaround fleet = either _ _ (of_range _ _ _ _) (either _ _ (of_range _ _ _ _) (of_range _ _ _ _))

of_ships : (p : Parts) → Means (ships_fault p)
unfolding ships_fault
of_ships p = either _ _ (of_count _ _ _ _) (of_each (ship_fault p) (of_ship p) 0 p.ships)

of_berths : (ships : List ShipParts) (berths : List BerthPair) → Means (berths_fault ships berths)
unfolding berths_fault
of_berths ships berths = either _ _ (of_count _ _ _ _) (of_each (berth_fault ships) (of_berth ships) 0 berths)

of_heights : (text : List ℕ) → Means (heights_fault text)
unfolding heights_fault
of_heights text = of_test (at places.Heights) Name (is_heights text) tt

of_after : (ships : ℤ) (i : ℕ) (a : AfterPair) → Means (after_fault ships i a)
unfolding after_fault
of_after ships i a = either _ _ (of_place _ _ _) (either _ _ (of_place _ _ _) (either _ _ (of_test (at_item places.AfterSecond i) Order (not (int_eq a.first a.second)) tt) (of_range _ _ _ _)))

of_afters : (ships : ℤ) (pairs : List AfterPair) → Means (afters_fault ships pairs)
unfolding afters_fault
of_afters ships pairs = either _ _ (of_count _ _ _ _) (of_each (after_fault ships) (of_after ships) 0 pairs)

of_port : (p : Parts) → Means (port_fault p)
unfolding port_fault
of_port p = either _ _ (of_calendar _ _ _ _) (either _ _ (of_heights _) (either _ _ (of_closed _ _ _ _ _ _ _) (either _ _ (of_waypoints _) (either _ _ (of_sections _) (either _ _ (of_rows _) (either _ _ (of_turnaround _ _) (either _ _ (of_ships _) (either _ _ (of_berths _ _) (of_afters _ _)))))))))

pub told_meaning : {A : Type 0} (r : Result A PortFault) (p : Parts) → fault_of r ≡ port_fault p → IfErr r (λ f. IsMeaning f.word)
told_meaning (Ok x) p e = tt
told_meaning (Err f) p e = subst Means (sym e) (of_port p)
