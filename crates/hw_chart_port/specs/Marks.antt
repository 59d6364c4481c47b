-- Which marks are in a picture: those that its legend names.
use Rattle.std.specs.Prelude.{ℕ, ◌+◌, ℤ, Bool, true, false, ◌&&◌, ◌||◌, not, nat_eq, nat_lt, Option, Some, None, List, [], ◌∷◌}
use Rattle.std.specs.List.{list_any, range_with_len}
use Rattle.std.specs.Ordering.{int_eq}
use Rattle.hw_port.specs.declared.parts.AfterPair.{AfterPair}
use Rattle.hw_port.specs.Parts.{ShipParts}
use Rattle.hw_port_model.specs.Drafts.{sailing}
use Rattle.hw_port_model.specs.Numbers.{horizon_of, is_outgoing, turnaround_of, whole}
use Rattle.hw_chart.specs.declared.course.Course.{Course}
use Rattle.hw_chart.specs.declared.course.Course.TheVariants.{Unplanned, Stays, Sails}
use Rattle.hw_chart.specs.Figures.{is_reached}
use Rattle.hw_chart_port.specs.declared.marks.Mark.{Mark}
use Rattle.hw_chart_port.specs.declared.marks.Mark.TheVariants.{Tide, OfWindow, OfSailing, WholeFleet}
use Rattle.hw_chart_port.specs.declared.marks.WindowMark.{WindowMark}
use Rattle.hw_chart_port.specs.declared.marks.WindowMark.TheVariants.{MaySail, FullDraft, CouldMove, Outgoing, Incoming, Closed}
use Rattle.hw_chart_port.specs.declared.marks.SailingMark.{SailingMark}
use Rattle.hw_chart_port.specs.declared.marks.SailingMark.TheVariants.{Passes, PassesOut, HoldsTugs, TugsTurn, MustWait, WaitsOn, AtLimit, BelowFull}
use Rattle.hw_chart_port.specs.declared.reasons.Reason.TheVariants.{Shut}
use Rattle.hw_chart_port.specs.declared.sailing.Sailing.{Sailing}
use Rattle.hw_chart_port.specs.Charts.{ChartParts, course, slot_in_chart}
use Rattle.hw_chart_port.specs.Fleets.{tugs_held_in}
use Rattle.hw_chart_port.specs.Moves.{could_move}
use Rattle.hw_chart_port.specs.Reasons.{has_no_slot, keeps_in}
use Rattle.hw_chart_port.specs.Sailings.{sailing_of}
use Rattle.hw_port_windows.specs.Statuses.{full_draft}

-- ---- marks that a ship has with a timetable or without one

-- so it is in some slot of those in which ships sail
abbrev pub in_some_slot : ChartParts → (ℕ → Bool) → Bool
in_some_slot chart test = list_any test (range_with_len 0 (horizon_of chart.port))

-- a ship may sail with this draft
abbrev pub sails_at : ℤ → Option ℤ → Bool
sails_at full None = false
sails_at full (Some draft) = int_eq draft full

-- a ship has this mark; the one of closed slots where closing is a reason against a slot of its window
abbrev pub window_has : ChartParts → WindowMark → ℕ → ShipParts → Bool
window_has chart MaySail v s = not (has_no_slot chart v)
window_has chart FullDraft v s = is_outgoing s && in_some_slot chart (λ slot. sails_at (full_draft s) (sailing chart.port chart.tide v slot))
window_has chart CouldMove v s = in_some_slot chart (could_move chart.port chart.tide chart.table v)
window_has chart Outgoing v s = is_outgoing s
window_has chart Incoming v s = not (is_outgoing s)
window_has chart Closed v s = keeps_in chart v s Shut

-- one of the ships from this number on has it
abbrev pub some_window_has : ChartParts → WindowMark → ℕ → List ShipParts → Bool
some_window_has chart mark v [] = false
some_window_has chart mark v (s ∷ more) = window_has chart mark v s || some_window_has chart mark (v + 1) more

-- ---- marks of a ship that sails

-- its berth may not be clear yet
abbrev pub awaits_berth : ChartParts → ℕ → Bool
awaits_berth chart v = list_any (λ b. nat_eq (whole b.incoming) v) chart.port.berths

-- it is the second ship of a pair, and some time must pass after the first
abbrev pub waits_for : ℕ → AfterPair → Bool
waits_for v a = nat_eq (whole a.second) v && nat_lt 0 (whole a.gap)

-- it is the second ship of a pair, and sails in another slot than the first
abbrev pub waits_after : ChartParts → ℕ → AfterPair → Bool
waits_after chart v a = nat_eq (whole a.second) v && not (nat_eq (slot_in_chart chart (whole a.first)) (slot_in_chart chart (whole a.second)))

abbrev pub awaits_ship : ChartParts → ℕ → Bool
awaits_ship chart v = list_any (waits_for v) chart.port.after

abbrev pub waits_on : ChartParts → ℕ → Bool
waits_on chart v = list_any (waits_after chart v) chart.port.after

-- its draft is the allowed one, or less than the full one
abbrev pub is_at_limit : Sailing → Bool
is_at_limit g = nat_eq g.draft g.allowed

abbrev pub is_below_full : ShipParts → Sailing → Bool
is_below_full s g = is_outgoing s && not (nat_eq g.draft (whole (full_draft s)))

-- it has this mark
abbrev pub sailing_has : ChartParts → SailingMark → ℕ → ShipParts → ℕ → Bool
sailing_has chart Passes v s slot = true
sailing_has chart PassesOut v s slot = is_outgoing s
sailing_has chart HoldsTugs v s slot = nat_lt 0 (whole s.tugs)
sailing_has chart TugsTurn v s slot = nat_lt 0 (whole s.tugs) && nat_lt 0 (turnaround_of chart.port s)
sailing_has chart MustWait v s slot = awaits_berth chart v || awaits_ship chart v
sailing_has chart WaitsOn v s slot = waits_on chart v
sailing_has chart AtLimit v s slot = is_at_limit (sailing_of chart v slot)
sailing_has chart BelowFull v s slot = is_below_full s (sailing_of chart v slot)

abbrev pub course_has : ChartParts → SailingMark → ℕ → ShipParts → Course → Bool
course_has chart mark v s Unplanned = false
course_has chart mark v s Stays = false
course_has chart mark v s (Sails slot) = sailing_has chart mark v s slot

-- one of the ships from this number on has it
abbrev pub some_sailing_has : ChartParts → SailingMark → ℕ → List ShipParts → Bool
some_sailing_has chart mark v [] = false
some_sailing_has chart mark v (s ∷ more) = course_has chart mark v s (course chart v) || some_sailing_has chart mark (v + 1) more

-- ---- all marks

-- the timetable holds the whole fleet in some slot
abbrev pub is_fleet_held : ChartParts → Option (List ℕ) → Bool
is_fleet_held chart None = false
is_fleet_held chart (Some table) = is_reached (tugs_held_in chart.port table) (whole chart.port.fleet) (horizon_of chart.port)

-- the picture has this mark
abbrev pub has_mark : ChartParts → Mark → Bool
has_mark chart Tide = true
has_mark chart (OfWindow mark) = some_window_has chart mark 0 chart.port.ships
has_mark chart (OfSailing mark) = some_sailing_has chart mark 0 chart.port.ships
has_mark chart WholeFleet = is_fleet_held chart chart.table
