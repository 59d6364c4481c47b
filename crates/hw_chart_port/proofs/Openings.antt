-- The flags of moves, for a port.
use Rattle.std.proofs.Common.{◌≡◌, ◌+◌, ◌*◌, ◌<◌, ◌∙◌, ℕ, false, List, Option, Some, None, IfSome, option_map, ap, length, slice_index_or, slice_set, arith}
use Rattle.hw_model.specs.Problem.{horizon}
use Rattle.hw_port.specs.Whole.{Parts}
use Rattle.hw_tide.specs.Levels.{TideParts}
use Rattle.hw_port_model.specs.Numbers.{horizon_of}
use Rattle.hw_port_model.specs.Flattened.{flattened}
use Rattle.hw_port_laws.proofs.Permits.{same_permitted_law}
use Rattle.hw_port_laws.proofs.Rows.{horizon_is, slots_above, slots_are}
use Rattle.hw_chart_port.specs.Laws.{MovesArePermitted}
use Rattle.hw_chart_port.specs.Moves.{HasMoves, could_move}
use Rattle.hw_chart_flat.specs.Moves.{IsPlan, PlanModel, move_is_open}
use Rattle.hw_chart_flat.proofs.Tested.{open_permits, same_open}

-- a flag is whether the slot is open by the port's flat problem
pub flag_is : (p : Parts) (h : TideParts) (plan : PlanModel) (ship slot : ℕ) → IsPlan (flattened p h) plan → ship < length p.ships → slot < horizon_of p → slice_index_or plan.flags (ship * 512 + slot) false ≡ move_is_open (flattened p h) plan.table ship slot
flag_is p h plan ship slot is ship_in slot_in =
    let inside : slot < horizon (flattened p h) = rw (horizon_is p h) slot_in in
    let count = slots_are p h in
    let above = slots_above p in
    let below : slot < (flattened p h).slots = omega (arith, slot_in, count, above) in
    same_open (flattened p h) plan.table ship slot (slice_index_or plan.flags (ship * 512 + slot) false) is.listed below (is.flagged ship slot ship_in inside)

-- the same where the timetable is one of a chart
pub open_is : (p : Parts) (h : TideParts) (table : Option (List ℕ)) (plan : PlanModel) (ship slot : ℕ) → Some plan.table ≡ table → IsPlan (flattened p h) plan → ship < length p.ships → slot < horizon_of p → slice_index_or plan.flags (ship * 512 + slot) false ≡ could_move p h table ship slot
open_is p h table plan ship slot e is ship_in slot_in = flag_is p h plan ship slot is ship_in slot_in ∙ ap (λ t. could_move p h t ship slot) e

-- a ship could move exactly where the port permits that
pub moves_permitted : MovesArePermitted
moves_permitted p h table ship slot kept listed slot_in =
    let count = slots_are p h in
    let above = slots_above p in
    let below : slot < (flattened p h).slots = omega (arith, slot_in, count, above) in
    let open_there = open_permits (flattened p h) table ship slot listed below in
    let same = same_permitted_law p h (slice_set table ship slot) kept in
    (λ e. same.1 (open_there.0 e), λ permits. open_there.1 (same.0 permits))

-- a timetable that has its moves has a slot for each ship
pub listed_by : {X : Type 0} (f : X → PlanModel) (p : Parts) (h : TideParts) (o : Option X) → HasMoves p h (option_map f o) → IfSome (option_map (λ x. (f x).table) o) (λ table. length table ≡ length p.ships)
listed_by f p h None has = tt
listed_by f p h (Some x) has = has.listed.each_ship
