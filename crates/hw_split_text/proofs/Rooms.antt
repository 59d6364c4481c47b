-- The ranges in a branch, and what a fork makes of them.
use Rattle.std.proofs.Common.{◌≡◌, ◌↔◌, ℕ, ◌+◌, ◌-◌, ◌<◌, ◌≤◌, min, max, true, false, ◌&&◌, nat_lt, nat_le, List, [], ◌∷◌, ◌++◌, map, length, get_or, drop, drop-cons, slice_set, IsTrue, refl, sym, ap, subst, ◌∙◌, arith, add-one, length-set}
use Rattle.std.proofs.Math.ListN.{drop_of_length-le}
use Rattle.std.proofs.lemmas.List.{length-replicate}
use Rattle.std.proofs.Math.Path.{ap₂}
use Rattle.std.proofs.lemmas.Bool.{ltb-true, leb-true, lt-leb, le-ltb, and_parts, and_from}
use Rattle.std.specs.List.{list_all}
use Rattle.hw_model_laws.proofs.Bounds.{cut_room_is}
use Rattle.hw_model_laws.proofs.Cuts.{same_ships, into_cut, out_of_cut, no_order_set, full_room}
use Rattle.hw_model_laws.proofs.Denying.{denied_is}
use Rattle.hw_model_laws.proofs.Quiets.{same_slots as cut_slots}
use Rattle.hw_model.specs.declared.lit.Lit.{Lit}
use Rattle.hw_model.specs.declared.lit.Lit.TheVariants.{AtOrAfter, Before, First, NotFirst}
use Rattle.hw_model.specs.declared.lit.LitTruth.TheVariants.{Free}
use Rattle.hw_model.specs.declared.shape.Shape.{Shape}
use Rattle.hw_model.specs.Limits.{ShapeFits}
use Rattle.hw_model.specs.Lits.{lit_fits, lit_holds, IsLitOf}
use Rattle.hw_model.specs.Narrowing.{truth, cut}
use Rattle.hw_model.specs.Rooms.{RoomModel, IsRoom, Inside, low_of, high_of, whole_room}
use Rattle.hw_split_text.specs.declared.node.Node.{Node}
use Rattle.hw_split_text.specs.declared.node.Node.TheVariants.{Fork, Part}
use Rattle.hw_split_text.specs.Splits.{Branch, waiting_after, cut_by, branch_room, fork_fits, is_inside, NextFits}
use Rattle.hw_split_text.specs.Ranges.{ShipRanges, ranges_of, ended_before, begun_at, open_after}
use Rattle.hw_split_text.specs.Rooms.{OpenInTurn, HasRoom}

-- a literal more cuts last
cut_by_push : (lits : List Lit) (lit : Lit) (room : RoomModel) → cut_by (lits ++ lit ∷ []) room ≡ cut lit (cut_by lits room)
cut_by_push [] lit room = refl
cut_by_push (first ∷ lits) lit room = cut_by_push lits lit (cut first room)

cut_length : (lit : Lit) (room : RoomModel) → length (cut lit room).ranges ≡ length room.ranges
cut_length (AtOrAfter ship slot) room = length-set room.ranges ship (max (low_of room ship) slot, high_of room ship)
cut_length (Before ship slot) room = length-set room.ranges ship (low_of room ship, min (high_of room ship) (slot - 1))
cut_length (First v w) room = refl
cut_length (NotFirst v w) room = refl

cut_by_length : (lits : List Lit) (room : RoomModel) → length (cut_by lits room).ranges ≡ length room.ranges
cut_by_length [] room = refl
cut_by_length (lit ∷ lits) room = cut_by_length lits (cut lit room) ∙ cut_length lit room

-- a range for each ship
pub each_range : (shape : Shape) (branch : Branch) → length (ranges_of shape branch) ≡ shape.ships
each_range shape branch = cut_by_length branch (whole_room shape) ∙ length-replicate shape.ships (0, shape.slots - 1)

-- the ranges on both sides of a fork
before_ranges : (shape : Shape) (branch : Branch) (ship slot : ℕ) → is_inside (ranges_of shape branch) ship slot ≡ true → ranges_of shape (branch ++ Before ship slot ∷ []) ≡ ended_before ship slot (ranges_of shape branch)
before_ranges shape branch ship slot inside =
    let room : RoomModel = branch_room shape branch in
    let both = and_parts (nat_lt (low_of room ship) slot) (nat_le slot (high_of room ship)) inside in
    let low : low_of room ship < slot = ltb-true _ _ both.0 in
    let high : slot ≤ high_of room ship = leb-true _ _ both.1 in
    let end : min (high_of room ship) (slot - 1) ≡ slot - 1 = omega (arith, low, high) in
    ap (λ (r : RoomModel). r.ranges) (cut_by_push branch (Before ship slot) (whole_room shape))
    ∙ ap (λ (n : ℕ). slice_set room.ranges ship (low_of room ship, n)) end

after_ranges : (shape : Shape) (branch : Branch) (ship slot : ℕ) → is_inside (ranges_of shape branch) ship slot ≡ true → ranges_of shape (branch ++ AtOrAfter ship slot ∷ []) ≡ begun_at ship slot (ranges_of shape branch)
after_ranges shape branch ship slot inside =
    let room : RoomModel = branch_room shape branch in
    let both = and_parts (nat_lt (low_of room ship) slot) (nat_le slot (high_of room ship)) inside in
    let low : low_of room ship < slot = ltb-true _ _ both.0 in
    let begin : max (low_of room ship) slot ≡ slot = omega (arith, low) in
    ap (λ (r : RoomModel). r.ranges) (cut_by_push branch (AtOrAfter ship slot) (whole_room shape))
    ∙ ap (λ (n : ℕ). slice_set room.ranges ship (n, high_of room ship)) begin

-- the ranges in the branches that wait follow the branches
pub open_follows : (shape : Shape) (node : Node) (waiting : List Branch) → NextFits shape waiting node → open_after node (map (ranges_of shape) waiting) ≡ map (ranges_of shape) (waiting_after node waiting)
open_follows shape node [] fits = absurd fits
open_follows shape (Fork ship slot) (branch ∷ waiting) fits =
    let inside = (and_parts (lit_fits shape (AtOrAfter ship slot)) (is_inside (ranges_of shape branch) ship slot) fits).1 in
    ap₂ (λ (before after : ShipRanges). before ∷ after ∷ map (ranges_of shape) waiting) (sym (before_ranges shape branch ship slot inside)) (sym (after_ranges shape branch ship slot inside))
open_follows shape Part (branch ∷ waiting) fits = refl

-- ---- literals that are open in turn

cut_by_ships : (lits : List Lit) (room : RoomModel) → (cut_by lits room).ships ≡ room.ships
cut_by_ships [] room = refl
cut_by_ships (lit ∷ lits) room = cut_by_ships lits (cut lit room) ∙ same_ships room lit

open_push : (room : RoomModel) (lits : List Lit) (lit : Lit) → OpenInTurn room lits → IsLitOf (cut_by lits room).ships lit → truth (cut_by lits room) lit ≡ Free → OpenInTurn room (lits ++ lit ∷ [])
open_push room [] lit turn is free = (is, free, tt)
open_push room (first ∷ lits) lit turn is free = (turn.0, turn.1, open_push (cut first room) lits lit turn.2 is free)

pub both_open : (shape : Shape) (branch : Branch) (ship slot : ℕ) → fork_fits shape (branch_room shape branch).ranges ship slot ≡ true → OpenInTurn (whole_room shape) branch
    → OpenInTurn (whole_room shape) (branch ++ Before ship slot ∷ []) × OpenInTurn (whole_room shape) (branch ++ AtOrAfter ship slot ∷ [])
both_open shape branch ship slot fits turn =
    let room : RoomModel = branch_room shape branch in
    let all = and_parts (lit_fits shape (AtOrAfter ship slot)) (is_inside room.ranges ship slot) fits in
    let lit = and_parts (nat_lt ship shape.ships) (nat_le 1 slot && nat_lt slot shape.slots) all.0 in
    let inside = and_parts (nat_lt (low_of room ship) slot) (nat_le slot (high_of room ship)) all.1 in
    let in' : ship < shape.ships = ltb-true _ _ lit.0 in
    let some : 1 ≤ slot = leb-true _ _ (and_parts (nat_le 1 slot) (nat_lt slot shape.slots) lit.1).0 in
    let low : nat_le slot (low_of room ship) ≡ false = lt-leb _ _ (ltb-true _ _ inside.0) in
    let high : nat_lt (high_of room ship) slot ≡ false = le-ltb _ _ (leb-true _ _ inside.1) in
    let ships : room.ships ≡ shape.ships = cut_by_ships branch (whole_room shape) in
    let there : (ship < room.ships) × (1 ≤ slot) = (omega (arith, in', ships), some) in
    let before : truth room (Before ship slot) ≡ Free = rw (high, low) refl in
    let after : truth room (AtOrAfter ship slot) ≡ Free = rw (low, high) refl in
    (open_push (whole_room shape) branch (Before ship slot) turn there before, open_push (whole_room shape) branch (AtOrAfter ship slot) turn there after)

-- what is left of a room, cut by literals that are open in turn
record Leaves (room : RoomModel) (lits : List Lit) : Type 0 where
  is_room : IsRoom (cut_by lits room)
  same_slots : (cut_by lits room).slots ≡ room.slots
  inside : (table : List ℕ) → (Inside table (cut_by lits room) ↔ (Inside table room × IsTrue (list_all (lit_holds table) lits)))

leaves : (room : RoomModel) (lits : List Lit) → IsRoom room → OpenInTurn room lits → Leaves room lits
leaves room [] is turn = record { is_room = is; same_slots = refl; inside = λ table. ((λ h. (h, refl)), (λ h. h.0)) }
leaves room (lit ∷ lits) is turn =
    let later = leaves (cut lit room) lits (cut_room_is room lit is turn.0 turn.1) turn.2 in
    record {
      is_room = later.is_room;
      same_slots = later.same_slots ∙ cut_slots room lit;
      inside = λ table. (
        (λ h.
            let rest = (later.inside table).0 h in
            let first = out_of_cut room table lit (full_room room is) turn.0 (no_order_set room lit turn.1) rest.0 in
            (first.0, and_from _ _ first.1 rest.1)),
        (λ h.
            let both = and_parts (lit_holds table lit) (list_all (lit_holds table) lits) h.1 in
            (later.inside table).1 (into_cut room table lit (full_room room is) turn.0 h.0 both.0, both.1)),
      );
    }

pub has_room : (shape : Shape) (branch : Branch) → ShapeFits shape → OpenInTurn (whole_room shape) branch → HasRoom shape branch
has_room shape branch limits turn =
    let whole = denied_is shape [] limits refl in
    let left = leaves (whole_room shape) branch whole.is_room turn in
    record {
      is_room = record { is_room = left.is_room; same_ships = cut_by_ships branch (whole_room shape); same_slots = left.same_slots };
      inside = left.inside;
    }

-- ---- a room cut in a loop

pub record CutSoFar (shape : Shape) (lits : List Lit) (room : RoomModel) (later : List Lit) : Type 0 where
  pub turn : OpenInTurn room later
  pub same : cut_by later room ≡ branch_room shape lits

pub uncut : (shape : Shape) (lits : List Lit) → OpenInTurn (whole_room shape) lits → CutSoFar shape lits (whole_room shape) lits
uncut shape lits turn = record { turn = turn; same = refl }

lit_next : (lits : List Lit) (i : ℕ) (d : Lit) → i < length lits → drop i lits ≡ get_or lits i d ∷ drop (i + 1) lits
lit_next lits i d lt = rw (add-one, drop-cons lits i d lt) refl

pub next_open : (shape : Shape) (lits : List Lit) (room : RoomModel) (i : ℕ) (d : Lit) → i < length lits → CutSoFar shape lits room (drop i lits) → IsLitOf room.ships (get_or lits i d) × (truth room (get_or lits i d) ≡ Free)
next_open shape lits room i d lt s =
    let turn = subst (OpenInTurn room) (lit_next lits i d lt) s.turn in
    (turn.0, turn.1)

pub cut_more : (shape : Shape) (lits : List Lit) (room room' : RoomModel) (i : ℕ) (d : Lit) → i < length lits → room' ≡ cut (get_or lits i d) room → CutSoFar shape lits room (drop i lits) → CutSoFar shape lits room' (drop (i + 1) lits)
cut_more shape lits room room' i d lt e s =
    let turn = subst (OpenInTurn room) (lit_next lits i d lt) s.turn in
    record {
      turn = subst (λ r. OpenInTurn r (drop (i + 1) lits)) (sym e) turn.2;
      same = ap (cut_by (drop (i + 1) lits)) e ∙ (ap (λ (ls : List Lit). cut_by ls room) (sym (lit_next lits i d lt)) ∙ s.same);
    }

pub all_cut : (shape : Shape) (lits : List Lit) (room : RoomModel) (i : ℕ) → length lits ≤ i → CutSoFar shape lits room (drop i lits) → room ≡ branch_room shape lits
all_cut shape lits room i le s = ap (λ (ls : List Lit). cut_by ls room) (sym (drop_of_length-le lits le)) ∙ s.same
