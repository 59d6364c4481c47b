-- The room while a normal clause is denied, literal by literal: what the loop of a denial keeps.
use Rattle.std.proofs.Common.{drop, ◌≡◌, ℕ, ◌+◌, ◌<◌, ◌≤◌, true, List, ◌∷◌, Option, Some, None, length, get_or, refl, sym, subst, arith, nat_lt, nat_le}
use Rattle.std.proofs.lemmas.Bool.{and_parts, ltb-true}
use Rattle.hw_model.specs.Lits.{IsLitOf, negation, lit_fits, keeps_form, first_bad_from, IsClause}
use Rattle.hw_flat.specs.Opened.{shape_in, opened}
use Rattle.hw_lits.specs.Cuts.{LeavesSlots}
use Rattle.hw_lits.proofs.Forms.{next_of}
use Rattle.std.proofs.lemmas.List.Elements.{All-get_or}
use Rattle.hw_model.specs.declared.lit.Lit.{Lit}
use Rattle.hw_model.specs.declared.lit.Lit.TheVariants as lits
use Rattle.hw_model.specs.declared.shape.Shape.{Shape}
use Rattle.hw_model.specs.Rooms.{RoomModel, IsRoom, high_of}
use Rattle.hw_model.specs.Narrowing.{cut, denied_from, denied}
use Rattle.hw_model_laws.proofs.Denials.{no_bad, lit_of}
use Rattle.hw_model_laws.proofs.Denying.{IsDenying, own_first, room_for, denying_step, whole_denying}

-- the literals from a place on are still to be denied
pub record IsDenyingAt (shape : Shape) (all : List Lit) (place : ℕ) (room : RoomModel) : Type 0 where
  pub before : Option Lit
  pub so_far : IsDenying shape before room
  pub normal : first_bad_from shape place before (drop place all) ≡ None
  pub rest : denied_from room (drop place all) ≡ denied shape all

some_slot : (room : RoomModel) (ship : ℕ) → IsRoom room → ship < room.ships → 1 ≤ room.slots
some_slot room ship is lt =
    let high : high_of room ship < room.slots = All-get_or (λ range. range.1 < room.slots) room.ranges ship (0, 0) (omega (arith, is.each_ship)) is.in_slots in
    omega arith

pub denying_starts : (room : RoomModel) (all : List Lit) → IsRoom room → IsClause (shape_in room) all → IsDenyingAt (shape_in room) all 0 (opened room)
denying_starts room all is e = record { before = None; so_far = whole_denying (shape_in room) (λ ship lt. some_slot room ship is lt); normal = e; rest = refl }

-- what the next literal of such a list is
record IsNext (shape : Shape) (before : Option Lit) (lit : Lit) : Type 0 where
  fits : lit_fits shape lit ≡ true
  keeps : keeps_form before lit ≡ true

is_next : (shape : Shape) (all : List Lit) (place : ℕ) (room : RoomModel) (lit d : Lit) (at : IsDenyingAt shape all place room) → place < length all → lit ≡ get_or all place d → IsNext shape at.before lit
is_next shape all place room lit d at lt e =
    let here = subst (λ rest. first_bad_from shape place at.before rest ≡ None) (next_of all place lit d lt e) at.normal in
    let good = no_bad (lit_fits shape lit) (keeps_form at.before lit) _ _ _ here in
    record { fits = good.0; keeps = good.1 }

pub next_fits : (shape : Shape) (all : List Lit) (place : ℕ) (room : RoomModel) (lit d : Lit) → IsDenyingAt shape all place room → place < length all → lit ≡ get_or all place d → IsLitOf room.ships lit
next_fits shape all place room lit d at lt e =
    let n = is_next shape all place room lit d at lt e in
    subst (λ ships. IsLitOf ships lit) (sym at.so_far.ships) (lit_of shape lit n.fits)

leaves_slots : (shape : Shape) (before : Option Lit) (room : RoomModel) (lit : Lit) → IsDenying shape before room → IsLitOf room.ships lit → lit_fits shape lit ≡ true → keeps_form before lit ≡ true → LeavesSlots room lit
leaves_slots shape before room (lits.AtOrAfter ship slot) d of fits keeps = omega (arith, (d.fresh ship of.0 (own_first before ship slot keeps)).0)
leaves_slots shape before room (lits.Before ship slot) d of fits keeps =
    let p = and_parts (nat_lt ship shape.ships) _ fits in
    let q = and_parts (nat_le 1 slot) _ p.1 in
    room_for shape before room ship slot d of.0 (omega (arith, ltb-true _ _ q.1, d.slots)) keeps
leaves_slots shape before room (lits.First v w) d of fits keeps = tt
leaves_slots shape before room (lits.NotFirst v w) d of fits keeps = tt

pub next_leaves : (shape : Shape) (all : List Lit) (place : ℕ) (room : RoomModel) (lit d : Lit) → IsDenyingAt shape all place room → place < length all → lit ≡ get_or all place d → LeavesSlots room lit
next_leaves shape all place room lit d at lt e =
    let n = is_next shape all place room lit d at lt e in
    leaves_slots shape at.before room lit at.so_far (next_fits shape all place room lit d at lt e) n.fits n.keeps

pub denying_more : (shape : Shape) (all : List Lit) (place : ℕ) (room : RoomModel) (lit d : Lit) → IsDenyingAt shape all place room → place < length all → lit ≡ get_or all place d → IsDenyingAt shape all (place + 1) (cut (negation lit) room)
denying_more shape all place room lit d at lt e =
    let split : drop place all ≡ lit ∷ drop (place + 1) all = next_of all place lit d lt e in
    let here = subst (λ rest. first_bad_from shape place at.before rest ≡ None) split at.normal in
    let good = no_bad (lit_fits shape lit) (keeps_form at.before lit) _ _ _ here in
    record {
      before = Some lit;
      so_far = denying_step shape at.before lit room at.so_far good.0 good.1;
      normal = good.2;
      rest = subst (λ rest. denied_from room rest ≡ denied shape all) split at.rest;
    }
