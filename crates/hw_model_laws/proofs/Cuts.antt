-- A room cut by a literal holds the timetables inside of which the literal is true.
use Rattle.std.proofs.Common.{◌≡◌, ℕ, ◌-◌, ◌<◌, ◌≤◌, min, max, List, length, slice_index, refl, ◌∙◌, arith, IsTrue, length-set}
use Rattle.std.proofs.lemmas.Bool.{ltb-true, leb-true, lt-ltb, le-leb}
use Rattle.hw_model.specs.declared.lit.Lit.{Lit}
use Rattle.hw_model.specs.declared.lit.Lit.TheVariants as lits
use Rattle.hw_model.specs.declared.lit.LitTruth.TheVariants.{Free}
use Rattle.hw_model.specs.declared.order.Order.{Order}
use Rattle.hw_model.specs.declared.order.Order.TheVariants.{Unset, First, NotFirst}
use Rattle.hw_model.specs.Lits.{lit_holds, IsLitOf}
use Rattle.hw_model.specs.Rooms.{RoomModel, Inside, IsRoom, order_of, low_of, high_of}
use Rattle.hw_model.specs.Narrowing.{truth, cut, first_truth, not_first_truth}
use Rattle.hw_model_laws.proofs.Ranges.{IsFull, from_new_range, inside_with_range, inside_before_range, inside_with_order, inside_before_order, from_new_order}

-- the order that the literal names, if it names one, isn't set
abbrev pub NoOrderSet : RoomModel → Lit → Type 0
NoOrderSet room (lits.AtOrAfter ship slot) = Unit {0}
NoOrderSet room (lits.Before ship slot) = Unit {0}
NoOrderSet room (lits.First v w) = order_of room v w ≡ Unset
NoOrderSet room (lits.NotFirst v w) = order_of room v w ≡ Unset

pub full_cut : (room : RoomModel) (lit : Lit) → IsFull room → IsFull (cut lit room)
full_cut room (lits.AtOrAfter ship slot) full = record { each_ship = length-set room.ranges ship _ ∙ full.each_ship; each_pair = full.each_pair }
full_cut room (lits.Before ship slot) full = record { each_ship = length-set room.ranges ship _ ∙ full.each_ship; each_pair = full.each_pair }
full_cut room (lits.First v w) full = record { each_ship = full.each_ship; each_pair = length-set room.orders _ _ ∙ full.each_pair }
full_cut room (lits.NotFirst v w) full = record { each_ship = full.each_ship; each_pair = length-set room.orders _ _ ∙ full.each_pair }

pub same_ships : (room : RoomModel) (lit : Lit) → (cut lit room).ships ≡ room.ships
same_ships room (lits.AtOrAfter ship slot) = refl
same_ships room (lits.Before ship slot) = refl
same_ships room (lits.First v w) = refl
same_ships room (lits.NotFirst v w) = refl

pub into_cut : (room : RoomModel) (table : List ℕ) (lit : Lit) → IsFull room → IsLitOf room.ships lit → Inside table room → IsTrue (lit_holds table lit) → Inside table (cut lit room)
into_cut room table (lits.AtOrAfter ship slot) full fits h t =
    let in' : ship < length room.ranges = omega (arith, fits.0, full.each_ship) in
    let at : slot ≤ slice_index table ship = leb-true _ _ t in
    let low : low_of room ship ≤ slice_index table ship = (h.ranges ship fits.0).0 in
    inside_with_range room table ship _ _ in' h (omega (arith, at, low)) (h.ranges ship fits.0).1
into_cut room table (lits.Before ship slot) full fits h t =
    let in' : ship < length room.ranges = omega (arith, fits.0, full.each_ship) in
    let at : slice_index table ship < slot = ltb-true _ _ t in
    let high : slice_index table ship ≤ high_of room ship = (h.ranges ship fits.0).1 in
    inside_with_range room table ship _ _ in' h (h.ranges ship fits.0).0 (omega (arith, at, high))
into_cut room table (lits.First v w) full fits h t = inside_with_order room table v w First full fits.0 fits.1 h t
into_cut room table (lits.NotFirst v w) full fits h t = inside_with_order room table v w NotFirst full fits.0 fits.1 h t

pub out_of_cut : (room : RoomModel) (table : List ℕ) (lit : Lit) → IsFull room → IsLitOf room.ships lit → NoOrderSet room lit → Inside table (cut lit room) → Inside table room × IsTrue (lit_holds table lit)
out_of_cut room table (lits.AtOrAfter ship slot) full fits free h =
    let in' : ship < length room.ranges = omega (arith, fits.0, full.each_ship) in
    let within = from_new_range room ship (max (low_of room ship) slot) (high_of room ship) (slice_index table ship) in' (h.ranges ship fits.0) in
    let low : low_of room ship ≤ slice_index table ship = omega (arith, within.0) in
    let at : slot ≤ slice_index table ship = omega (arith, within.0) in
    (inside_before_range room table ship _ _ h (low, within.1), le-leb _ _ at)
out_of_cut room table (lits.Before ship slot) full fits free h =
    let in' : ship < length room.ranges = omega (arith, fits.0, full.each_ship) in
    let within = from_new_range room ship (low_of room ship) (min (high_of room ship) (slot - 1)) (slice_index table ship) in' (h.ranges ship fits.0) in
    let high : slice_index table ship ≤ high_of room ship = omega (arith, within.1) in
    let at : slice_index table ship < slot = omega (arith, within.1, fits.1) in
    (inside_before_range room table ship _ _ h (within.0, high), lt-ltb _ _ at)
out_of_cut room table (lits.First v w) full fits free h = (inside_before_order room table v w First fits.1 free h, from_new_order room table v w First full fits.0 fits.1 h)
out_of_cut room table (lits.NotFirst v w) full fits free h = (inside_before_order room table v w NotFirst fits.1 free h, from_new_order room table v w NotFirst full fits.0 fits.1 h)

first_free : (o : Order) → first_truth o ≡ Free → o ≡ Unset
first_free Unset e = refl
first_free First e = absurd cc
first_free NotFirst e = absurd cc

not_first_free : (o : Order) → not_first_truth o ≡ Free → o ≡ Unset
not_first_free Unset e = refl
not_first_free First e = absurd cc
not_first_free NotFirst e = absurd cc

pub no_order_set : (room : RoomModel) (lit : Lit) → truth room lit ≡ Free → NoOrderSet room lit
no_order_set room (lits.AtOrAfter ship slot) e = tt
no_order_set room (lits.Before ship slot) e = tt
no_order_set room (lits.First v w) e = first_free _ e
no_order_set room (lits.NotFirst v w) e = not_first_free _ e

pub full_room : (room : RoomModel) → IsRoom room → IsFull room
full_room room is = record { each_ship = is.each_ship; each_pair = is.each_pair }
