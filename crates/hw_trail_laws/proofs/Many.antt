-- A trail has few events: each narrows a range or sets an order.
use Rattle.std.proofs.Common.{◌≡◌, ◌⊎◌, ℕ, zero, suc, ◌+◌, ◌-◌, ◌*◌, ◌/◌, ◌<◌, ◌≤◌, min, max, Bool, true, false, List, [], ◌∷◌, ◌++◌, length, get_or, refl, sym, ap, ◌∙◌, subst, arith, inl, inr, sum_by}
use Rattle.std.proofs.lemmas.Bool.{cases_lt, cases_eq}
use Rattle.std.proofs.lemmas.List.Folds.{sum_by-replicate}
use Rattle.std.proofs.lemmas.List.Sums.{sum_by-set}
use Rattle.hw_model.specs.declared.lit.Lit.{Lit}
use Rattle.hw_model.specs.declared.lit.Lit.TheVariants.{AtOrAfter, Before, First, NotFirst}
use Rattle.hw_model.specs.declared.lit.LitTruth.TheVariants.{Free}
use Rattle.hw_model.specs.declared.order.Order.{Order}
use Rattle.hw_model.specs.declared.order.Order.TheVariants as orders
use Rattle.hw_model.specs.declared.shape.Shape.{Shape}
use Rattle.hw_model.specs.Rooms.{RoomModel, IsRoom, low_of, high_of, order_of, whole_room}
use Rattle.hw_model.specs.Narrowing.{truth, cut, with_range, with_order}
use Rattle.hw_model.specs.Lits.{IsLitOf}
use Rattle.hw_model_laws.proofs.Ranges.{new_order, other_order, cases_pair, IsFull}
use Rattle.hw_model_laws.proofs.Cuts.{full_room, no_order_set}
use Rattle.hw_model_laws.proofs.Denials.{lit_of, whole_unset}
use Rattle.hw_trail_laws.specs.Trails.{TrailModel, trail_shape, room_before, IsTrail, most_events}
use Rattle.hw_trail_laws.specs.Bridge.{event_at}
use Rattle.hw_trail_laws.proofs.Counted.{row, pairs, pairs_length, Every}
use Rattle.hw_trail_laws.proofs.Truth.{free_unknown}
use Rattle.hw_trail_laws.proofs.Knowing.{after_from, before_from}
use Rattle.hw_trail_laws.proofs.Trails.{room_known, told_at, room_suc}

-- ---- pairs

abbrev Among : ℕ → ℕ → List (ℕ × ℕ) → Type 0
Among v w [] = ⊥
Among v w (p ∷ ps) = ((p.0 ≡ v) × (p.1 ≡ w)) ⊎ Among v w ps

among_left : (v w : ℕ) (xs ys : List (ℕ × ℕ)) → Among v w xs → Among v w (xs ++ ys)
among_left v w [] ys h = absurd h
among_left v w (x ∷ xs) ys (inl h) = inl h
among_left v w (x ∷ xs) ys (inr h) = inr (among_left v w xs ys h)

among_right : (v w : ℕ) (xs ys : List (ℕ × ℕ)) → Among v w ys → Among v w (xs ++ ys)
among_right v w [] ys h = h
among_right v w (x ∷ xs) ys h = inr (among_right v w xs ys h)

less : (v k : ℕ) → v < suc k → (v ≡ k → ⊥) → v < k
less v k lt ne = grind arith

among_row : (v w k : ℕ) → v < k → Among v w (row w k)
among_row v w zero lt = absurd (omega (arith, lt))
among_row v w (suc k) lt = elim (cases_eq v k) [
  | inl e ↦ inl (sym e, refl)
  | inr ne ↦ inr (among_row v w k (less v k lt ne))
]

among_pairs : (v w n : ℕ) → v < w → w < n → Among v w (pairs n)
among_pairs v w zero lt lw = absurd (omega (arith, lw))
among_pairs v w (suc n) lt lw = elim (cases_eq w n) [
  | inl e ↦ among_left v w (row n n) (pairs n) (subst (λ (x : ℕ). Among v x (row n n)) (sym e) (among_row v n n (omega (arith, lt, e))))
  | inr ne ↦ among_right v w (row n n) (pairs n) (among_pairs v w n lt (less w n lw ne))
]

-- the pairs are of ships that there are
row_below : (w n k : ℕ) → w < n → Every (λ p. p.1 < n) (row w k)
row_below w n zero lt = tt
row_below w n (suc k) lt = (lt, row_below w n k lt)

every_both : (P : ℕ × ℕ → Type 0) (xs ys : List (ℕ × ℕ)) → Every P xs → Every P ys → Every P (xs ++ ys)
every_both P [] ys h g = g
every_both P (x ∷ xs) ys h g = (h.0, every_both P xs ys h.1 g)

pairs_below : (n m : ℕ) → n ≤ m → Every (λ p. p.1 < m) (pairs n)
pairs_below zero m le = tt
pairs_below (suc n) m le = every_both (λ p. p.1 < m) (row n n) (pairs n) (row_below n m n (omega (arith, le))) (pairs_below n m (omega (arith, le)))

-- ---- how much is left open

abbrev unset : Order → ℕ
unset orders.Unset = 1
unset orders.First = 0
unset orders.NotFirst = 0

abbrev unset_in : RoomModel → List (ℕ × ℕ) → ℕ
unset_in room [] = 0
unset_in room (p ∷ ps) = unset (order_of room p.0 p.1) + unset_in room ps

abbrev width : ℕ × ℕ → ℕ
width range = range.1 - range.0

abbrev left_open : RoomModel → ℕ
left_open room = sum_by width room.ranges + unset_in room (pairs room.ships)

-- a set order counts no more
set_one : (room : RoomModel) (v w a b : ℕ) (o : Order) → IsFull room → v < w → w < room.ships → b < room.ships → unset o ≡ 0 → unset (order_of (with_order room v w o) a b) ≤ unset (order_of room a b)
set_one room v w a b o full vw lt lb z = elim (cases_pair a b v w) [
  | inl e ↦
      let n : order_of (with_order room v w o) v w ≡ o = new_order room v w o full (omega (arith, vw, lt)) lt in
      let s : order_of (with_order room v w o) a b ≡ o = subst (λ (x : ℕ). order_of (with_order room v w o) x b ≡ o) (sym e.0) (subst (λ (x : ℕ). order_of (with_order room v w o) v x ≡ o) (sym e.1) n) in
      omega (arith, z, ap unset s)
  | inr ne ↦ omega (arith, ap unset (other_order room v w a b o lt lb ne))
]

set_here : (room : RoomModel) (v w a b : ℕ) (o : Order) → IsFull room → v < w → w < room.ships → unset o ≡ 0 → order_of room v w ≡ orders.Unset → a ≡ v → b ≡ w → unset (order_of (with_order room v w o) a b) + 1 ≤ unset (order_of room a b)
set_here room v w a b o full vw lt z free ea eb =
    let n : order_of (with_order room v w o) v w ≡ o = new_order room v w o full (omega (arith, vw, lt)) lt in
    let s : order_of (with_order room v w o) a b ≡ o = subst (λ (x : ℕ). order_of (with_order room v w o) x b ≡ o) (sym ea) (subst (λ (x : ℕ). order_of (with_order room v w o) v x ≡ o) (sym eb) n) in
    let u : order_of room a b ≡ orders.Unset = subst (λ (x : ℕ). order_of room x b ≡ orders.Unset) (sym ea) (subst (λ (x : ℕ). order_of room v x ≡ orders.Unset) (sym eb) free) in
    omega (arith, z, ap unset s, ap unset u)

unset_le : (room : RoomModel) (v w : ℕ) (o : Order) → IsFull room → v < w → w < room.ships → unset o ≡ 0 → (ps : List (ℕ × ℕ)) → Every (λ p. p.1 < room.ships) ps → unset_in (with_order room v w o) ps ≤ unset_in room ps
unset_le room v w o full vw lt z [] h = omega arith
unset_le room v w o full vw lt z (p ∷ ps) h = omega (arith, set_one room v w p.0 p.1 o full vw lt h.0 z, unset_le room v w o full vw lt z ps h.1)

unset_lt : (room : RoomModel) (v w : ℕ) (o : Order) → IsFull room → v < w → w < room.ships → unset o ≡ 0 → order_of room v w ≡ orders.Unset → (ps : List (ℕ × ℕ)) → Every (λ p. p.1 < room.ships) ps → Among v w ps → unset_in (with_order room v w o) ps + 1 ≤ unset_in room ps
unset_lt room v w o full vw lt z free [] h i = absurd i
unset_lt room v w o full vw lt z free (p ∷ ps) h (inl e) = omega (arith, set_here room v w p.0 p.1 o full vw lt z free e.0 e.1, unset_le room v w o full vw lt z ps h.1)
unset_lt room v w o full vw lt z free (p ∷ ps) h (inr i) = omega (arith, set_one room v w p.0 p.1 o full vw lt h.0 z, unset_lt room v w o full vw lt z free ps h.1 i)

order_less : (room : RoomModel) (v w : ℕ) (o : Order) → IsFull room → v < w → w < room.ships → unset o ≡ 0 → order_of room v w ≡ orders.Unset → left_open (with_order room v w o) + 1 ≤ left_open room
order_less room v w o full vw lt z free = omega (arith, unset_lt room v w o full vw lt z free (pairs room.ships) (pairs_below room.ships room.ships (omega arith)) (among_pairs v w room.ships vw lt))

range_less : (room : RoomModel) (v low high : ℕ) → IsFull room → v < room.ships → width (low, high) + 1 ≤ width (get_or room.ranges v (0, 0)) → left_open (with_range room v low high) + 1 ≤ left_open room
range_less room v low high full lt h = omega (arith, sum_by-set width room.ranges v (low, high) (0, 0) (omega (arith, lt, full.each_ship)), h)

-- of a free bound: it lies in the range
free_low : (room : RoomModel) → IsRoom room → (v k : ℕ) → v < room.ships → truth room (AtOrAfter v k) ≡ Free → (low_of room v < k) × (k ≤ high_of room v)
free_low room i v k lt e =
    let u = free_unknown room i (AtOrAfter v k) e in (
      elim (cases_lt (low_of room v) k) [ inl y ↦ y | inr y ↦ absurd (clash _ (after_from room.ships v k (low_of room v) lt y) u.0) ],
      elim (cases_lt (high_of room v) k) [ inl y ↦ absurd (clash _ (before_from room.ships v k (high_of room v) lt y) u.1) | inr y ↦ y ],
    )
  where
    clash : (b : Bool) → b ≡ true → b ≡ false → ⊥
    clash b y n = cc

free_high : (room : RoomModel) → IsRoom room → (v k : ℕ) → v < room.ships → truth room (Before v k) ≡ Free → (low_of room v < k) × (k ≤ high_of room v)
free_high room i v k lt e =
    let u = free_unknown room i (Before v k) e in (
      elim (cases_lt (low_of room v) k) [ inl y ↦ y | inr y ↦ absurd (clash _ (after_from room.ships v k (low_of room v) lt y) u.1) ],
      elim (cases_lt (high_of room v) k) [ inl y ↦ absurd (clash _ (before_from room.ships v k (high_of room v) lt y) u.0) | inr y ↦ y ],
    )
  where
    clash : (b : Bool) → b ≡ true → b ≡ false → ⊥
    clash b y n = cc

pub cut_less : (room : RoomModel) (lit : Lit) → IsRoom room → IsLitOf room.ships lit → truth room lit ≡ Free → left_open (cut lit room) + 1 ≤ left_open room
cut_less room (AtOrAfter v k) i f free =
    let b = free_low room i v k f.0 free in
    range_less room v (max (low_of room v) k) (high_of room v) (full_room room i) f.0 (omega (arith, b))
cut_less room (Before v k) i f free =
    let b = free_high room i v k f.0 free in
    range_less room v (low_of room v) (min (high_of room v) (k - 1)) (full_room room i) f.0 (omega (arith, b))
cut_less room (First v w) i f free = order_less room v w orders.First (full_room room i) f.0 f.1 refl (no_order_set room (First v w) free)
cut_less room (NotFirst v w) i f free = order_less room v w orders.NotFirst (full_room room i) f.0 f.1 refl (no_order_set room (NotFirst v w) free)

-- ---- the whole room

unset_all : (shape : Shape) (ps : List (ℕ × ℕ)) → unset_in (whole_room shape) ps ≡ length ps
unset_all shape [] = refl
unset_all shape (p ∷ ps) = omega (arith, ap unset (whole_unset shape p.0 p.1), unset_all shape ps)

less_zero : (n : ℕ) → n - 0 ≡ n
less_zero n = omega arith

whole_open : (shape : Shape) → left_open (whole_room shape) ≡ most_events shape.ships shape.slots
whole_open shape =
    let a : sum_by width (whole_room shape).ranges ≡ shape.ships * (shape.slots - 1 - 0) = sum_by-replicate width shape.ships (0, shape.slots - 1) in
    let b : shape.ships * (shape.slots - 1 - 0) ≡ shape.ships * (shape.slots - 1) = ap (λ n. shape.ships * n) (less_zero (shape.slots - 1)) in
    let c : unset_in (whole_room shape) (pairs shape.ships) ≡ length (pairs shape.ships) = unset_all shape (pairs shape.ships) in
    let d : length (pairs shape.ships) ≡ shape.ships * (shape.ships - 1) / 2 = pairs_length shape.ships in
    sums _ _ _ _ (a ∙ b) (c ∙ d)
  where
    sums : (a b x y : ℕ) → a ≡ x → b ≡ y → a + b ≡ x + y
    sums a b x y p q = omega (arith, p, q)

-- ---- the events

events_open : (t : TrailModel) → IsTrail t → (p : ℕ) → p ≤ length t.events → p + left_open (room_before t p) ≤ most_events t.ships t.slots
events_open t is zero le = omega (arith, whole_open (trail_shape t))
events_open t is (suc p) le =
    let lt : p < length t.events = omega (arith, le) in
    let k = room_known t is p (omega (arith, le)) in
    let h = told_at t is p lt in
    let f : IsLitOf (room_before t p).ships (event_at t p).lit = subst (λ n. IsLitOf n (event_at t p).lit) (sym k.of.same_ships) (lit_of (trail_shape t) (event_at t p).lit h.fits) in
    omega (arith, events_open t is p (omega (arith, le)), cut_less (room_before t p) (event_at t p).lit k.of.is_room f h.free, ap left_open (room_suc t p lt))

pub few_events : (t : TrailModel) → IsTrail t → length t.events ≤ most_events t.ships t.slots
few_events t is = omega (arith, events_open t is (length t.events) (omega arith))
