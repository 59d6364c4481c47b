-- Rooms of the same numbers, ranges and orders are one room.
use Rattle.std.proofs.Common.{◌≡◌, ℕ, ◌+◌, ◌*◌, ◌/◌, ◌%◌, ◌<◌, ◌≤◌, List, length, get_or, refl, sym, ◌∙◌, ap, subst, arith, inl, inr}
use Rattle.std.proofs.lemmas.Bool.{cases_lt}
use Rattle.std.proofs.lemmas.List.{ext_get_or}
use Rattle.std.proofs.lemmas.Nat.{div-add-mod', rows}
use Rattle.hw_model.specs.declared.order.Order.{Order}
use Rattle.hw_model.specs.declared.order.Order.TheVariants.{Unset}
use Rattle.hw_model.specs.Rooms.{RoomModel, IsRoom, low_of, high_of, order_of}

both : (p q : ℕ × ℕ) → p.0 ≡ q.0 → p.1 ≡ q.1 → p ≡ q
both (a, b) (c, d) e g = ap (λ x. (x, b)) e ∙ ap (λ y. (c, y)) g

row_in : (i n v w : ℕ) → i < n * n → v * n + w ≡ i → v < n
row_in i n v w lt e = grind (arith, rows)

remainder : (i n : ℕ) → 1 ≤ n → i % n < n
remainder i n some = grind arith

some_row : (i n : ℕ) → i < n * n → 1 ≤ n
some_row i n lt = grind (arith, rows)

same_order : (n : ℕ) (xs ys : List Order) → ((v w : ℕ) → v < w → w < n → get_or xs (v * n + w) Unset ≡ get_or ys (v * n + w) Unset)
    → ((v w : ℕ) → w ≤ v → v < n → get_or xs (v * n + w) Unset ≡ Unset) → ((v w : ℕ) → w ≤ v → v < n → get_or ys (v * n + w) Unset ≡ Unset)
    → (i : ℕ) → i < n * n → get_or xs i Unset ≡ get_or ys i Unset
same_order n xs ys pairs none none' i lt =
    let at : i / n * n + i % n ≡ i = div-add-mod' i n in
    let right : i % n < n = remainder i n (some_row i n lt) in
    let row : i / n < n = row_in i n (i / n) (i % n) lt at in
    subst (λ k. get_or xs k Unset ≡ get_or ys k Unset) at (elim (cases_lt (i / n) (i % n)) [
      | inl less ↦ pairs (i / n) (i % n) less right
      | inr ge ↦ none (i / n) (i % n) ge row ∙ sym (none' (i / n) (i % n) ge row)
    ])

rebuilt : (a b : RoomModel) → a.ships ≡ b.ships → a.slots ≡ b.slots → a.ranges ≡ b.ranges → a.orders ≡ b.orders → a ≡ b
rebuilt a b p q r s = rw (p, q, r, s) refl

pub same_room : (a b : RoomModel) → IsRoom a → IsRoom b → a.ships ≡ b.ships → a.slots ≡ b.slots
    → ((ship : ℕ) → ship < a.ships → (low_of a ship ≡ low_of b ship) × (high_of a ship ≡ high_of b ship))
    → ((v w : ℕ) → v < w → w < a.ships → order_of a v w ≡ order_of b v w) → a ≡ b
same_room a b isa isb ships slots ranges pairs =
    let same_ranges : a.ranges ≡ b.ranges = ext_get_or (0, 0) a.ranges b.ranges (isa.each_ship ∙ ships ∙ sym isb.each_ship) (λ ship lt.
    let r = ranges ship (omega (arith, lt, isa.each_ship)) in
    both _ _ r.0 r.1) in
    let pairs' : (v w : ℕ) → v < w → w < a.ships → get_or a.orders (v * a.ships + w) Unset ≡ get_or b.orders (v * a.ships + w) Unset = λ v w vw lt.
    pairs v w vw lt ∙ ap (λ n. get_or b.orders (v * n + w) Unset) (sym ships) in
    let none' : (v w : ℕ) → w ≤ v → v < a.ships → get_or b.orders (v * a.ships + w) Unset ≡ Unset = λ v w le lt.
    ap (λ n. get_or b.orders (v * n + w) Unset) ships ∙ isb.no_pair v w le (omega (arith, lt, ships)) in
    let long : length a.orders ≡ length b.orders = isa.each_pair ∙ ap (λ n. n * n) ships ∙ sym isb.each_pair in
    let same_orders : a.orders ≡ b.orders = ext_get_or Unset a.orders b.orders long (λ i lt. same_order a.ships a.orders b.orders pairs' isa.no_pair none' i (subst (λ n. i < n) isa.each_pair lt)) in
    rebuilt a b ships slots same_ranges same_orders
