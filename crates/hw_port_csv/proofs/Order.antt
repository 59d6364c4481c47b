-- The ships of a table: those of the timetable, each once, by their slots.
use Rattle.std.proofs.Common.{◌≡◌, ◌⊎◌, ◌∙◌, ◌+◌, ◌<◌, ◌≤◌, ◌++◌, ℕ, zero, suc, nat_eq, Bool, true, false, cond, List, [], ◌∷◌, Contains, Option, Some, None, slice_get, refl, sym, ap, subst, inl, inr, arith}
use Rattle.std.specs.Prelude.{IsTrue}
use Rattle.std.proofs.lemmas.Bool.{cases_Bool, eq-eqb, eqb-true}
use Rattle.std.proofs.lemmas.Option.{same_Some}
use Rattle.std.proofs.lemmas.List.Elements.{All-contains, Contains-append_left, Contains-append_right}
use Rattle.hw_port.specs.Parts.{ShipParts}
use Rattle.hw_port.specs.Whole.{Parts}
use Rattle.hw_port_laws.proofs.Eachs.{Each, all_of_each, each_get, each_join, each_of_all, each_weaker}
use Rattle.hw_port_model.specs.Numbers.{horizon_of, some_may_stay}
use Rattle.hw_port_model.specs.Timetables.{IsGiven}
use Rattle.hw_port_csv.specs.Entries.{ShipEntry, entries, entries_from, entries_in, entry_in, has_slot, is_slot}
use Rattle.hw_port_csv.specs.Laws.{InOrder, EntryPrecedes, ShipsInOrder}

-- ---- in order

abbrev Ordered : List ShipEntry → Type 0
Ordered [] = Unit {0}
Ordered (e ∷ more) = Each (EntryPrecedes e) more × Ordered more

ordered_join : (xs ys : List ShipEntry) → Ordered xs → Ordered ys → Each (λ e. Each (EntryPrecedes e) ys) xs → Ordered (xs ++ ys)
ordered_join [] ys o r before = r
ordered_join (x ∷ xs) ys o r before = (each_join (EntryPrecedes x) xs ys o.0 before.0, ordered_join xs ys o.1 r before.1)

in_order : (xs : List ShipEntry) → Ordered xs → InOrder xs
in_order [] o = tt
in_order (x ∷ xs) o = (all_of_each (EntryPrecedes x) xs o.0, in_order xs o.1)

module _ (table : List ℕ) where
  -- an entry of this slot, with a number from this one on
  record IsAt (slot v : ℕ) (e : ShipEntry) : Type 0 where
    at : e.slot ≡ slot
    from : v ≤ e.number

  one_by : (b : Bool) (P : ShipEntry → Type 0) (e : ShipEntry) → P e → Each P (cond b (e ∷ []) [])
  one_by true P e h = (h, tt)
  one_by false P e h = tt

  ordered_by : (b : Bool) (e : ShipEntry) → Ordered (cond b (e ∷ []) [])
  ordered_by true e = (tt, tt)
  ordered_by false e = tt

  at_slot : (slot v : ℕ) (ships : List ShipParts) → Each (IsAt slot v) (entries_in table slot v ships)
  at_slot slot v [] = tt
  at_slot slot v (s ∷ more) = each_join (IsAt slot v) (entry_in table slot v s) (entries_in table slot (v + 1) more)
      (one_by (has_slot table slot v) (IsAt slot v) (record { number = v; ship = s; slot = slot }) (record { at = refl; from = omega arith }))
      (each_weaker (IsAt slot (v + 1)) (IsAt slot v) (entries_in table slot (v + 1) more) (λ e a. let le = a.from in record { at = a.at; from = omega (arith, le) }) (at_slot slot (v + 1) more))

  slot_ordered : (slot v : ℕ) (ships : List ShipParts) → Ordered (entries_in table slot v ships)
  slot_ordered slot v [] = tt
  slot_ordered slot v (s ∷ more) =
      let e : ShipEntry = record { number = v; ship = s; slot = slot } in
      ordered_join (entry_in table slot v s) (entries_in table slot (v + 1) more)
      (ordered_by (has_slot table slot v) e)
      (slot_ordered slot (v + 1) more)
      (one_by (has_slot table slot v) (λ x. Each (EntryPrecedes x) (entries_in table slot (v + 1) more)) e
      (each_weaker (IsAt slot (v + 1)) (EntryPrecedes e) (entries_in table slot (v + 1) more) (λ f a. let le = a.from in inr (sym a.at, omega (arith, le))) (at_slot slot (v + 1) more)))

  -- an entry of a slot from this one on
  from_slot : (ships : List ShipParts) (slot count : ℕ) → Each (λ e. slot ≤ e.slot) (entries_from table ships slot count)
  from_slot ships slot zero = tt
  from_slot ships slot (suc count) = each_join (λ e. slot ≤ e.slot) (entries_in table slot 0 ships) (entries_from table ships (slot + 1) count)
      (each_weaker (IsAt slot 0) (λ e. slot ≤ e.slot) (entries_in table slot 0 ships) (λ e a. let same = a.at in omega (arith, same)) (at_slot slot 0 ships))
      (each_weaker (λ e. slot + 1 ≤ e.slot) (λ e. slot ≤ e.slot) (entries_from table ships (slot + 1) count) (λ e le. omega (arith, le)) (from_slot ships (slot + 1) count))

  all_ordered : (ships : List ShipParts) (slot count : ℕ) → Ordered (entries_from table ships slot count)
  all_ordered ships slot zero = tt
  all_ordered ships slot (suc count) = ordered_join (entries_in table slot 0 ships) (entries_from table ships (slot + 1) count)
      (slot_ordered slot 0 ships)
      (all_ordered ships (slot + 1) count)
      (each_weaker (IsAt slot 0) (λ e. Each (EntryPrecedes e) (entries_from table ships (slot + 1) count)) (entries_in table slot 0 ships)
      (λ e a. let same = a.at in each_weaker (λ f. slot + 1 ≤ f.slot) (EntryPrecedes e) (entries_from table ships (slot + 1) count) (λ f le. inl (omega (arith, same, le))) (from_slot ships (slot + 1) count))
      (at_slot slot 0 ships))

  -- ---- what is listed was given

  slot_by : (slot : ℕ) (o : Option ℕ) → is_slot slot o ≡ true → o ≡ Some slot
  slot_by slot None e = absurd cc
  slot_by slot (Some given) e = ap (λ (n : ℕ). Some n) (eqb-true given slot e)

  -- a ship of these, with its number from v on, and the slot that the timetable gives it
  record IsOf (v : ℕ) (ships : List ShipParts) (e : ShipEntry) : Type 0 where
    place : ℕ
    number : e.number ≡ v + place
    ship : slice_get ships place ≡ Some e.ship
    given : slice_get table e.number ≡ Some e.slot

  later : (v : ℕ) (s : ShipParts) (ships : List ShipParts) (e : ShipEntry) → IsOf (v + 1) ships e → IsOf v (s ∷ ships) e
  later v s ships e is = let n = is.number in record { place = suc is.place; number = omega (arith, n); ship = is.ship; given = is.given }

  first_by : (b : Bool) (v slot : ℕ) (s : ShipParts) (ships : List ShipParts) → has_slot table slot v ≡ b → Each (IsOf v (s ∷ ships)) (cond b (record { number = v; ship = s; slot = slot } ∷ []) [])
  first_by true v slot s ships e = (record { place = 0; number = omega arith; ship = refl; given = slot_by slot (slice_get table v) e }, tt)
  first_by false v slot s ships e = tt

  of_slot : (slot v : ℕ) (ships : List ShipParts) → Each (IsOf v ships) (entries_in table slot v ships)
  of_slot slot v [] = tt
  of_slot slot v (s ∷ more) = each_join (IsOf v (s ∷ more)) (entry_in table slot v s) (entries_in table slot (v + 1) more)
      (first_by (has_slot table slot v) v slot s more refl)
      (each_weaker (IsOf (v + 1) more) (IsOf v (s ∷ more)) (entries_in table slot (v + 1) more) (λ e is. later v s more e is) (of_slot slot (v + 1) more))

  of_all : (ships : List ShipParts) (slot count : ℕ) → Each (IsOf 0 ships) (entries_from table ships slot count)
  of_all ships slot zero = tt
  of_all ships slot (suc count) = each_join (IsOf 0 ships) (entries_in table slot 0 ships) (entries_from table ships (slot + 1) count) (of_slot slot 0 ships) (of_all ships (slot + 1) count)

  -- ---- what was given is listed

  itself : (n : ℕ) → nat_eq n n ≡ true
  itself n = eq-eqb n n refl

  has_by : (b : Bool) (e : ShipEntry) → b ≡ true → Contains (cond b (e ∷ []) []) e
  has_by true e is = (0, omega arith, refl)
  has_by false e is = absurd cc

  listed_in : (slot v n place : ℕ) (s : ShipParts) (ships : List ShipParts) → n ≡ v + place → slice_get ships place ≡ Some s → has_slot table slot n ≡ true → Contains (entries_in table slot v ships) (record { number = n; ship = s; slot = slot })
  listed_in slot v n place s [] e at has = absurd cc
  listed_in slot v n zero s (r ∷ more) e at has =
      let same : n ≡ v = omega (arith, e) in
      let ship : r ≡ s = same_Some r s at in
      Contains-append_left (entry_in table slot v r) (entries_in table slot (v + 1) more) (record { number = n; ship = s; slot = slot })
      (subst (λ (m : ℕ). Contains (entry_in table slot m r) (record { number = n; ship = s; slot = slot })) same
      (subst (λ (q : ShipParts). Contains (entry_in table slot n q) (record { number = n; ship = s; slot = slot })) (sym ship) (has_by (has_slot table slot n) (record { number = n; ship = s; slot = slot }) has)))
  listed_in slot v n (suc place) s (r ∷ more) e at has =
      Contains-append_right (entry_in table slot v r) (entries_in table slot (v + 1) more) (record { number = n; ship = s; slot = slot })
      (listed_in slot (v + 1) n place s more (omega (arith, e)) at has)

  listed_from : (ships : List ShipParts) (first count : ℕ) (e : ShipEntry) → first ≤ e.slot → e.slot < first + count → Contains (entries_in table e.slot 0 ships) e → Contains (entries_from table ships first count) e
  listed_from ships first zero e low high is = absurd (omega (arith, low, high))
  listed_from ships first (suc count) e low high is = elim (cases_Bool (nat_eq first e.slot)) [
    | inl same ↦ Contains-append_left (entries_in table first 0 ships) (entries_from table ships (first + 1) count) e (subst (λ (slot : ℕ). Contains (entries_in table slot 0 ships) e) (sym (eqb-true first e.slot same)) is)
    | inr other ↦ (
        let apart : first ≡ e.slot → ⊥ = λ same. absurd (cc (sym other ∙ ap (nat_eq first) (sym same) ∙ itself first)) in
        Contains-append_right (entries_in table first 0 ships) (entries_from table ships (first + 1) count) e (listed_from ships (first + 1) count e (omega (arith, low, apart)) (omega (arith, high)) is))
  ]

-- ---- both

given_of : (p : Parts) (table : List ℕ) (e : ShipEntry) → IsOf table 0 p.ships e → IsGiven p table e.number e.ship e.slot
given_of p table e is = let n = is.number in record { ship = subst (λ (k : ℕ). slice_get p.ships k ≡ Some e.ship) (omega (arith, n)) is.ship; given = is.given }

small_by : (p : Parts) (slot : ℕ) {A : Type 0} → (slot < horizon_of p) ⊎ ((slot ≡ horizon_of p) × A) → slot < 0 + (horizon_of p + 1)
small_by p slot (inl lt) = omega (arith, lt)
small_by p slot (inr same) = let e = same.0 in omega (arith, e)

pub order_law : ShipsInOrder
order_law = record {
  ordered = λ p table. in_order (entries p table) (all_ordered table p.ships 0 (horizon_of p + 1));
  told = λ p table e is. (
    λ listed. given_of p table e (All-contains (IsOf table 0 p.ships) (entries p table) e (all_of_each (IsOf table 0 p.ships) (entries p table) (of_all table p.ships 0 (horizon_of p + 1))) listed),
    λ given.
        let has : has_slot table e.slot e.number ≡ true = ap (is_slot e.slot) given.given ∙ itself table e.slot in
        let slots : ℕ → Type 0 = λ slot. (slot < horizon_of p) ⊎ ((slot ≡ horizon_of p) × IsTrue (some_may_stay p)) in
        let small : e.slot < 0 + (horizon_of p + 1) = small_by p e.slot {A = IsTrue (some_may_stay p)} (each_get slots table e.number e.slot (each_of_all slots table is.each_slot) given.given) in
        listed_from table p.ships 0 (horizon_of p + 1) e (omega arith) small (listed_in table e.slot 0 e.number e.number e.ship p.ships (omega arith) given.ship has),
  );
}
