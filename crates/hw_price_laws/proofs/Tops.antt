-- The ships' best balances together tell what a room earns at most.
use Rattle.std.proofs.Common.{◌≡◌, ◌⊎◌, ◌↔◌, ℕ, zero, suc, ◌+◌, ◌-◌, ◌*◌, ◌<◌, ◌≤◌, Bool, true, false, cond, nat_lt, List, [], ◌∷◌, Option, Some, None, length, get_or, fold, option_map, IsTrue, All, refl, sym, ap, ◌∙◌, subst, arith, inl, inr, le_refl}
use Rattle.std.proofs.lemmas.Bool.{cases_eq, ltb-true, ltb-false, lt-ltb}
use Rattle.std.proofs.lemmas.Option.{same_Some}
use Rattle.std.specs.List.{range_with_len}
use Rattle.hw_model.specs.Problem.{Problem, value_at}
use Rattle.hw_model.specs.Limits.{IsFlat}
use Rattle.hw_model.specs.Timetables.{cargo_from, plus}
use Rattle.hw_model.specs.Rooms.{RoomModel, InRange, low_of, high_of}
use Rattle.hw_model_laws.proofs.Cargoes.{plus_parts}
use Rattle.hw_price_laws.specs.declared.tariff.Balance.{Balance}
use Rattle.hw_price_laws.specs.declared.tariff.Tariff.{Tariff}
use Rattle.hw_price_laws.specs.declared.toll.Toll.{Toll}
use Rattle.hw_price_laws.specs.Tolls.{IsToll}
use Rattle.hw_price_laws.specs.Prices.{InRanges, PricesRefute, paid, allowance, aim}
use Rattle.hw_price_laws.specs.Computed.{pays, balance, better, best_balance, together, best_balances, falls_short, prices_refute}
use Rattle.hw_price_laws.proofs.Sums.{over}
use Rattle.hw_price_laws.proofs.Taken.{paid_over}

-- ---- the better of balances

-- the first balance is no better than the second, and none than any
abbrev pub NoBetter : Option Balance → Option Balance → Type 0
NoBetter None b = Unit {0}
NoBetter (Some a) None = ⊥
NoBetter (Some a) (Some b) = a.gain + b.cost ≤ b.gain + a.cost

no_better_itself : (a : Option Balance) → NoBetter a a
no_better_itself None = tt
no_better_itself (Some a) = le_refl _

no_better_trans : (a b c : Option Balance) → NoBetter a b → NoBetter b c → NoBetter a c
no_better_trans None b c p q = tt
no_better_trans (Some a) None c p q = absurd p
no_better_trans (Some a) (Some b) None p q = absurd q
no_better_trans (Some a) (Some b) (Some c) p q = omega (arith, p, q)

first_no_better : (a b : Option Balance) → NoBetter a (better a b)
first_no_better None b = tt
first_no_better (Some a) None = le_refl _
first_no_better (Some a) (Some b) = by (nat_lt (a.gain + b.cost) (b.gain + a.cost)) refl
  where
    by : (t : Bool) → nat_lt (a.gain + b.cost) (b.gain + a.cost) ≡ t → NoBetter (Some a) (cond t (Some b) (Some a))
    by true e = omega (arith, ltb-true _ _ e)
    by false e = le_refl _

second_no_better : (a b : Option Balance) → NoBetter b (better a b)
second_no_better None b = no_better_itself b
second_no_better (Some a) None = tt
second_no_better (Some a) (Some b) = by (nat_lt (a.gain + b.cost) (b.gain + a.cost)) refl
  where
    by : (t : Bool) → nat_lt (a.gain + b.cost) (b.gain + a.cost) ≡ t → NoBetter (Some b) (cond t (Some b) (Some a))
    by true e = le_refl _
    by false e = omega (arith, ltb-false _ _ e)

better_is_one : (a b : Option Balance) → (better a b ≡ a) ⊎ (better a b ≡ b)
better_is_one None b = inr refl
better_is_one (Some a) None = inl refl
better_is_one (Some a) (Some b) = by (nat_lt (a.gain + b.cost) (b.gain + a.cost))
  where
    by : (t : Bool) → (cond t (Some b) (Some a) ≡ Some a) ⊎ (cond t (Some b) (Some a) ≡ Some b)
    by true = inr refl
    by false = inl refl

-- ---- the best of a range

pub best_kept : (h : ℕ → Option Balance) (a n : ℕ) (m : Option Balance) → NoBetter m (fold (λ most k. better most (h k)) m (range_with_len a n))
best_kept h a zero m = no_better_itself m
best_kept h a (suc n) m = no_better_trans m (better m (h a)) _ (first_no_better m (h a)) (best_kept h (a + 1) n (better m (h a)))

pub best_at : (h : ℕ → Option Balance) (a n : ℕ) (m : Option Balance) (k : ℕ) → a ≤ k → k < a + n → NoBetter (h k) (fold (λ most k. better most (h k)) m (range_with_len a n))
best_at h a zero m k le lt = absurd (omega (arith, le, lt))
best_at h a (suc n) m k le lt = elim (cases_eq k a) [
  | inl same ↦ subst (λ i. NoBetter (h i) (fold (λ most k. better most (h k)) m (range_with_len a (suc n)))) (sym same) (no_better_trans (h a) (better m (h a)) _ (second_no_better m (h a)) (best_kept h (a + 1) n (better m (h a))))
  | inr ne ↦ best_at h (a + 1) n (better m (h a)) k (further a k le ne) (omega (arith, lt))
]
  where
    further : (a k : ℕ) → a ≤ k → (k ≡ a → ⊥) → a + 1 ≤ k
    further a k le ne = grind arith

-- the best is the one to begin with or that of a slot
pub best_reached : (h : ℕ → Option Balance) (a n : ℕ) (m : Option Balance) → (fold (λ most k. better most (h k)) m (range_with_len a n) ≡ m) ⊎ ((k : ℕ) × (a ≤ k) × (k < a + n) × (fold (λ most k. better most (h k)) m (range_with_len a n) ≡ h k))
best_reached h a zero m = inl refl
best_reached h a (suc n) m = elim (best_reached h (a + 1) n (better m (h a))) [
  | inl e ↦ elim (better_is_one m (h a)) [
    | inl first ↦ inl (e ∙ first)
    | inr second ↦ inr (a, le_refl a, omega arith, e ∙ second)
  ]
  | inr r ↦ inr (r.0, omega (arith, r.1), omega (arith, r.2), r.3)
]

-- ---- a list of slots from a ship on

-- each slot lies in its ship's range
abbrev pub RangesFrom : RoomModel → ℕ → List ℕ → Type 0
RangesFrom room ship [] = Unit {0}
RangesFrom room ship (slot ∷ slots) = InRange room ship slot × RangesFrom room (ship + 1) slots

pub ranges_from : (room : RoomModel) (ship : ℕ) (slots : List ℕ) → ((k : ℕ) → k < length slots → InRange room (ship + k) (get_or slots k 0)) → RangesFrom room ship slots
ranges_from room ship [] h = tt
ranges_from room ship (slot ∷ slots) h =
    let first : InRange room (ship + 0) slot = h 0 (omega arith) in
    let at : ship + 0 ≡ ship = omega arith in (
      subst (λ s. InRange room s slot) at first,
      ranges_from room (ship + 1) slots (λ k lt.
          let later : InRange room (ship + suc k) (get_or slots k 0) = h (suc k) (omega (arith, lt)) in
          subst (λ s. InRange room s (get_or slots k 0)) (moved ship k) later),
    )
  where
    moved : (ship k : ℕ) → ship + suc k ≡ ship + 1 + k
    moved ship k = omega arith

pub from_ranges : (room : RoomModel) (ship : ℕ) (slots : List ℕ) → RangesFrom room ship slots → (s k : ℕ) → s ≡ ship + k → k < length slots → InRange room s (get_or slots k 0)
from_ranges room ship [] h s k at lt = absurd (omega (arith, lt))
from_ranges room ship (slot ∷ slots) h s zero at lt = subst (λ i. InRange room i slot) (here s ship at) h.0
  where
    here : (s ship : ℕ) → s ≡ ship + 0 → ship ≡ s
    here s ship at = omega (arith, at)
from_ranges room ship (slot ∷ slots) h s (suc k) at lt = from_ranges room (ship + 1) slots h.1 s k (omega (arith, at)) (omega (arith, lt))

-- a ship's balance in a slot with this value
abbrev pub balance_of : Problem → List Toll → Tariff → ℕ → ℕ → ℕ → Balance
balance_of f tolls tariff ship slot v = record { gain = tariff.scale * v; cost = pays f tolls tariff.dues ship slot }

some_balance : (g : ℕ → Balance) (o : Option ℕ) (v : ℕ) → o ≡ Some v → option_map g o ≡ Some (g v)
some_balance g o v e = ap (option_map g) e

value_of : (g : ℕ → Balance) (o : Option ℕ) (b : Balance) → option_map g o ≡ Some b → (v : ℕ) × (o ≡ Some v) × (g v ≡ b)
value_of g None b e = absurd cc
value_of g (Some v) b e = (v, refl, same_Some _ _ e)

-- no balance of the range is better than the best
pub best_is_best : (f : Problem) (tolls : List Toll) (tariff : Tariff) (ship low high slot : ℕ) → low ≤ slot → slot ≤ high → NoBetter (balance f tolls tariff ship slot) (best_balance f tolls tariff ship low high)
best_is_best f tolls tariff ship low high slot a b = best_at (balance f tolls tariff ship) low (high + 1 - low) None slot a (omega (arith, a, b))

-- and it is that of a slot
pub best_is_one : (f : Problem) (tolls : List Toll) (tariff : Tariff) (ship low high : ℕ) (b : Balance) → best_balance f tolls tariff ship low high ≡ Some b → (slot : ℕ) × (v : ℕ) × (low ≤ slot) × (slot ≤ high) × (value_at f ship slot ≡ Some v) × (balance_of f tolls tariff ship slot v ≡ b)
best_is_one f tolls tariff ship low high b e = elim (best_reached (balance f tolls tariff ship) low (high + 1 - low) None) [
  | inl none ↦ absurd (clash b (sym e ∙ none))
  | inr r ↦
      let v = value_of (balance_of f tolls tariff ship r.0) (value_at f ship r.0) b (sym r.3 ∙ e) in
      (r.0, v.0, r.1, omega (arith, r.1, r.2), v.1, v.2)
]
  where
    clash : (b : Balance) → Some b ≡ None → ⊥
    clash b e = cc

-- the ships' best balances from a ship on, with what is there before
abbrev pub bests_from : Problem → List Toll → Tariff → RoomModel → Option Balance → ℕ → ℕ → Option Balance
bests_from f tolls tariff room so_far ship count = fold (λ sum ship. together sum (best_balance f tolls tariff ship (low_of room ship) (high_of room ship))) so_far (range_with_len ship count)

none_stays : (f : Problem) (tolls : List Toll) (tariff : Tariff) (room : RoomModel) (ship count : ℕ) → bests_from f tolls tariff room None ship count ≡ None
none_stays f tolls tariff room ship zero = refl
none_stays f tolls tariff room ship (suc count) = none_stays f tolls tariff room (ship + 1) count

-- ---- no list earns more

-- what the ships gain from one on, with what they pay given back, is at most what the best balances add
abbrev pub AtMost : ℕ → ℕ → ℕ → Balance → Option Balance → Type 0
AtMost scale c pay before None = ⊥
AtMost scale c pay before (Some after) = scale * c + before.gain + after.cost ≤ after.gain + pay + before.cost

pub product : (scale v c : ℕ) → scale * (v + c) ≡ scale * v + scale * c
product scale v c = grind arith

more_at_most : (scale v c pay later : ℕ) (before best : Balance) (after : Option Balance) → scale * v + best.cost ≤ best.gain + pay → AtMost scale c later (record { gain = before.gain + best.gain; cost = before.cost + best.cost }) after → AtMost scale (v + c) (pay + later) before after
more_at_most scale v c pay later before best None le h = absurd h
more_at_most scale v c pay later before best (Some after) le h = omega (arith, le, h, product scale v c)

step_at_most : (f : Problem) (tolls : List Toll) (tariff : Tariff) (room : RoomModel) (v c pay later : ℕ) (before : Balance) (best : Option Balance) (ship count : ℕ)
    → NoBetter (Some (record { gain = tariff.scale * v; cost = pay })) best
    → ((next : Balance) → AtMost tariff.scale c later next (bests_from f tolls tariff room (Some next) ship count))
    → AtMost tariff.scale (v + c) (pay + later) before (bests_from f tolls tariff room (together (Some before) best) ship count)
step_at_most f tolls tariff room v c pay later before None ship count h rest = absurd h
step_at_most f tolls tariff room v c pay later before (Some best) ship count h rest = more_at_most tariff.scale v c pay later before best _ h (rest (record { gain = before.gain + best.gain; cost = before.cost + best.cost }))

pub at_most : (f : Problem) (tolls : List Toll) (tariff : Tariff) (room : RoomModel) (slots : List ℕ) (ship c : ℕ) (before : Balance) → RangesFrom room ship slots → cargo_from f ship slots ≡ Some c
    → AtMost tariff.scale c (over (pays f tolls tariff.dues) ship slots) before (bests_from f tolls tariff room (Some before) ship (length slots))
at_most f tolls tariff room [] ship c before h e =
    let none : 0 ≡ c = same_Some 0 c e in
    rw (sym none) (omega arith)
at_most f tolls tariff room (slot ∷ slots) ship c before h e =
    let p = plus_parts (value_at f ship slot) (cargo_from f (ship + 1) slots) c e in
    let here : NoBetter (Some (balance_of f tolls tariff ship slot p.0)) (best_balance f tolls tariff ship (low_of room ship) (high_of room ship)) =
    subst (λ o. NoBetter o (best_balance f tolls tariff ship (low_of room ship) (high_of room ship))) (some_balance (balance_of f tolls tariff ship slot) (value_at f ship slot) p.0 p.2)
    (best_is_best f tolls tariff ship (low_of room ship) (high_of room ship) slot h.0.0 h.0.1)
    in
    let all : AtMost tariff.scale (p.0 + p.1) (pays f tolls tariff.dues ship slot + over (pays f tolls tariff.dues) (ship + 1) slots) before (bests_from f tolls tariff room (together (Some before) (best_balance f tolls tariff ship (low_of room ship) (high_of room ship))) (ship + 1) (length slots)) =
    step_at_most f tolls tariff room p.0 p.1 (pays f tolls tariff.dues ship slot) (over (pays f tolls tariff.dues) (ship + 1) slots) before _ (ship + 1) (length slots) here (λ next. at_most f tolls tariff room slots (ship + 1) p.1 next h.1 p.3)
    in
    subst (λ n. AtMost tariff.scale n (pays f tolls tariff.dues ship slot + over (pays f tolls tariff.dues) (ship + 1) slots) before (bests_from f tolls tariff room (together (Some before) (best_balance f tolls tariff ship (low_of room ship) (high_of room ship))) (ship + 1) (length slots))) p.4 all

-- ---- and some list earns it

-- slots of their ranges from a ship on, with their cargo, that gain and pay what the best balances add
pub record Reached (f : Problem) (tolls : List Toll) (tariff : Tariff) (room : RoomModel) (ship count : ℕ) (before after : Balance) : Type 0 where
  pub slots : List ℕ
  pub each : length slots ≡ count
  pub ranges : RangesFrom room ship slots
  pub worth : ℕ
  pub told : cargo_from f ship slots ≡ Some worth
  pub gains : tariff.scale * worth + before.gain ≡ after.gain
  pub pays_it : over (pays f tolls tariff.dues) ship slots + before.cost ≡ after.cost

pub sum_told : (a b : Option ℕ) (x y : ℕ) → a ≡ Some x → b ≡ Some y → plus a b ≡ Some (x + y)
sum_told a b x y p q = ap (λ o. plus o b) p ∙ ap (plus (Some x)) q

step_reached : (f : Problem) (tolls : List Toll) (tariff : Tariff) (room : RoomModel) (ship count : ℕ) (before after : Balance) (best : Option Balance)
    → best_balance f tolls tariff ship (low_of room ship) (high_of room ship) ≡ best
    → bests_from f tolls tariff room (together (Some before) best) (ship + 1) count ≡ Some after
    → ((next : Balance) → bests_from f tolls tariff room (Some next) (ship + 1) count ≡ Some after → Reached f tolls tariff room (ship + 1) count next after)
    → Reached f tolls tariff room ship (suc count) before after
step_reached f tolls tariff room ship count before after None is e rest = absurd (clash after (sym e ∙ none_stays f tolls tariff room (ship + 1) count))
  where
    clash : (b : Balance) → Some b ≡ None → ⊥
    clash b e = cc
step_reached f tolls tariff room ship count before after (Some best) is e rest =
    let one = best_is_one f tolls tariff ship (low_of room ship) (high_of room ship) best is in
    let more = rest (record { gain = before.gain + best.gain; cost = before.cost + best.cost }) e in
    let gain : tariff.scale * one.1 ≡ best.gain = ap (λ (b : Balance). b.gain) one.5 in
    let cost : pays f tolls tariff.dues ship one.0 ≡ best.cost = ap (λ (b : Balance). b.cost) one.5 in
    record {
      slots = one.0 ∷ more.slots;
      each = omega (arith, more.each);
      ranges = ((one.2, one.3), more.ranges);
      worth = one.1 + more.worth;
      told = sum_told (value_at f ship one.0) (cargo_from f (ship + 1) more.slots) one.1 more.worth one.4 more.told;
      gains = omega (arith, gain, more.gains, product tariff.scale one.1 more.worth);
      pays_it = omega (arith, cost, more.pays_it);
    }

pub reached : (f : Problem) (tolls : List Toll) (tariff : Tariff) (room : RoomModel) (count ship : ℕ) (before after : Balance) → bests_from f tolls tariff room (Some before) ship count ≡ Some after → Reached f tolls tariff room ship count before after
reached f tolls tariff room zero ship before after e =
    let same : before ≡ after = same_Some before after e in
    record {
      slots = [];
      each = refl;
      ranges = tt;
      worth = 0;
      told = refl;
      gains = let g : before.gain ≡ after.gain = ap (λ (b : Balance). b.gain) same in omega (arith, g);
      pays_it = let g : before.cost ≡ after.cost = ap (λ (b : Balance). b.cost) same in omega (arith, g);
    }
reached f tolls tariff room (suc count) ship before after e =
    step_reached f tolls tariff room ship count before after (best_balance f tolls tariff ship (low_of room ship) (high_of room ship)) refl e (λ next d. reached f tolls tariff room count (ship + 1) next after d)

-- ---- the test

pub table_ranges : (f : Problem) (room : RoomModel) (table : List ℕ) → InRanges f room table → RangesFrom room 0 table
table_ranges f room table in' = ranges_from room 0 table (λ k lt.
    let r : InRange room k (get_or table k 0) = in'.ranges k (omega (arith, lt, in'.each_ship)) in
    subst (λ s. InRange room s (get_or table k 0)) (here k) r)
  where
    here : (k : ℕ) → k ≡ 0 + k
    here k = omega arith

pub list_ranges : (f : Problem) (room : RoomModel) (table : List ℕ) → length table ≡ f.ships → RangesFrom room 0 table → InRanges f room table
list_ranges f room table full h = record { each_ship = full; ranges = λ ship lt. from_ranges room 0 table h ship ship (omega arith) (omega (arith, lt, full)) }

test_says : (scale c pay allowed aimed : ℕ) (o : Option Balance) → AtMost scale c pay (record { gain = 0; cost = 0 }) o → falls_short allowed aimed o ≡ true → scale * c + allowed < aimed + pay
test_says scale c pay allowed aimed None h short = absurd h
test_says scale c pay allowed aimed (Some b) h short =
    let lt : b.gain + allowed < aimed + b.cost = ltb-true _ _ short in
    omega (arith, h, lt)

pub test_refutes : (f : Problem) (tolls : List Toll) (tariff : Tariff) (best : Option ℕ) (room : RoomModel) → IsFlat f → All (IsToll f) tolls → IsTrue (prices_refute f tolls tariff best room) → PricesRefute f tolls tariff best room
test_refutes f tolls tariff best room flat all short = λ table c in' e.
    let upper : AtMost tariff.scale c (over (pays f tolls tariff.dues) 0 table) (record { gain = 0; cost = 0 }) (bests_from f tolls tariff room (Some (record { gain = 0; cost = 0 })) 0 (length table)) = at_most f tolls tariff room table 0 c (record { gain = 0; cost = 0 }) (table_ranges f room table in') e in
    let upper' : AtMost tariff.scale c (over (pays f tolls tariff.dues) 0 table) (record { gain = 0; cost = 0 }) (best_balances f tolls tariff room) = subst (λ n. AtMost tariff.scale c (over (pays f tolls tariff.dues) 0 table) (record { gain = 0; cost = 0 }) (bests_from f tolls tariff room (Some (record { gain = 0; cost = 0 })) 0 n)) in'.each_ship upper in
    let told : tariff.scale * c + allowance tolls tariff.dues < aim tariff.scale best + over (pays f tolls tariff.dues) 0 table = test_says tariff.scale c (over (pays f tolls tariff.dues) 0 table) (allowance tolls tariff.dues) (aim tariff.scale best) (best_balances f tolls tariff room) upper' short in
    omega (arith, told, paid_over f tolls tariff.dues table flat all in'.each_ship)

pub refutes_tested : (f : Problem) (tolls : List Toll) (tariff : Tariff) (best : Option ℕ) (room : RoomModel) → IsFlat f → All (IsToll f) tolls → PricesRefute f tolls tariff best room → IsTrue (prices_refute f tolls tariff best room)
refutes_tested f tolls tariff best room flat all refuted = by (best_balances f tolls tariff room) refl
  where
    by : (o : Option Balance) → best_balances f tolls tariff room ≡ o → falls_short (allowance tolls tariff.dues) (aim tariff.scale best) o ≡ true
    by None e = refl
    by (Some b) e =
        let r : Reached f tolls tariff room 0 f.ships (record { gain = 0; cost = 0 }) b = reached f tolls tariff room f.ships 0 (record { gain = 0; cost = 0 }) b e in
        let short : tariff.scale * r.worth + allowance tolls tariff.dues < aim tariff.scale best + paid f tolls tariff.dues r.slots = refuted r.slots r.worth (list_ranges f room r.slots r.each r.ranges) r.told in
        lt-ltb _ _ (omega (arith, short, r.gains, r.pays_it, paid_over f tolls tariff.dues r.slots flat all r.each))

pub computed : (f : Problem) (tolls : List Toll) (tariff : Tariff) (best : Option ℕ) (room : RoomModel) → IsFlat f → All (IsToll f) tolls → (IsTrue (prices_refute f tolls tariff best room) ↔ PricesRefute f tolls tariff best room)
computed f tolls tariff best room flat all = (test_refutes f tolls tariff best room flat all, refutes_tested f tolls tariff best room flat all)

-- a test that computes it means it
pub means : (f : Problem) (tolls : List Toll) (tariff : Tariff) (best : Option ℕ) (room : RoomModel) (b : Bool) → IsFlat f → All (IsToll f) tolls → b ≡ prices_refute f tolls tariff best room → (IsTrue b ↔ PricesRefute f tolls tariff best room)
means f tolls tariff best room b flat all is = (λ t. test_refutes f tolls tariff best room flat all (sym is ∙ t), λ h. is ∙ refutes_tested f tolls tariff best room flat all h)

-- the same range, the same best balance
pub same_best : (f : Problem) (tolls : List Toll) (tariff : Tariff) (ship low high low' high' : ℕ) → low ≡ low' → high ≡ high' → best_balance f tolls tariff ship low high ≡ best_balance f tolls tariff ship low' high'
same_best f tolls tariff ship low high low' high' p q = ap (λ l. best_balance f tolls tariff ship l high) p ∙ ap (best_balance f tolls tariff ship low') q
