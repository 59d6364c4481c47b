-- Wider ranges that add no better slots, and prices without dues.
use Rattle.std.proofs.Common.{◌≡◌, ◌⊎◌, ◌↔◌, ℕ, zero, suc, ◌+◌, ◌-◌, ◌*◌, ◌<◌, ◌≤◌, max, List, [], ◌∷◌, Option, Some, None, length, get_or, fold, sum_by, unwrap_or, IsSomeAnd, All, refl, sym, ap, ◌∙◌, subst, arith, inl, inr, le_refl, le_trans}
use Rattle.std.proofs.lemmas.Bool.{cases_eq, cases_lt}
use Rattle.std.proofs.lemmas.List.Sums.{sum_by-cons}
use Rattle.std.proofs.lemmas.Option.{same_Some}
use Rattle.std.proofs.Math.Nat.{lt_of_mul-lt-mul_left}
use Rattle.std.specs.List.{range_with_len}
use Rattle.hw_model.specs.declared.source.Source.TheVariants as sources
use Rattle.hw_model.specs.Problem.{Problem, value_at}
use Rattle.hw_model.specs.Limits.{IsFlat}
use Rattle.hw_model.specs.Timetables.{cargo, cargo_from}
use Rattle.hw_model.specs.Rooms.{RoomModel, RoomFits, InRange, low_of, high_of}
use Rattle.hw_model.specs.Refuting.{Refutes, greatest_value, greatest_sum}
use Rattle.hw_model_laws.proofs.Cargoes.{worth, cargo_below, plus_parts}
use Rattle.hw_model_laws.proofs.Sound.{value_le}
use Rattle.hw_price_laws.specs.declared.tariff.Due.{Due}
use Rattle.hw_price_laws.specs.declared.tariff.Tariff.{Tariff}
use Rattle.hw_price_laws.specs.declared.toll.Toll.{Toll}
use Rattle.hw_price_laws.specs.Tolls.{IsToll}
use Rattle.hw_price_laws.specs.Prices.{InRanges, PricesRefute, paid, allowance, aim}
use Rattle.hw_price_laws.specs.Computed.{pays}
use Rattle.hw_price_laws.specs.Laws.{EarnsLess}
use Rattle.hw_price_laws.proofs.Sums.{over}
use Rattle.hw_price_laws.proofs.Taken.{paid_over}
use Rattle.hw_price_laws.proofs.Tops.{RangesFrom, from_ranges, table_ranges, list_ranges, sum_told, product}

-- ---- wider ranges

-- slots of the narrower ranges that earn at least as much
pub record Moved (f : Problem) (tolls : List Toll) (tariff : Tariff) (room : RoomModel) (ship c : ℕ) (slots : List ℕ) : Type 0 where
  pub others : List ℕ
  pub each : length others ≡ length slots
  pub ranges : RangesFrom room ship others
  pub worth : ℕ
  pub told : cargo_from f ship others ≡ Some worth
  pub more : tariff.scale * c + over (pays f tolls tariff.dues) ship others ≤ tariff.scale * worth + over (pays f tolls tariff.dues) ship slots

-- each slot of the wider ranges earns no more than one of the narrower ones
abbrev pub EarnsNoMore : Problem → List Toll → Tariff → RoomModel → RoomModel → Type 0
EarnsNoMore f tolls tariff inner outer = (ship slot value : ℕ) → ship < f.ships → InRange outer ship slot → value_at f ship slot ≡ Some value → (other : ℕ) × InRange inner ship other × EarnsLess f tolls tariff ship slot other value

moved : (f : Problem) (tolls : List Toll) (tariff : Tariff) (inner outer : RoomModel) (slots : List ℕ) (ship c : ℕ) → EarnsNoMore f tolls tariff inner outer → ship + length slots ≤ f.ships → RangesFrom outer ship slots → cargo_from f ship slots ≡ Some c → Moved f tolls tariff inner ship c slots
moved f tolls tariff inner outer [] ship c h few in' e =
    let none : 0 ≡ c = same_Some 0 c e in
    record { others = []; each = refl; ranges = tt; worth = 0; told = refl; more = omega (arith, none_times tariff.scale c none) }
  where
    none_times : (scale c : ℕ) → 0 ≡ c → scale * c ≡ 0
    none_times scale c e = grind arith
moved f tolls tariff inner outer (slot ∷ slots) ship c h few in' e =
    let p = plus_parts (value_at f ship slot) (cargo_from f (ship + 1) slots) c e in
    let one = h ship slot p.0 (omega (arith, few)) in'.0 p.2 in
    let rest = moved f tolls tariff inner outer slots (ship + 1) p.1 h (omega (arith, few)) in'.1 p.3 in
    let total : tariff.scale * c ≡ tariff.scale * p.0 + tariff.scale * p.1 = ap (λ n. tariff.scale * n) (sym p.4) ∙ product tariff.scale p.0 p.1 in
    record {
      others = one.0 ∷ rest.others;
      each = omega (arith, rest.each);
      ranges = (one.1, rest.ranges);
      worth = one.2.other_value + rest.worth;
      told = sum_told (value_at f ship one.0) (cargo_from f (ship + 1) rest.others) one.2.other_value rest.worth one.2.told rest.told;
      more = omega (arith, one.2.less, rest.more, total, product tariff.scale one.2.other_value rest.worth);
    }

pub wider : (f : Problem) (tolls : List Toll) (tariff : Tariff) (best : Option ℕ) (inner outer : RoomModel) → IsFlat f → All (IsToll f) tolls → EarnsNoMore f tolls tariff inner outer → PricesRefute f tolls tariff best inner → PricesRefute f tolls tariff best outer
wider f tolls tariff best inner outer flat all h refuted = λ table c in' e.
    let m = moved f tolls tariff inner outer table 0 c h (omega (arith, in'.each_ship)) (table_ranges f outer table in') e in
    let full : length m.others ≡ f.ships = m.each ∙ in'.each_ship in
    let short : tariff.scale * m.worth + allowance tolls tariff.dues < aim tariff.scale best + paid f tolls tariff.dues m.others = refuted m.others m.worth (list_ranges f inner m.others full m.ranges) m.told in
    omega (arith, short, m.more, paid_over f tolls tariff.dues table flat all in'.each_ship, paid_over f tolls tariff.dues m.others flat all full)

-- ---- without dues

-- the greatest of a range is what one begins with or is reached
most_reached : (h : ℕ → ℕ) (a n m : ℕ) → (fold (λ most k. max most (h k)) m (range_with_len a n) ≡ m) ⊎ ((k : ℕ) × (a ≤ k) × (k < a + n) × (fold (λ most k. max most (h k)) m (range_with_len a n) ≡ h k))
most_reached h a zero m = inl refl
most_reached h a (suc n) m = elim (most_reached h (a + 1) n (max m (h a))) [
  | inl e ↦ elim (cases_lt m (h a)) [
    | inl lt ↦ inr (a, le_refl a, omega arith, e ∙ second m (h a) lt)
    | inr le ↦ inl (e ∙ first m (h a) le)
  ]
  | inr r ↦ inr (r.0, omega (arith, r.1), omega (arith, r.2), r.3)
]
  where
    second : (m x : ℕ) → m < x → max m x ≡ x
    second m x lt = omega (arith, lt)

    first : (m x : ℕ) → x ≤ m → max m x ≡ m
    first m x le = omega (arith, le)

-- a slot with a value, or none has one
some_value : (f : Problem) (ship a n : ℕ) → ((k : ℕ) × (a ≤ k) × (k < a + n) × (v : ℕ) × (value_at f ship k ≡ Some v)) ⊎ ((k : ℕ) → a ≤ k → k < a + n → value_at f ship k ≡ None)
some_value f ship a zero = inr (λ k le lt. absurd (omega (arith, le, lt)))
some_value f ship a (suc n) = by (value_at f ship a) refl (some_value f ship (a + 1) n)
  where
    further : (a k : ℕ) → a ≤ k → (k ≡ a → ⊥) → a + 1 ≤ k
    further a k le ne = grind arith

    by : (o : Option ℕ) → value_at f ship a ≡ o → ((k : ℕ) × (a + 1 ≤ k) × (k < a + 1 + n) × (v : ℕ) × (value_at f ship k ≡ Some v)) ⊎ ((k : ℕ) → a + 1 ≤ k → k < a + 1 + n → value_at f ship k ≡ None) → ((k : ℕ) × (a ≤ k) × (k < a + suc n) × (v : ℕ) × (value_at f ship k ≡ Some v)) ⊎ ((k : ℕ) → a ≤ k → k < a + suc n → value_at f ship k ≡ None)
    by (Some v) e rest = inl (a, le_refl a, omega arith, v, e)
    by None e rest = elim rest [
      | inl r ↦ inl (r.0, omega (arith, r.1), omega (arith, r.2), r.3, r.4)
      | inr none ↦ inr (λ k le lt. elim (cases_eq k a) [
        | inl same ↦ subst (λ i. value_at f ship i ≡ None) (sym same) e
        | inr ne ↦ none k (further a k le ne) (omega (arith, lt))
      ])
    ]

-- a slot of the range has its greatest value, or no slot of it has a value
greatest_reached : (f : Problem) (ship low high : ℕ) → ((k : ℕ) × (low ≤ k) × (k ≤ high) × (value_at f ship k ≡ Some (greatest_value f ship low high))) ⊎ ((k : ℕ) → low ≤ k → k ≤ high → value_at f ship k ≡ None)
greatest_reached f ship low high = elim (some_value f ship low (high + 1 - low)) [
  | inl s ↦
      let value : worth f ship s.0 ≡ s.3 = ap (λ o. unwrap_or o 0) s.4 in
      let le : worth f ship s.0 ≤ greatest_value f ship low high = value_le f ship low high s.0 s.1 (omega (arith, s.1, s.2)) in
      elim (most_reached (worth f ship) low (high + 1 - low) 0) [
        | inl e ↦
            -- the greatest value is 0, and so is that of the slot
            let same : s.3 ≡ greatest_value f ship low high = omega (arith, value, le, e) in
            inl (s.0, s.1, omega (arith, s.1, s.2), s.4 ∙ ap Some same)
        | inr r ↦ by r.0 r.1 (omega (arith, r.1, r.2)) (value_at f ship r.0) refl r.3 (s.0, s.1, omega (arith, s.1, s.2), s.3, s.4, omega (arith, value, le))
      ]
  | inr none ↦ inr (λ k a b. none k a (omega (arith, a, b)))
]
  where
    by : (k : ℕ) → low ≤ k → k ≤ high → (o : Option ℕ) → value_at f ship k ≡ o → greatest_value f ship low high ≡ worth f ship k → ((j : ℕ) × (low ≤ j) × (j ≤ high) × (v : ℕ) × (value_at f ship j ≡ Some v) × (v ≤ greatest_value f ship low high)) → ((k : ℕ) × (low ≤ k) × (k ≤ high) × (value_at f ship k ≡ Some (greatest_value f ship low high))) ⊎ ((k : ℕ) → low ≤ k → k ≤ high → value_at f ship k ≡ None)
    by k a b (Some v) e most s = inl (k, a, b, e ∙ ap Some (sym (most ∙ ap (λ o. unwrap_or o 0) e)))
    by k a b None e most s =
        let zero_worth : worth f ship k ≡ 0 = ap (λ o. unwrap_or o 0) e in
        let same : s.3 ≡ greatest_value f ship low high = omega (arith, s.5, most, zero_worth) in
        inl (s.0, s.1, s.2, s.4 ∙ ap Some same)

-- slots with the greatest values, from a ship on
pub record Greatest (f : Problem) (room : RoomModel) (ship count : ℕ) : Type 0 where
  pub slots : List ℕ
  pub each : length slots ≡ count
  pub ranges : RangesFrom room ship slots
  pub told : cargo_from f ship slots ≡ Some (sum_by (λ s. greatest_value f s (low_of room s) (high_of room s)) (range_with_len ship count))

greatest_list : (f : Problem) (room : RoomModel) (count ship : ℕ) → Greatest f room ship count ⊎ ((s : ℕ) × (ship ≤ s) × (s < ship + count) × ((slot : ℕ) → InRange room s slot → value_at f s slot ≡ None))
greatest_list f room zero ship = inl (record { slots = []; each = refl; ranges = tt; told = refl })
greatest_list f room (suc count) ship = elim (greatest_reached f ship (low_of room ship) (high_of room ship)) [
  | inr none ↦ inr (ship, le_refl ship, omega arith, λ slot r. none slot r.0 r.1)
  | inl g ↦ elim (greatest_list f room count (ship + 1)) [
    | inr w ↦ inr (w.0, omega (arith, w.1), omega (arith, w.2), w.3)
    | inl rest ↦ inl (record {
      slots = g.0 ∷ rest.slots;
      each = omega (arith, rest.each);
      ranges = ((g.1, g.2), rest.ranges);
      told = sum_told (value_at f ship g.0) (cargo_from f (ship + 1) rest.slots) (greatest_value f ship (low_of room ship) (high_of room ship)) _ g.3 rest.told ∙ ap Some (sym (sum_by-cons (λ s. greatest_value f s (low_of room s) (high_of room s)) ship (range_with_len (ship + 1) count)));
    })
  ]
]

sails : (f : Problem) (slots : List ℕ) (ship c : ℕ) → cargo_from f ship slots ≡ Some c → (s k : ℕ) → s ≡ ship + k → k < length slots → (v : ℕ) × (value_at f s (get_or slots k 0) ≡ Some v)
sails f [] ship c e s k at lt = absurd (omega (arith, lt))
sails f (slot ∷ slots) ship c e s zero at lt =
    let p = plus_parts (value_at f ship slot) (cargo_from f (ship + 1) slots) c e in
    (p.0, subst (λ i. value_at f i slot ≡ Some p.0) (here s ship at) p.2)
  where
    here : (s ship : ℕ) → s ≡ ship + 0 → ship ≡ s
    here s ship at = omega (arith, at)
sails f (slot ∷ slots) ship c e s (suc k) at lt =
    let p = plus_parts (value_at f ship slot) (cargo_from f (ship + 1) slots) c e in
    sails f slots (ship + 1) p.1 p.3 s k (omega (arith, at)) (omega (arith, lt))

-- without dues nothing is paid
free : (f : Problem) (tolls : List Toll) (dues : List Due) (table : List ℕ) → dues ≡ [] → (paid f tolls dues table ≡ 0) × (allowance tolls dues ≡ 0)
free f tolls dues table e = (ap (λ ds. paid f tolls ds table) e, ap (allowance tolls) e)

from_short : (scale sum : ℕ) (best : Option ℕ) → scale * sum < aim scale best → IsSomeAnd best (λ b. sum ≤ b)
from_short scale sum None lt = absurd (omega (arith, lt))
from_short scale sum (Some b) lt = less scale sum b lt
  where
    less : (scale c b : ℕ) → scale * c < scale * (b + 1) → c ≤ b
    less scale c b lt = grind (arith, lt_of_mul-lt-mul_left)

to_short : (scale c sum : ℕ) (best : Option ℕ) → 1 ≤ scale → c ≤ sum → IsSomeAnd best (λ b. sum ≤ b) → scale * c < aim scale best
to_short scale c sum None some le h = absurd h
to_short scale c sum (Some b) some le h = more scale c b some (le_trans le h)
  where
    more : (scale c b : ℕ) → 1 ≤ scale → c ≤ b → scale * c < scale * (b + 1)
    more scale c b some le =
        let p : scale * c ≤ scale * b = times scale c b le in
        omega (arith, p, some, product scale b 1)
      where
        times : (scale c b : ℕ) → c ≤ b → scale * c ≤ scale * b
        times scale c b le = grind arith

table_below : (f : Problem) (room : RoomModel) (table : List ℕ) (c : ℕ) → InRanges f room table → cargo f table ≡ Some c → c ≤ greatest_sum f room
table_below f room table c in' e =
    let g : ℕ → ℕ = λ ship. greatest_value f ship (low_of room ship) (high_of room ship) in
    let h = from_ranges room 0 table (table_ranges f room table in') in
    let le : c ≤ sum_by (λ ship. greatest_value f ship (low_of room ship) (high_of room ship)) (range_with_len 0 (length table)) = cargo_below f (λ ship. greatest_value f ship (low_of room ship) (high_of room ship)) table 0 c e (λ s k at lt. value_le f s (low_of room s) (high_of room s) (get_or table k 0) (h s k at lt).0 (h s k at lt).1) in
    subst (λ n. c ≤ sum_by (λ ship. greatest_value f ship (low_of room ship) (high_of room ship)) (range_with_len 0 n)) in'.each_ship le

pub as_goal : (f : Problem) (tolls : List Toll) (tariff : Tariff) (best : Option ℕ) (room : RoomModel) → RoomFits f room → 1 ≤ tariff.scale → tariff.dues ≡ [] → (PricesRefute f tolls tariff best room ↔ (Refutes f sources.Goal best room ⊎ ((ship : ℕ) × (ship < f.ships) × Refutes f (sources.Window ship) best room)))
as_goal f tolls tariff best room fits some none = (to, from)
  where
    to : PricesRefute f tolls tariff best room → IsSomeAnd best (λ b. greatest_sum f room ≤ b) ⊎ ((ship : ℕ) × (ship < f.ships) × ((slot : ℕ) → InRange room ship slot → value_at f ship slot ≡ None))
    to refuted = elim (greatest_list f room f.ships 0) [
      | inr w ↦ inr (w.0, omega (arith, w.2), w.3)
      | inl g ↦
          let short : tariff.scale * greatest_sum f room + allowance tolls tariff.dues < aim tariff.scale best + paid f tolls tariff.dues g.slots = refuted g.slots (greatest_sum f room) (list_ranges f room g.slots g.each g.ranges) g.told in
          let nothing = free f tolls tariff.dues g.slots none in
          inl (from_short tariff.scale (greatest_sum f room) best (omega (arith, short, nothing.0, nothing.1)))
    ]

    from : IsSomeAnd best (λ b. greatest_sum f room ≤ b) ⊎ ((ship : ℕ) × (ship < f.ships) × ((slot : ℕ) → InRange room ship slot → value_at f ship slot ≡ None)) → PricesRefute f tolls tariff best room
    from h = λ table c in' e.
        let nothing = free f tolls tariff.dues table none in
        elim h [
          | inl goal ↦
              let lt : tariff.scale * c < aim tariff.scale best = to_short tariff.scale c (greatest_sum f room) best some (table_below f room table c in' e) goal in
              omega (arith, lt, nothing.0, nothing.1)
          | inr w ↦
              let v = sails f table 0 c e w.0 w.0 (omega arith) (omega (arith, w.1, in'.each_ship)) in
              absurd (clash v.0 (sym v.1 ∙ w.2 (get_or table w.0 0) (in'.ranges w.0 w.1)))
        ]
      where
        clash : (v : ℕ) → Some v ≡ None → ⊥
        clash v e = cc
