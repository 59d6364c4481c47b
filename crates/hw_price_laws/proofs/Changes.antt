-- Where one range is set, the balances together change by that ship's alone.
use Rattle.std.proofs.Common.{◌≡◌, ◌≢◌, ℕ, zero, suc, ◌+◌, ◌<◌, ◌≤◌, List, Option, Some, None, length, fold, IsSomeAnd, refl, sym, ap, ◌∙◌, subst, arith, inl, inr}
use Rattle.std.proofs.lemmas.Bool.{cases_eq}
use Rattle.std.proofs.lemmas.Option.{same_Some}
use Rattle.std.specs.List.{range_with_len}
use Rattle.hw_model.specs.Problem.{Problem}
use Rattle.hw_model.specs.Rooms.{RoomModel, RoomFits, low_of, high_of}
use Rattle.hw_model.specs.Narrowing.{with_range}
use Rattle.hw_model_laws.proofs.Bounds.{low_new, high_new, low_other, high_other}
use Rattle.hw_price_laws.specs.declared.tariff.Balance.{Balance}
use Rattle.hw_price_laws.specs.declared.tariff.Tariff.{Tariff}
use Rattle.hw_price_laws.specs.declared.toll.Toll.{Toll}
use Rattle.hw_price_laws.specs.Computed.{best_balance, best_balances, together}
use Rattle.hw_price_laws.specs.Laws.{Changed}
use Rattle.hw_price_laws.proofs.Tops.{same_best}

-- the balances of ships from one on, with what is there before
abbrev pub all_of : (ℕ → Option Balance) → Option Balance → ℕ → ℕ → Option Balance
all_of h so_far ship count = fold (λ sum ship. together sum (h ship)) so_far (range_with_len ship count)

none_stays : (h : ℕ → Option Balance) (ship count : ℕ) → all_of h None ship count ≡ None
none_stays h ship zero = refl
none_stays h ship (suc count) = none_stays h (ship + 1) count

clash : (b : Balance) → Some b ≡ None → ⊥
clash b e = cc

-- two sums that began apart by the change stay so
step_apart : (h h' : ℕ → Option Balance) (one other before before' after : Balance) (own own' : Option Balance) (ship count : ℕ) → own ≡ own' → Changed before one other before'
    → ((next next' : Balance) → Changed next one other next' → all_of h (Some next) (ship + 1) count ≡ Some after → IsSomeAnd (all_of h' (Some next') (ship + 1) count) (Changed after one other))
    → all_of h (together (Some before) own) (ship + 1) count ≡ Some after → IsSomeAnd (all_of h' (together (Some before') own') (ship + 1) count) (Changed after one other)
step_apart h h' one other before before' after None own' ship count same c rest e = absurd (clash after (sym e ∙ none_stays h (ship + 1) count))
step_apart h h' one other before before' after (Some own) own' ship count same c rest e =
    let next : Balance = record { gain = before.gain + own.gain; cost = before.cost + own.cost } in
    let next' : Balance = record { gain = before'.gain + own.gain; cost = before'.cost + own.cost } in
    subst (λ o. IsSomeAnd (all_of h' (together (Some before') o) (ship + 1) count) (Changed after one other)) same
    (rest (record { gain = before.gain + own.gain; cost = before.cost + own.cost }) (record { gain = before'.gain + own.gain; cost = before'.cost + own.cost }) (record { gain = omega (arith, c.gain); cost = omega (arith, c.cost) }) e)

stays_apart : (h h' : ℕ → Option Balance) (one other after : Balance) (count ship : ℕ) (before before' : Balance) → ((s : ℕ) → ship ≤ s → h s ≡ h' s) → Changed before one other before' → all_of h (Some before) ship count ≡ Some after → IsSomeAnd (all_of h' (Some before') ship count) (Changed after one other)
stays_apart h h' one other after zero ship before before' same c e =
    let is : before ≡ after = same_Some before after e in
    subst (λ b. Changed b one other before') is c
stays_apart h h' one other after (suc count) ship before before' same c e =
    step_apart h h' one other before before' after (h ship) (h' ship) ship count (same ship (omega arith)) c
    (λ next next' d more. stays_apart h h' one other after count (ship + 1) next next' (λ s le. same s (omega (arith, le))) d more) e

-- up to the ship both sums are one
step_same : (h h' : ℕ → Option Balance) (one other before after : Balance) (own own' : Option Balance) (ship count : ℕ) → own ≡ own'
    → ((next : Balance) → all_of h (Some next) (ship + 1) count ≡ Some after → IsSomeAnd (all_of h' (Some next) (ship + 1) count) (Changed after one other))
    → all_of h (together (Some before) own) (ship + 1) count ≡ Some after → IsSomeAnd (all_of h' (together (Some before) own') (ship + 1) count) (Changed after one other)
step_same h h' one other before after None own' ship count same rest e = absurd (clash after (sym e ∙ none_stays h (ship + 1) count))
step_same h h' one other before after (Some own) own' ship count same rest e =
    subst (λ o. IsSomeAnd (all_of h' (together (Some before) o) (ship + 1) count) (Changed after one other)) same
    (rest (record { gain = before.gain + own.gain; cost = before.cost + own.cost }) e)

changes : (h h' : ℕ → Option Balance) (one other after : Balance) (place : ℕ) → h place ≡ Some one → h' place ≡ Some other → ((s : ℕ) → s ≢ place → h s ≡ h' s)
    → (count ship : ℕ) (before : Balance) → ship ≤ place → place < ship + count → all_of h (Some before) ship count ≡ Some after → IsSomeAnd (all_of h' (Some before) ship count) (Changed after one other)
changes h h' one other after place old new same zero ship before le lt e = absurd (omega (arith, le, lt))
changes h h' one other after place old new same (suc count) ship before le lt e = elim (cases_eq ship place) [
  | inl here ↦
      let old' : h ship ≡ Some one = ap h here ∙ old in
      let new' : h' ship ≡ Some other = ap h' here ∙ new in
      let start : all_of h (Some (record { gain = before.gain + one.gain; cost = before.cost + one.cost })) (ship + 1) count ≡ Some after = subst (λ o. all_of h (together (Some before) o) (ship + 1) count ≡ Some after) old' e in
      subst (λ o. IsSomeAnd (all_of h' (together (Some before) o) (ship + 1) count) (Changed after one other)) (sym new')
      (stays_apart h h' one other after count (ship + 1) (record { gain = before.gain + one.gain; cost = before.cost + one.cost }) (record { gain = before.gain + other.gain; cost = before.cost + other.cost })
      (λ s later. same s (apart s ship place later here)) (record { gain = omega arith; cost = omega arith }) start)
  | inr ne ↦
      step_same h h' one other before after (h ship) (h' ship) ship count (same ship ne)
      (λ next more. changes h h' one other after place old new same count (ship + 1) next (further ship place le ne) (omega (arith, lt)) more) e
]
  where
    apart : (s ship place : ℕ) → ship + 1 ≤ s → ship ≡ place → s ≢ place
    apart s ship place le e = λ same. absurd (omega (arith, le, e, same))

    further : (ship place : ℕ) → ship ≤ place → (ship ≡ place → ⊥) → ship + 1 ≤ place
    further ship place le ne = grind arith

pub changed : (f : Problem) (tolls : List Toll) (tariff : Tariff) (room : RoomModel) (ship low high : ℕ) (total one other : Balance) → RoomFits f room → ship < f.ships
    → best_balances f tolls tariff room ≡ Some total → best_balance f tolls tariff ship (low_of room ship) (high_of room ship) ≡ Some one → best_balance f tolls tariff ship low high ≡ Some other
    → IsSomeAnd (best_balances f tolls tariff (with_range room ship low high)) (Changed total one other)
changed f tolls tariff room ship low high total one other fits lt e old new =
    let inside : ship < length room.ranges = omega (arith, lt, fits.is_room.each_ship, fits.same_ships) in
    changes (λ s. best_balance f tolls tariff s (low_of room s) (high_of room s)) (λ s. best_balance f tolls tariff s (low_of (with_range room ship low high) s) (high_of (with_range room ship low high) s)) one other total ship old
    (same_best f tolls tariff ship _ _ low high (low_new room ship low high inside) (high_new room ship low high inside) ∙ new)
    (λ s ne. same_best f tolls tariff s _ _ _ _ (sym (low_other room ship low high s ne)) (sym (high_other room ship low high s ne)))
    f.ships 0 (record { gain = 0; cost = 0 }) (omega arith) (omega (arith, lt)) e
