-- The greatest value of a range: what bounds it, and a slot that has it.
use Rattle.std.proofs.Common.{◌≡◌, ℕ, ◌+◌, ◌-◌, ◌<◌, ◌≤◌, zero-le, sym, ◌∙◌, arith, inl, inr}
use Rattle.std.proofs.lemmas.Bool.{cases_lt}
use Rattle.hw_model.specs.Problem.{Problem}
use Rattle.hw_model.specs.Refuting.{greatest_value}
use Rattle.hw_model_laws.proofs.Alikes.{values_alike}
use Rattle.hw_model_laws.proofs.Sound.{value_le}
use Rattle.hw_model_laws.proofs.Within.{range_le}
use Rattle.hw_goal.specs.declared.tops.Peak.{Peak}
use Rattle.hw_goal.specs.declared.tops.Top.{Top}
use Rattle.hw_flat.specs.Carried.{worth}
use Rattle.hw_goal.specs.Kept.{IsPeak, IsTop}

-- what bounds each value of a range bounds the greatest
pub greatest_le : (f : Problem) (ship low high most : ℕ) → ((slot : ℕ) → low ≤ slot → slot ≤ high → worth f ship slot ≤ most) → greatest_value f ship low high ≤ most
greatest_le f ship low high most each = range_le (worth f ship) low (high + 1 - low) 0 most (zero-le) (λ k from upto. each k from (omega (arith, from, upto)))

-- the greatest of a range is at most that of one around it
pub greatest_inner : (f : Problem) (ship low high low' high' : ℕ) → low' ≤ low → high ≤ high' → greatest_value f ship low high ≤ greatest_value f ship low' high'
greatest_inner f ship low high low' high' a b = greatest_le f ship low high (greatest_value f ship low' high') (λ slot from upto. value_le f ship low' high' slot (omega (arith, a, from)) (omega (arith, b, upto)))

-- the greatest of a wider range stays within a bound where the values beside are
pub greatest_wider : (f : Problem) (ship low high low' high' most : ℕ) → greatest_value f ship low high ≤ most → ((slot : ℕ) → low' ≤ slot → slot < low → worth f ship slot ≤ most) → ((slot : ℕ) → high < slot → slot ≤ high' → worth f ship slot ≤ most) → greatest_value f ship low' high' ≤ most
greatest_wider f ship low high low' high' most le below above =
    greatest_le f ship low' high' most (λ slot from upto. elim (cases_lt slot low) [
      | inl lt ↦ below slot from lt
      | inr ge ↦ elim (cases_lt high slot) [
        | inl gt ↦ above slot gt upto
        | inr inside ↦ let v : worth f ship slot ≤ greatest_value f ship low high = value_le f ship low high slot ge inside in omega (arith, v, le)
      ]
    ])

-- the value of the peak is the greatest
pub peak_is : (f : Problem) (ship low high : ℕ) (peak : Peak) → IsPeak f ship low high peak → greatest_value f ship low high ≡ peak.value
peak_is f ship low high peak p =
    let le : greatest_value f ship low high ≤ peak.value = greatest_le f ship low high peak.value p.most in
    let ge : worth f ship peak.slot ≤ greatest_value f ship low high = value_le f ship low high peak.slot p.above p.below in
    omega (arith, le, ge, p.told)

-- what is kept of a ship
pub top_value : (f : Problem) (ship low high : ℕ) (top : Top) → IsTop f ship top → top.low ≡ low → top.high ≡ high → top.peak.value ≡ greatest_value f ship low high
top_value f ship low high top p a b = sym (peak_is f ship top.low top.high top.peak p.peak) ∙ values_alike f ship low high top.low top.high a b

pub top_small : (f : Problem) (ship : ℕ) (top : Top) → IsTop f ship top → top.peak.value ≤ 1_000_000_000_000
top_small f ship top p = omega (arith, p.small, p.peak.told, p.row top.peak.slot (omega (arith, p.peak.below, p.in_slots)))

-- the greatest of a range is at most the row's
pub within_row : (f : Problem) (ship low high : ℕ) (top : Top) → IsTop f ship top → high < f.slots → greatest_value f ship low high ≤ top.row
within_row f ship low high top p lt = greatest_le f ship low high top.row (λ slot from upto. p.row slot (omega (arith, upto, lt)))
