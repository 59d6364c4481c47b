-- Signed numbers and their texts.
use Rattle.std.proofs.Common.{◌≡◌, ℕ, ℤ, pos, negsuc, neg_ℤ, zero, suc, ◌<◌, ◌≤◌, ◌≤ℤ◌, ◌^◌, ◌==◌, true, false, cond, List, [], ◌∷◌, length, get_or, drop, Some, None, Option, option_map, option_and_then, refl, arith, decimal, nat_le, if◌then◌else◌}
use Rattle.std.proofs.lemmas.Bool.{leb-true, eqb-true, le-leb, and_parts}
use Rattle.std.proofs.lemmas.Bool.Decides.{nat_tests}
use Rattle.std.proofs.lemmas.Fmt.{digits_decimal, decimal_nonempty}
use Rattle.std.proofs.lemmas.Int.{ints}
use Rattle.std.specs.Fmt.{signed_decimal}
use Rattle.std.specs.List.{list_all}
use Rattle.hw_text.specs.Numbers.{number_up_to, number_from_to, signed_up_to, is_digit}
use Rattle.hw_text.proofs.Digits.{own}
use Rattle.hw_text.proofs.Spelled.{is_spelled, reads_back}

-- a number in a range is a number up to the range's end, and not below its begin
in_range : (least n : ℕ) (o : Option ℕ) → option_and_then (λ m. if nat_le least m then Some m else None) o ≡ Some n → (o ≡ Some n) × (least ≤ n)
in_range least n None h = absurd cc
in_range least n (Some m) h =
    elim (nat_le least m) as (λ b. nat_le least m ≡ b → cond b (Some m) None ≡ Some n → (Some m ≡ Some n) × (least ≤ n)) [
      | true ↦ λ e k. let le : least ≤ m = leb-true _ _ e in (k, omega (arith, le, some_is m n k))
      | false ↦ λ e k. absurd cc
    ] refl h
  where
    some_is : (a b : ℕ) → Some a ≡ Some b → a ≡ b
    some_is a b k = cc

pub from_to_is : (least most : ℕ) (word : List ℕ) (n : ℕ) → most < 2 ^ 64 → number_from_to least most word ≡ Some n → (word ≡ decimal n) × (least ≤ n) × (n ≤ most)
from_to_is least most word n small h =
    let r = in_range least n (number_up_to most word) h in
    let s = is_spelled most word n small r.0 in
    (s.0, r.1, s.1)

pub from_to_reads : (least most n : ℕ) → most < 2 ^ 64 → least ≤ n → n ≤ most → number_from_to least most (decimal n) ≡ Some n
from_to_reads least most n small low high = rw (reads_back most n small high, le-leb least n low) refl

mapped : (f : ℕ → ℤ) (o : Option ℕ) (z : ℤ) → option_map f o ≡ Some z → (n : ℕ) × (o ≡ Some n) × (z ≡ f n)
mapped f None z h = absurd cc
mapped f (Some n) z h = (n, refl, cc)

abbrev Signed : ℕ → List ℕ → ℤ → Type 0
Signed most word z = (word ≡ signed_decimal z) × (neg_ℤ (pos most) ≤ℤ z) × (z ≤ℤ pos most)

-- the text after a sign is that of a number other than 0
signed_below : (most n : ℕ) (word : List ℕ) → get_or word 0 0 ≡ 45 → drop 1 word ≡ decimal n → 1 ≤ n → n ≤ most → Signed most word (neg_ℤ (pos n))
signed_below most zero word first rest low high = absurd (omega (arith, low))
signed_below most (suc n) [] first rest low high = absurd (omega (arith, first))
signed_below most (suc n) (x ∷ xs) first rest low high =
    (cons first rest, omega (arith, ints, high), omega (arith, ints))
  where
    cons : x ≡ 45 → xs ≡ decimal (suc n) → x ∷ xs ≡ 45 ∷ decimal (suc n)
    cons p q = cc

pub is_signed : (most : ℕ) (word : List ℕ) (z : ℤ) → most < 2 ^ 31 → signed_up_to most word ≡ Some z → Signed most word z
is_signed most word z small h =
    elim (get_or word 0 0 == 45) as (λ b. (get_or word 0 0 == 45) ≡ b → cond b (option_map (λ n. neg_ℤ (pos n)) (number_from_to 1 most (drop 1 word))) (option_map (λ n. pos n) (number_from_to 0 most word)) ≡ Some z → Signed most word z) [
      | true ↦ λ e k.
          let m = mapped (λ n. neg_ℤ (pos n)) _ z k in
          let s = from_to_is 1 most (drop 1 word) m.0 (omega (arith, small)) m.1 in
          rw m.2 (signed_below most m.0 word (eqb-true _ _ e) s.0 s.1 s.2)
      | false ↦ λ e k.
          let m = mapped (λ n. pos n) _ z k in
          let s = from_to_is 0 most word m.0 (omega (arith, small)) m.1 in
          let high : m.0 ≤ most = s.2 in
          rw m.2 (s.0, omega (arith, ints, high), omega (arith, ints, high))
    ] refl h

-- a digit is no sign
first_no_sign : (word : List ℕ) → list_all is_digit word ≡ true → 0 < length word → (get_or word 0 0 == 45) ≡ false
first_no_sign [] h some = absurd (omega (arith, some))
first_no_sign (x ∷ xs) h some =
    let a = and_parts _ _ h in
    let d = and_parts _ _ a.0 in
    let low : 48 ≤ x = leb-true _ _ d.0 in
    grind (arith, nat_tests, low)

pub signed_reads : (most : ℕ) (z : ℤ) → most < 2 ^ 31 → neg_ℤ (pos most) ≤ℤ z → z ≤ℤ pos most → signed_up_to most (signed_decimal z) ≡ Some z
signed_reads most (pos n) small low high =
    let le : n ≤ most = omega (arith, ints, high) in
    let fits : n < 2 ^ 64 = omega (arith, le, small) in
    rw (first_no_sign (decimal n) (digits_decimal own n fits) (decimal_nonempty n fits), from_to_reads 0 most n (omega (arith, small)) (omega arith) le) refl
signed_reads most (negsuc n) small low high =
    let le : suc n ≤ most = omega (arith, ints, low) in
    rw (from_to_reads 1 most (suc n) (omega (arith, small)) (omega arith) le) refl
