-- Numbers and their texts.
use Rattle.std.proofs.Common.{◌≡◌, ℕ, ◌<◌, ◌≤◌, ◌^◌, ◌&&◌, ◌||◌, Bool, true, false, cond, List, length, get_or, Some, None, refl, sym, ap, ◌∙◌, arith, decimal, inl, inr, ◌==◌, nat_lt}
use Rattle.std.proofs.lemmas.Bool.{ltb-true, leb-true, eqb-true, lt-ltb, le-leb, and_parts, or_cases, or_left, or_right, cases_lt}
use Rattle.std.proofs.lemmas.Fmt.{decimal-digits_value, digits_decimal, digits_value-decimal, decimal_nonempty, first_decimal, decimal_digit}
use Rattle.std.specs.Str.Parse.{digits_value}
use Rattle.hw_lemmas.proofs.Truths.{given_by}
use Rattle.hw_text.specs.Numbers.{number_up_to}
use Rattle.hw_text.proofs.Digits.{own}

pub is_spelled : (most : ℕ) (word : List ℕ) (n : ℕ) → most < 2 ^ 64 → number_up_to most word ≡ Some n → (word ≡ decimal n) × (n ≤ most)
is_spelled most word n small e =
    let g = given_by _ (digits_value 10 word) n e in
    let a = and_parts _ _ g.0 in
    let d = and_parts _ _ a.0 in
    let s = and_parts _ _ d.1 in
    let some : 0 < length word = ltb-true _ _ s.0 in
    let lead : get_or word 0 0 ≡ 48 → length word ≡ 1 = λ h. elim (or_cases _ _ s.1) [
      | inl one ↦ eqb-true _ _ one
      | inr past ↦
          let big : 48 < get_or word 0 0 = ltb-true _ _ past in
          absurd (omega (arith, h, big))
    ] in
    let within : digits_value 10 word ≤ most = leb-true _ _ a.1 in
    let text : decimal (digits_value 10 word) ≡ word = decimal-digits_value own word d.0 some lead (omega (arith, within, small)) in
    (sym text ∙ ap decimal g.1, omega (arith, within, g.1))

all_true : (a b c d : Bool) (x : ℕ) → a ≡ true → b ≡ true → c ≡ true → d ≡ true → cond ((a && (b && c)) && d) (Some x) None ≡ Some x
all_true true true true true x p q r s = refl
all_true false b c d x p q r s = absurd cc
all_true true false c d x p q r s = absurd cc
all_true true true false d x p q r s = absurd cc
all_true true true true false x p q r s = absurd cc

pub reads_back : (most n : ℕ) → most < 2 ^ 64 → n ≤ most → number_up_to most (decimal n) ≡ Some n
reads_back most n small le =
    let fits : n < 2 ^ 64 = omega (arith, small, le) in
    let value : digits_value 10 (decimal n) ≡ n = digits_value-decimal own n fits in
    let lead : ((length (decimal n) == 1) || nat_lt 48 (get_or (decimal n) 0 0)) ≡ true =
    elim (cases_lt 0 n) [
      | inl some ↦ or_right _ _ (lt-ltb _ _ (first_decimal n some fits))
      | inr none ↦
          let d = decimal_digit n (omega (arith, none)) in
          let one : (length (decimal n) == 1) ≡ true = rw d refl in
          or_left _ _ one
    ] in
    all_true _ _ _ _ _ (digits_decimal own n fits) (lt-ltb _ _ (decimal_nonempty n fits)) lead (le-leb _ _ (omega (arith, value, le)))
    ∙ ap (λ k. Some k) value
