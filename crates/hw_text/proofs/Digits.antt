-- Digits and the number that they spell.
use Rattle.std.proofs.Common.{◌≡◌, ℕ, ◌<◌, ◌≤◌, ◌^◌, true, List, length, Option, MatchOption, Result, Ok, Err, rules, inl, inr}
use Rattle.std.proofs.lemmas.Bool.{cases_lt}
use Rattle.std.specs.Prelude.{IsUtf8}
use Rattle.std.specs.List.{list_all}
use Rattle.std.specs.Result.{OkIff, result_ok}
use Rattle.std.specs.Str.Parse.{digits_value, ParsesUnsigned}
use Rattle.std.proofs.lemmas.Str.{IsUtf8-from_ascii}
use Rattle.std.proofs.lemmas.Fmt.{IsAscii-from_digits}
use Rattle.std.proofs.lemmas.Str.Parse.{IsNumeralModel, numerals_by_value, parse_digits}
use Rattle.hw_text.specs.Numbers.{is_digit}

pub own : IsNumeralModel (λ ds. list_all is_digit ds ≡ true) (digits_value 10)
own = numerals_by_value _ (search rules)

pub is_ascii : (word : List ℕ) → list_all is_digit word ≡ true → IsUtf8 word
is_ascii word h = IsUtf8-from_ascii word (IsAscii-from_digits word (own.to word h))

fits_or_past : {E : Type 0} (r : Result ℕ E) (n : ℕ) (some : Type 0) → some → OkIff r (some × (n < 2 ^ 64)) n → MatchOption (result_ok r) (2 ^ 64 ≤ n) (λ m. m ≡ n)
fits_or_past (Ok x) n some s h = h.1
fits_or_past (Err e) n some s h =
    elim (cases_lt n (2 ^ 64)) [
      | inl lt ↦ absurd (h (s, lt))
      | inr le ↦ le
    ]

pub is_value : {E : Type 0} (word text : List ℕ) (r : Result ℕ E) (o : Option ℕ) → text ≡ word → ParsesUnsigned 64 10 text r → o ≡ result_ok r → list_all is_digit word ≡ true → 0 < length word → MatchOption o (2 ^ 64 ≤ digits_value 10 word) (λ n. n ≡ digits_value 10 word)
is_value word text r o same parsed is h some =
    let p = rw same at parsed in
    rw is (fits_or_past r (digits_value 10 word) (0 < length word) some (parse_digits own 64 word r p h))
