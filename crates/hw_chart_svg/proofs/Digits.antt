-- Numbers are written in digits.
use Rattle.std.proofs.Common.{◌≡◌, ◌<◌, ◌+◌, ◌%◌, ◌^◌, ◌∙◌, ◌&&◌, ℕ, Bool, true, nat_le, [], ◌∷◌, decimal, refl, arith}
use Rattle.std.specs.List.{list_all}
use Rattle.std.proofs.lemmas.Bool.{and_from, le-leb}
use Rattle.std.proofs.lemmas.List.Folds.{list_all-append}
use Rattle.std.proofs.lemmas.Fmt.{decimal_by_steps}

abbrev pub is_digit : ℕ → Bool
is_digit b = nat_le 48 b && nat_le b 57

digit : (d : ℕ) → d < 10 → list_all is_digit ((48 + d) ∷ []) ≡ true
digit d lt = rw (le-leb 48 (48 + d) (omega arith), le-leb (48 + d) 57 (omega (arith, lt))) refl

pub digits_of : (n : ℕ) → n < 2 ^ 64 → list_all is_digit (decimal n) ≡ true
digits_of n fits = decimal_by_steps (λ m ds. list_all is_digit ds ≡ true) digit (λ m ds ten before. list_all-append is_digit ds _ ∙ and_from _ _ before (digit (m % 10) (omega arith))) n fits
