-- How wide the texts of numbers are: a digit has nine units.
use Rattle.std.proofs.Common.{◌≡◌, ◌≤◌, ◌<◌, ◌+◌, ◌*◌, ◌/◌, ◌%◌, ◌∙◌, ◌++◌, ℕ, zero, suc, ℤ, List, [], ◌∷◌, codes, decimal, mul-le-mul, true, false, unsigned_abs, ap, refl, sym, arith}
use Rattle.std.proofs.lemmas.Bool.{lt-ltb}
use Rattle.std.proofs.lemmas.Fmt.{decimal_digit, decimal_step}
use Rattle.std.proofs.lemmas.List.Sums.{sum_by-append}
use Rattle.std.specs.Int.{is_negative}
use Rattle.hw_chart_svg.specs.Numbers.{clock, days, digit_pair, height_text, metres, sign}
use Rattle.hw_chart_svg.specs.Widths.{advance, width_of}
use Rattle.hw_chart_waters.specs.Labels.{water_words}

wide_digit : (d : ℕ) → d < 10 → advance (48 + d) ≡ 9
unfolding advance
wide_digit zero lt = refl
wide_digit (suc zero) lt = refl
wide_digit (suc (suc zero)) lt = refl
wide_digit (suc (suc (suc zero))) lt = refl
wide_digit (suc (suc (suc (suc zero)))) lt = refl
wide_digit (suc (suc (suc (suc (suc zero))))) lt = refl
wide_digit (suc (suc (suc (suc (suc (suc zero)))))) lt = refl
wide_digit (suc (suc (suc (suc (suc (suc (suc zero))))))) lt = refl
wide_digit (suc (suc (suc (suc (suc (suc (suc (suc zero)))))))) lt = refl
wide_digit (suc (suc (suc (suc (suc (suc (suc (suc (suc zero))))))))) lt = refl
wide_digit (suc (suc (suc (suc (suc (suc (suc (suc (suc (suc d)))))))))) lt = absurd (omega (arith, lt))

-- one text and then another
wide_both : (a b : List ℕ) → width_of (a ++ b) ≡ width_of a + width_of b
wide_both a b = sum_by-append advance a b

wide_one : (d : ℕ) → d < 10 → width_of ((48 + d) ∷ []) ≡ 9
wide_one d lt = ap (λ n. 0 + n) (wide_digit d lt)

is_digit_wide : (n : ℕ) → n < 10 → width_of (decimal n) ≡ 9
is_digit_wide n lt = ap width_of (decimal_digit n lt) ∙ wide_one n lt

pub one_digit : (n : ℕ) → n < 10 → 9 ≡ width_of (decimal n)
one_digit n lt = sym (is_digit_wide n lt)

one_more : (n : ℕ) → 10 ≤ n → n < 10_000 → width_of (decimal n) ≡ width_of (decimal (n / 10)) + 9
one_more n ge lt =
    ap width_of (decimal_step n ge (omega (arith, lt)))
    ∙ wide_both (decimal (n / 10)) ((48 + n % 10) ∷ [])
    ∙ ap (λ w. width_of (decimal (n / 10)) + w) (wide_one (n % 10) (omega arith))

pub two_digits : (n : ℕ) → 10 ≤ n → n / 10 < 10 → 18 ≡ width_of (decimal n)
two_digits n ge lt =
    let e = one_more n ge (omega (arith, lt)) in
    let d = one_digit (n / 10) (omega (arith, lt)) in
    omega (arith, e, d)

pub three_digits : (n : ℕ) → 10 ≤ n / 10 → n / 100 < 10 → 27 ≡ width_of (decimal n)
three_digits n ge lt =
    let e = one_more n (omega (arith, ge)) (omega (arith, lt)) in
    let d = two_digits (n / 10) (omega (arith, ge)) (omega (arith, lt)) in
    omega (arith, e, d)

pub four_digits : (n : ℕ) → 10 ≤ n / 100 → n < 10_000 → 36 ≡ width_of (decimal n)
four_digits n ge lt =
    let e = one_more n (omega (arith, ge)) (omega (arith, lt)) in
    let d = three_digits (n / 10) (omega (arith, ge)) (omega (arith, lt)) in
    omega (arith, e, d)

pub no_days_wide : (n : ℕ) → n ≤ 0 → 0 ≡ width_of (days n)
no_days_wide zero le = refl
no_days_wide (suc n) le = absurd (omega (arith, le))

pub days_wide : (n w : ℕ) → 0 < n → w ≡ width_of (decimal n) → w + 14 ≡ width_of (days n)
unfolding advance
days_wide n w lt e =
    let both : width_of (decimal n ++ codes "d ") ≡ width_of (decimal n) + 14 = wide_both (decimal n) (codes "d ") in
    rw (lt-ltb 0 n lt) (ap (λ m. m + 14) e ∙ sym both)

-- ---- times

pair_wide : (n : ℕ) → n < 100 → width_of (digit_pair n) ≡ 18
pair_wide n lt =
    let both = wide_both (decimal (n / 10)) (decimal (n % 10) ++ []) in
    let last : width_of (decimal (n % 10) ++ []) ≡ width_of (decimal (n % 10)) + 0 = wide_both (decimal (n % 10)) [] in
    let tens = is_digit_wide (n / 10) (omega (arith, lt)) in
    let ones = is_digit_wide (n % 10) (omega arith) in
    omega (arith, both, last, tens, ones)

pub clock_wide : (minutes w : ℕ) → w ≡ width_of (days (minutes / 1440)) → w + 41 ≡ width_of (clock minutes)
unfolding clock advance
clock_wide minutes w e =
    let hours : List ℕ = digit_pair (minutes / 60 % 24) in
    let rest : List ℕ = digit_pair (minutes % 60) in
    let one = wide_both (days (minutes / 1440)) (hours ++ (codes ":" ++ (rest ++ []))) in
    let two = wide_both hours (codes ":" ++ (rest ++ [])) in
    let three : width_of (codes ":" ++ (rest ++ [])) ≡ 5 + width_of (rest ++ []) = wide_both (codes ":") (rest ++ []) in
    let four : width_of (rest ++ []) ≡ width_of rest + 0 = wide_both rest [] in
    let wide_hours = pair_wide (minutes / 60 % 24) (omega arith) in
    let wide_rest = pair_wide (minutes % 60) (omega arith) in
    omega (arith, e, one, two, three, four, wide_hours, wide_rest)

-- ---- heights

pub sign_wide : (height : ℤ) → is_negative height ≡ true → 5 ≡ width_of (sign height)
unfolding advance
sign_wide height e = rw e refl

pub no_sign_wide : (height : ℤ) → is_negative height ≡ false → 0 ≡ width_of (sign height)
no_sign_wide height e = rw e refl

pub metres_wide : (length w : ℕ) → w ≡ width_of (decimal (length / 100)) → w + 23 ≡ width_of (metres length)
unfolding metres advance
metres_wide length w e =
    let tens : List ℕ = decimal (length / 10 % 10) in
    let ones : List ℕ = decimal (length % 10) in
    let one = wide_both (decimal (length / 100)) (codes "." ++ (tens ++ (ones ++ []))) in
    let two : width_of (codes "." ++ (tens ++ (ones ++ []))) ≡ 5 + width_of (tens ++ (ones ++ [])) = wide_both (codes ".") (tens ++ (ones ++ [])) in
    let three = wide_both tens (ones ++ []) in
    let four : width_of (ones ++ []) ≡ width_of ones + 0 = wide_both ones [] in
    let wide_tens = is_digit_wide (length / 10 % 10) (omega arith) in
    let wide_ones = is_digit_wide (length % 10) (omega arith) in
    omega (arith, e, one, two, three, four, wide_tens, wide_ones)

pub height_wide : (height : ℤ) (a b : ℕ) → a ≡ width_of (sign height) → b ≡ width_of (metres (unsigned_abs height)) → a + b ≡ width_of (height_text height)
unfolding height_text
height_wide height a b e f =
    let one = wide_both (sign height) (metres (unsigned_abs height) ++ []) in
    let two : width_of (metres (unsigned_abs height) ++ []) ≡ width_of (metres (unsigned_abs height)) + 0 = wide_both (metres (unsigned_abs height)) [] in
    omega (arith, e, f, one, two)

pub words_wide : (time : ℕ) (height : List ℕ) (a b : ℕ) → a ≡ width_of (clock time) → b ≡ width_of height → a + 5 + b ≡ width_of (water_words time height)
unfolding water_words advance
words_wide time height a b e f =
    let one = wide_both (clock time) (codes " " ++ (height ++ [])) in
    let two : width_of (codes " " ++ (height ++ [])) ≡ 5 + width_of (height ++ []) = wide_both (codes " ") (height ++ []) in
    let three : width_of (height ++ []) ≡ width_of height + 0 = wide_both height [] in
    omega (arith, e, f, one, two, three)

-- ---- bounds

pub product_small : (rows minutes : ℕ) → rows ≤ 3_100 → minutes ≤ 1_440 → rows * minutes ≤ 4_464_000
product_small rows minutes few short = mul-le-mul few short
