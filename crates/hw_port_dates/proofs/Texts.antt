-- The text of a moment, and what it tells.
use Rattle.std.proofs.Common.{◌≡◌, ◌∙◌, ◌+◌, ◌-◌, ◌*◌, ◌/◌, ◌%◌, ◌≤◌, ◌<◌, ◌^◌, ◌&&◌, ℕ, true, nat_le, nat_eq, nat_lt, List, [], ◌∷◌, ◌++◌, zero, suc, length, get_or, drop, codes, decimal, refl, sym, ap, append_assoc, arith, length-append}
use Rattle.std.proofs.lemmas.Bool.{leb-true, ltb-true, eqb-true, and_parts}
use Rattle.std.proofs.lemmas.List.{drop_all}
use Rattle.std.proofs.Math.Seq.{drop-cons}
use Rattle.std.proofs.lemmas.Fmt.{decimal_digit, decimal_injective, decimal_step}
use Rattle.hw_port.specs.Starts.{are_digits, has_digits, has_marks, is_day, is_start, pair_at, year_of}
use Rattle.hw_text.specs.Numbers.{is_digit}
use Rattle.hw_port_dates.specs.declared.moment.Moment.{Moment}
use Rattle.hw_port_dates.specs.Dates.{days_after}
use Rattle.hw_port_dates.specs.Moments.{IsMoment, later, start_of}
use Rattle.hw_port_dates.specs.Texts.{clock_text, moment_text, two_digits}
use Rattle.hw_port_dates.specs.Laws.{StartReadsBack, TextTells}
use Rattle.hw_port_dates.proofs.Days.{within}
use Rattle.hw_port_dates.proofs.Moments.{same_moment}

-- ---- a text tells its moment

longer : (s t n : ℕ) → s ≡ t → s ≡ suc (n + t) → ⊥
longer s t n e f = omega (arith, e, f)

-- two texts that end in as many bytes
split_equal : (xs ys s t : List ℕ) → length s ≡ length t → xs ++ s ≡ ys ++ t → (xs ≡ ys) × (s ≡ t)
split_equal [] [] s t same e = (refl, e)
split_equal [] (y ∷ ys) s t same e = let k = ap length e in absurd (longer (length s) (length t) (length ys) same (k ∙ ap suc (length-append ys t)))
split_equal (x ∷ xs) [] s t same e = let k = ap length e in absurd (longer (length t) (length s) (length xs) (sym same) (sym k ∙ ap suc (length-append xs s)))
split_equal (x ∷ xs) (y ∷ ys) s t same e =
    let r = split_equal xs ys s t same (ap (drop 1) e) in
    ((λ i. get_or (e i) 0 0 ∷ r.0 i), r.1)

pair_same : (a b : ℕ) → 48 + a / 10 ≡ 48 + b / 10 → 48 + a % 10 ≡ 48 + b % 10 → a ≡ b
pair_same a b e f = omega (arith, e, f)

-- what follows a year
tail : Moment → List ℕ
tail m = (codes "-" ++ (two_digits m.date.month ++ (codes "-" ++ two_digits m.date.day))) ++ (codes " " ++ clock_text m)

after_year : (m : Moment) → moment_text m ≡ decimal m.date.year ++ tail m
unfolding tail
after_year m = append_assoc (decimal m.date.year) (codes "-" ++ (two_digits m.date.month ++ (codes "-" ++ two_digits m.date.day))) (codes " " ++ clock_text m)

twelve : (m n : Moment) → length (tail m) ≡ length (tail n)
unfolding tail
twelve m n = refl

tail_tells : (m n : Moment) → m.date.year ≡ n.date.year → tail m ≡ tail n → m ≡ n
unfolding tail
tail_tells m n year e =
    let month = pair_same m.date.month n.date.month (ap (λ l. get_or l 1 0) e) (ap (λ l. get_or l 2 0) e) in
    let day = pair_same m.date.day n.date.day (ap (λ l. get_or l 4 0) e) (ap (λ l. get_or l 5 0) e) in
    same_moment m n (λ i. record { year = year i; month = month i; day = day i })
    (pair_same m.hour n.hour (ap (λ l. get_or l 7 0) e) (ap (λ l. get_or l 8 0) e))
    (pair_same m.minute n.minute (ap (λ l. get_or l 10 0) e) (ap (λ l. get_or l 11 0) e))

pub text_law : TextTells
text_law m n p q e =
    let r = split_equal (decimal m.date.year) (decimal n.date.year) (tail m) (tail n) (twelve m n) (sym (after_year m) ∙ e ∙ after_year n) in
    tail_tells m n (decimal_injective m.date.year n.date.year p q r.0) r.1

-- ---- a start is written as it stands

-- this many bytes of a text, from this place on
from : List ℕ → ℕ → ℕ → List ℕ
from s i zero = []
from s i (suc n) = get_or s i 0 ∷ from s (i + 1) n

listed : (n i : ℕ) (s : List ℕ) → i + n ≡ length s → drop i s ≡ from s i n
unfolding from
listed zero i s e = drop_all i s (omega (arith, e))
listed (suc n) i s e =
    let one : suc i ≡ i + 1 = omega arith in
    drop-cons s i 0 (omega (arith, e)) ∙ ap (λ k. get_or s i 0 ∷ k) (ap (λ k. drop k s) one ∙ listed n (i + 1) s (omega (arith, e)))

-- a byte of a digit
record IsByte (b : ℕ) : Type 0 where
  low : 48 ≤ b
  high : b ≤ 57

byte : (b : ℕ) → is_digit b ≡ true → IsByte b
byte b is = let a = and_parts (nat_le 48 b) (nat_le b 57) is in record { low = leb-true _ _ a.0; high = leb-true _ _ a.1 }

record ArePair (s : List ℕ) (i : ℕ) : Type 0 where
  tens : IsByte (get_or s i 0)
  ones : IsByte (get_or s (i + 1) 0)

pair : (s : List ℕ) (i : ℕ) → are_digits s i ≡ true → ArePair s i
pair s i is = let a = and_parts (is_digit (get_or s i 0)) (is_digit (get_or s (i + 1) 0)) is in record { tens = byte _ a.0; ones = byte _ a.1 }

pair_text : (a b : ℕ) → IsByte a → IsByte b → two_digits (10 * (a - 48) + (b - 48)) ≡ a ∷ b ∷ []
pair_text a b p q =
    let low = p.low in
    let high = p.high in
    let least = q.low in
    let most = q.high in
    let e : 48 + (10 * (a - 48) + (b - 48)) / 10 ≡ a = omega (arith, low, high, least, most) in
    let f : 48 + (10 * (a - 48) + (b - 48)) % 10 ≡ b = omega (arith, low, high, least, most) in
    λ i. e i ∷ f i ∷ []

push : (n q d : ℕ) → 10 ≤ n → n < 2 ^ 64 → n / 10 ≡ q → 48 + n % 10 ≡ d → decimal n ≡ decimal q ++ (d ∷ [])
push n q d ten fits front end = decimal_step n ten fits ∙ (λ i. decimal (front i) ++ (end i ∷ []))

-- ten or more, with a last digit below ten
digits_join : (q d : ℕ) → 1 ≤ q → q < 1000 → IsByte d → decimal (10 * q + (d - 48)) ≡ decimal q ++ (d ∷ [])
digits_join q d some few is =
    let low = is.low in
    let high = is.high in
    push (10 * q + (d - 48)) q d (omega (arith, some)) (omega (arith, few, high)) (omega (arith, high)) (omega (arith, low, high))

four_text : (a b c d : ℕ) → IsByte a → IsByte b → IsByte c → IsByte d → 1970 ≤ 100 * (10 * (a - 48) + (b - 48)) + (10 * (c - 48) + (d - 48)) → decimal (100 * (10 * (a - 48) + (b - 48)) + (10 * (c - 48) + (d - 48))) ≡ a ∷ b ∷ c ∷ d ∷ []
four_text a b c d p q r s since =
    let al = p.low in
    let ah = p.high in
    let bh = q.high in
    let ch = r.high in
    let dh = s.high in
    let first : 1 ≤ a - 48 = omega (arith, since, bh, ch, dh) in
    let few : a - 48 < 10 = omega (arith, ah) in
    let whole : 100 * (10 * (a - 48) + (b - 48)) + (10 * (c - 48) + (d - 48)) ≡ 10 * (10 * (10 * (a - 48) + (b - 48)) + (c - 48)) + (d - 48) = omega arith in
    let spelled : 48 + (a - 48) ≡ a = omega (arith, al) in
    ap decimal whole
    ∙ digits_join (10 * (10 * (a - 48) + (b - 48)) + (c - 48)) d (omega (arith, first)) (omega (arith, few, bh, ch)) s
    ∙ ap (λ k. k ++ (d ∷ [])) (digits_join (10 * (a - 48) + (b - 48)) c (omega (arith, first)) (omega (arith, few, bh)) r
    ∙ ap (λ k. k ++ (c ∷ [])) (digits_join (a - 48) b first (omega (arith, few)) q
    ∙ ap (λ k. k ++ (b ∷ [])) (decimal_digit (a - 48) few ∙ (λ i. spelled i ∷ []))))

-- what the text of a start is like
record Spells (s : List ℕ) : Type 0 where
  size : length s ≡ 16
  century : ArePair s 0
  year : ArePair s 2
  month : ArePair s 5
  day : ArePair s 8
  hour : ArePair s 11
  minute : ArePair s 14
  first : get_or s 4 0 ≡ 45
  second : get_or s 7 0 ≡ 45
  third : get_or s 10 0 ≡ 32
  fourth : get_or s 13 0 ≡ 58
  date : is_day (year_of s) (pair_at s 5) (pair_at s 8) ≡ true
  hours : pair_at s 11 < 24
  minutes : pair_at s 14 < 60

spells : (s : List ℕ) → is_start s ≡ true → Spells s
spells s is =
    let a = and_parts (nat_eq (length s) 16) _ is in
    let b = and_parts (has_digits s && has_marks s) _ a.1 in
    let c = and_parts (has_digits s) (has_marks s) b.0 in
    let d5 = and_parts (are_digits s 0 && are_digits s 2 && are_digits s 5 && are_digits s 8 && are_digits s 11) (are_digits s 14) c.0 in
    let d4 = and_parts (are_digits s 0 && are_digits s 2 && are_digits s 5 && are_digits s 8) (are_digits s 11) d5.0 in
    let d3 = and_parts (are_digits s 0 && are_digits s 2 && are_digits s 5) (are_digits s 8) d4.0 in
    let d2 = and_parts (are_digits s 0 && are_digits s 2) (are_digits s 5) d3.0 in
    let d1 = and_parts (are_digits s 0) (are_digits s 2) d2.0 in
    let m3 = and_parts (nat_eq (get_or s 4 0) 45 && nat_eq (get_or s 7 0) 45 && nat_eq (get_or s 10 0) 32) (nat_eq (get_or s 13 0) 58) c.1 in
    let m2 = and_parts (nat_eq (get_or s 4 0) 45 && nat_eq (get_or s 7 0) 45) (nat_eq (get_or s 10 0) 32) m3.0 in
    let m1 = and_parts (nat_eq (get_or s 4 0) 45) (nat_eq (get_or s 7 0) 45) m2.0 in
    let e = and_parts (is_day (year_of s) (pair_at s 5) (pair_at s 8)) _ b.1 in
    let f = and_parts (nat_lt (pair_at s 11) 24) (nat_lt (pair_at s 14) 60) e.1 in
    record {
      size = eqb-true _ _ a.0;
      century = pair s 0 d1.0;
      year = pair s 2 d1.1;
      month = pair s 5 d2.1;
      day = pair s 8 d3.1;
      hour = pair s 11 d4.1;
      minute = pair s 14 d5.1;
      first = eqb-true _ _ m1.0;
      second = eqb-true _ _ m1.1;
      third = eqb-true _ _ m2.1;
      fourth = eqb-true _ _ m3.1;
      date = e.0;
      hours = ltb-true _ _ f.0;
      minutes = ltb-true _ _ f.1;
    }

pub start_kept : (s : List ℕ) → is_start s ≡ true → IsMoment (start_of s)
start_kept s is = let k = spells s is in record { date = k.date; hour = k.hours; minute = k.minutes }

no_days : (h m : ℕ) → h < 24 → m < 60 → (60 * h + m + 0) / 1440 ≡ 0
no_days h m p q = omega (arith, p, q)

hour_is : (h m : ℕ) → h < 24 → m < 60 → (60 * h + m + 0) % 1440 / 60 ≡ h
hour_is h m p q = omega (arith, p, q)

minute_is : (h m : ℕ) → h < 24 → m < 60 → (60 * h + m + 0) % 60 ≡ m
minute_is h m p q = omega (arith, p, q)

at_once : (m : Moment) → m.hour < 24 → m.minute < 60 → later 0 m ≡ m
unfolding days_after
at_once m p q =
    same_moment (later 0 m) m (ap (λ k. days_after k m.date) (no_days m.hour m.minute p q)) (hour_is m.hour m.minute p q) (minute_is m.hour m.minute p q)

start_text : (s : List ℕ) → Spells s → moment_text (start_of s) ≡ from s 0 16
unfolding from
start_text s k =
    let w = within (year_of s) (pair_at s 5) (pair_at s 8) k.date in
    let year = four_text (get_or s 0 0) (get_or s 1 0) (get_or s 2 0) (get_or s 3 0) k.century.tens k.century.ones k.year.tens k.year.ones w.since in
    let month = pair_text (get_or s 5 0) (get_or s 6 0) k.month.tens k.month.ones in
    let day = pair_text (get_or s 8 0) (get_or s 9 0) k.day.tens k.day.ones in
    let hour = pair_text (get_or s 11 0) (get_or s 12 0) k.hour.tens k.hour.ones in
    let minute = pair_text (get_or s 14 0) (get_or s 15 0) k.minute.tens k.minute.ones in
    let a = sym k.first in
    let b = sym k.second in
    let c = sym k.third in
    let d = sym k.fourth in
    λ i. (year i ++ ((a i ∷ []) ++ (month i ++ ((b i ∷ []) ++ day i)))) ++ ((c i ∷ []) ++ (hour i ++ ((d i ∷ []) ++ minute i)))

pub start_law : StartReadsBack
start_law s is =
    let k = spells s is in
    ap moment_text (at_once (start_of s) k.hours k.minutes) ∙ start_text s k ∙ sym (listed 16 0 s (sym k.size))
