-- Numbers call for no quotes.
use Rattle.std.proofs.Common.{◌≡◌, ◌<◌, ◌≤◌, ◌+◌, ◌*◌, ◌%◌, ◌/◌, ◌∙◌, ◌++◌, ◌==◌, ℕ, zero, suc, ℤ, pos, negsuc, Bool, true, false, cond, List, [], ◌∷◌, codes, decimal, Option, Some, None, IfSome, refl, sym, ap, arith}
use Rattle.std.specs.Fmt.{digit_glyph, digits, digits_onto, signed_decimal}
use Rattle.std.proofs.lemmas.Bool.{lt-ltb, ne_eqb}
use Rattle.std.proofs.lemmas.List.Folds.{list_any-append}
use Rattle.hw_lemmas.proofs.Truths.{or_none}
use Rattle.csv.specs.Writing.{default_writer, field_text, needs_byte, needs_quotes, quoted}
use Rattle.hw_port.specs.Kept.{IsStart}
use Rattle.hw_port.specs.Whole.{Parts}
use Rattle.hw_port_model.specs.Numbers.{whole}
use Rattle.hw_port_dates.specs.declared.moment.Moment.{Moment}
use Rattle.hw_port_dates.specs.Moments.{IsMoment, moment_after, start_of}
use Rattle.hw_port_dates.specs.Texts.{clock_text, date_text, moment_text, two_digits}
use Rattle.hw_port_dates.proofs.Days.{size_most, within}
use Rattle.hw_port_dates.proofs.Moments.{counts_law}
use Rattle.hw_port_dates.proofs.Texts.{start_kept}
use Rattle.hw_port_csv.specs.Fields.{tonnes_text}
use Rattle.hw_port_csv.specs.Sailings.{minutes_text, time_text}

-- none of the bytes calls for quotes
abbrev pub IsPlain : List ℕ → Type 0
IsPlain text = needs_quotes default_writer text ≡ false

pub plain_on : (a b : List ℕ) → IsPlain a → IsPlain b → IsPlain (a ++ b)
plain_on a b e f = list_any-append (needs_byte default_writer) a b ∙ or_none _ _ e f

-- no mark is a digit
digit : (d : ℕ) → d < 10 → IsPlain ((48 + d) ∷ [])
digit d lt =
    let comma : (48 + d == 44) ≡ false = ne_eqb (48 + d) 44 (λ e. omega (arith, e)) in
    let quote : (48 + d == 34) ≡ false = ne_eqb (48 + d) 34 (λ e. omega (arith, e)) in
    let return : (48 + d == 13) ≡ false = ne_eqb (48 + d) 13 (λ e. omega (arith, e)) in
    let feed : (48 + d == 10) ≡ false = ne_eqb (48 + d) 10 (λ e. omega (arith, e)) in
    rw (comma, quote, return, feed) refl

plain_by_test : (b : Bool) (xs ys : List ℕ) → IsPlain xs → IsPlain ys → IsPlain (cond b xs ys)
plain_by_test true xs ys p q = p
plain_by_test false xs ys p q = q

glyph : (d : ℕ) → d < 10 → IsPlain (digit_glyph false d ∷ [])
glyph d lt = rw (lt-ltb d 10 lt) (digit d lt)

onto : (k n : ℕ) (acc : List ℕ) → IsPlain acc → IsPlain (digits_onto k 10 false n acc)
onto zero n acc p = p
onto (suc k) n acc p =
    let more = plain_on (digit_glyph false (n % 10) ∷ []) acc (glyph (n % 10) (omega arith)) p in
    plain_by_test (n / 10 == 0) (digit_glyph false (n % 10) ∷ acc) (digits_onto k 10 false (n / 10) (digit_glyph false (n % 10) ∷ acc)) more (onto k (n / 10) (digit_glyph false (n % 10) ∷ acc) more)

plain_decimal : (n : ℕ) → IsPlain (decimal n)
unfolding digits
plain_decimal n = onto 64 n [] refl

plain_by : (b : Bool) (text : List ℕ) → b ≡ false → cond b (quoted default_writer text) text ≡ text
plain_by true text e = absurd cc
plain_by false text e = refl

-- a field of such bytes is written as it is
pub as_it_is : (text : List ℕ) → IsPlain text → field_text default_writer text ≡ text
as_it_is text e = plain_by (needs_quotes default_writer text) text e

pub number_as_it_is : (n : ℕ) → field_text default_writer (decimal n) ≡ decimal n
number_as_it_is n = as_it_is (decimal n) (plain_decimal n)

pub signed_as_it_is : (z : ℤ) → field_text default_writer (signed_decimal z) ≡ signed_decimal z
signed_as_it_is (pos n) = number_as_it_is n
signed_as_it_is (negsuc n) = as_it_is (45 ∷ decimal (suc n)) (plain_on (45 ∷ []) (decimal (suc n)) refl (plain_decimal (suc n)))

pub tonnes_as_they_are : (t : ℕ) → field_text default_writer (tonnes_text t) ≡ tonnes_text t
tonnes_as_they_are t = as_it_is (tonnes_text t) (plain_on (decimal (t / 10)) (codes "." ++ decimal (t % 10)) (plain_decimal (t / 10)) (plain_on (codes ".") (decimal (t % 10)) refl (plain_decimal (t % 10))))

-- ---- dates

pair : (n : ℕ) → n < 100 → IsPlain (two_digits n)
pair n lt = plain_on ((48 + n / 10) ∷ []) ((48 + n % 10) ∷ []) (digit (n / 10) (omega (arith, lt))) (digit (n % 10) (omega arith))

moment_plain : (m : Moment) → IsMoment m → IsPlain (moment_text m)
moment_plain m is =
    let w = within m.date.year m.date.month m.date.day is.date in
    let hour = is.hour in
    let minute = is.minute in
    let last = w.last in
    plain_on (date_text m.date) (codes " " ++ clock_text m)
    (plain_on (decimal m.date.year) (codes "-" ++ (two_digits m.date.month ++ (codes "-" ++ two_digits m.date.day))) (plain_decimal m.date.year)
    (plain_on (codes "-") (two_digits m.date.month ++ (codes "-" ++ two_digits m.date.day)) refl
    (plain_on (two_digits m.date.month) (codes "-" ++ two_digits m.date.day) (pair m.date.month (omega (arith, last)))
    (plain_on (codes "-") (two_digits m.date.day) refl (pair m.date.day (below w.ends (size_most m.date.year m.date.month)))))))
    (plain_on (codes " ") (clock_text m) refl
    (plain_on (two_digits m.hour) (codes ":" ++ two_digits m.minute) (pair m.hour (omega (arith, hour))) (plain_on (codes ":") (two_digits m.minute) refl (pair m.minute (omega (arith, minute))))))
  where
    below : {a b : ℕ} → a ≤ b → b ≤ 31 → a < 100
    below p q = omega (arith, p, q)

minutes_as_they_are : (start : Option (List ℕ)) (minutes : ℕ) → IfSome start IsStart → field_text default_writer (minutes_text start minutes) ≡ minutes_text start minutes
minutes_as_they_are None minutes is = number_as_it_is minutes
minutes_as_they_are (Some start) minutes is = as_it_is (moment_text (moment_after start minutes)) (moment_plain (moment_after start minutes) (counts_law (start_of start) minutes (start_kept start is)).moment)

-- a slot's time after a comma
pub time_as_it_is : (p : Parts) (start : Option (List ℕ)) (slot minutes : ℕ) → start ≡ p.start → IfSome p.start IsStart → minutes ≡ slot * whole p.slot_minutes → codes "," ++ field_text default_writer (time_text p slot) ≡ codes "," ++ minutes_text start minutes
time_as_it_is p start slot minutes from is same =
    let plain : field_text default_writer (time_text p slot) ≡ time_text p slot = minutes_as_they_are p.start (slot * whole p.slot_minutes) is in
    let long : time_text p slot ≡ minutes_text start minutes = λ i. minutes_text (sym from i) (sym same i) in
    ap (λ t. 44 ∷ t) (plain ∙ long)
