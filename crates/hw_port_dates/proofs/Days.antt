-- The day some days after another, and its number.
use Rattle.std.proofs.Common.{◌≡◌, ◌∙◌, ◌+◌, ◌-◌, ◌≤◌, ◌<◌, ◌&&◌, ℕ, zero, suc, nat_le, nat_lt, Bool, true, false, cond, refl, sym, ap, subst, inl, inr, arith}
use Rattle.std.proofs.lemmas.Bool.{lt-ltb, le-leb, leb-true, and_parts, and_from, cases_lt, le-ltb}
use Rattle.hw_port.specs.Starts.{days_of_month, has_thirty, is_day, is_leap}
use Rattle.hw_port_dates.specs.declared.date.Date.{Date}
use Rattle.hw_port_dates.specs.Dates.{IsDate, date, day_number, days_after, days_of_months, days_of_year, days_of_years, first_of_next, next_day}

-- ---- days of the calendar

-- its numbers lie between these
pub record IsWithin (year month day : ℕ) : Type 0 where
  pub since : 1970 ≤ year
  pub first : 1 ≤ month
  pub last : month ≤ 12
  pub begins : 1 ≤ day
  pub ends : day ≤ days_of_month year month

pub within : (year month day : ℕ) → is_day year month day ≡ true → IsWithin year month day
within year month day is =
    let a = and_parts (nat_le 1970 year && (nat_le 1 month && nat_le month 12)) (nat_le 1 day && nat_le day (days_of_month year month)) is in
    let b = and_parts (nat_le 1970 year) (nat_le 1 month && nat_le month 12) a.0 in
    let m = and_parts (nat_le 1 month) (nat_le month 12) b.1 in
    let d = and_parts (nat_le 1 day) (nat_le day (days_of_month year month)) a.1 in
    record { since = leb-true _ _ b.0; first = leb-true _ _ m.0; last = leb-true _ _ m.1; begins = leb-true _ _ d.0; ends = leb-true _ _ d.1 }

pub is_within : (year month day : ℕ) → IsWithin year month day → is_day year month day ≡ true
is_within year month day w =
    and_from (nat_le 1970 year && (nat_le 1 month && nat_le month 12)) (nat_le 1 day && nat_le day (days_of_month year month))
    (and_from (nat_le 1970 year) (nat_le 1 month && nat_le month 12) (le-leb _ _ w.since) (and_from (nat_le 1 month) (nat_le month 12) (le-leb _ _ w.first) (le-leb _ _ w.last)))
    (and_from (nat_le 1 day) (nat_le day (days_of_month year month)) (le-leb _ _ w.begins) (le-leb _ _ w.ends))

size_by : (two leap thirty : Bool) → 28 ≤ cond two (cond leap 29 28) (cond thirty 30 31)
size_by true true thirty = omega arith
size_by true false thirty = omega arith
size_by false leap true = omega arith
size_by false leap false = omega arith

pub size_least : (year month : ℕ) → 28 ≤ days_of_month year month
size_least year month = size_by _ (is_leap year) (has_thirty month)

most_by : (two leap thirty : Bool) → cond two (cond leap 29 28) (cond thirty 30 31) ≤ 31
most_by true true thirty = omega arith
most_by true false thirty = omega arith
most_by false leap true = omega arith
most_by false leap false = omega arith

pub size_most : (year month : ℕ) → days_of_month year month ≤ 31
size_most year month = most_by _ (is_leap year) (has_thirty month)

-- ---- the next day

yes_by : (b : Bool) (x y : Date) → b ≡ true → cond b x y ≡ x
yes_by true x y is = refl
yes_by false x y is = absurd cc

no_by : (b : Bool) (x y : Date) → b ≡ false → cond b x y ≡ y
no_by false x y is = refl
no_by true x y is = absurd cc

next_in : (year month day : ℕ) → day < days_of_month year month → next_day (date year month day) ≡ date year month (day + 1)
next_in year month day lt = yes_by (nat_lt day (days_of_month year month)) (date year month (day + 1)) (first_of_next (date year month day)) (lt-ltb _ _ lt)

next_over : (year month day : ℕ) → days_of_month year month ≤ day → next_day (date year month day) ≡ first_of_next (date year month day)
next_over year month day le = no_by (nat_lt day (days_of_month year month)) (date year month (day + 1)) (first_of_next (date year month day)) (le-ltb _ _ le)

month_in : (year month day : ℕ) → month < 12 → first_of_next (date year month day) ≡ date year (month + 1) 1
month_in year month day lt = yes_by (nat_lt month 12) (date year (month + 1) 1) (date (year + 1) 1 1) (lt-ltb _ _ lt)

month_over : (year month day : ℕ) → 12 ≤ month → first_of_next (date year month day) ≡ date (year + 1) 1 1
month_over year month day le = no_by (nat_lt month 12) (date year (month + 1) 1) (date (year + 1) 1 1) (le-ltb _ _ le)

-- ---- some days after

-- some days and then some more
pub days_join : (n m : ℕ) (d : Date) → days_after (n + m) d ≡ days_after m (days_after n d)
unfolding days_after
days_join zero m d = let e : 0 + m ≡ m = omega arith in ap (λ k. days_after k d) e
days_join (suc n) m d = let e : suc n + m ≡ suc (n + m) = omega arith in ap (λ k. days_after k d) e ∙ days_join n m (next_day d)

below : (a n size : ℕ) → a + suc n ≤ size → a < size
below a n size le = omega (arith, le)

step : (a n size : ℕ) → a + suc n ≤ size → a + 1 + n ≤ size
step a n size le = omega (arith, le)

-- of one month
pub days_in : (n year month day : ℕ) → day + n ≤ days_of_month year month → days_after n (date year month day) ≡ date year month (day + n)
unfolding days_after
days_in zero year month day le = let e : day ≡ day + 0 = omega arith in ap (λ k. date year month k) e
days_in (suc n) year month day le =
    let e : day + 1 + n ≡ day + suc n = omega arith in
    ap (λ d. days_after n d) (next_in year month day (below day n (days_of_month year month) le))
    ∙ days_in n year month (day + 1) (step day n (days_of_month year month) le)
    ∙ ap (λ k. date year month k) e

one_after : (d : Date) → days_after 1 d ≡ next_day d
unfolding days_after
one_after d = refl

exact : (day n size : ℕ) → day + n ≡ size → (day + n ≤ size) × (size ≤ day + n)
exact day n size e = (omega (arith, e), omega (arith, e))

-- one more than is left of the month
pub month_after : (n year month day : ℕ) → day + n ≡ days_of_month year month → days_after (n + 1) (date year month day) ≡ first_of_next (date year month day)
month_after n year month day e =
    let x = exact day n (days_of_month year month) e in
    days_join n 1 (date year month day) ∙ ap (λ d. days_after 1 d) (days_in n year month day x.0) ∙ one_after (date year month (day + n)) ∙ next_over year month (day + n) x.1

-- ---- it is a day of the calendar, and its number

more : (day size : ℕ) → day < size → day + 1 ≤ size
more day size lt = omega (arith, lt)

least : (size : ℕ) → 28 ≤ size → 1 ≤ size
least size le = omega (arith, le)

first_kept : (year month : ℕ) → 1970 ≤ year → 1 ≤ month → month ≤ 12 → IsDate (date year month 1)
first_kept year month y a b = is_within year month 1 (record { since = y; first = a; last = b; begins = omega arith; ends = least (days_of_month year month) (size_least year month) })

first_within : (year month day : ℕ) → IsWithin year month day → IsDate (first_of_next (date year month day))
first_within year month day w =
    let y = w.since in
    elim (cases_lt month 12) [
      | inl lt ↦ subst IsDate (sym (month_in year month day lt)) (first_kept year (month + 1) y (omega arith) (omega (arith, lt)))
      | inr le ↦ subst IsDate (sym (month_over year month day le)) (first_kept (year + 1) 1 (omega (arith, y)) (omega arith) (omega arith))
    ]

next_within : (year month day : ℕ) → IsWithin year month day → IsDate (next_day (date year month day))
next_within year month day w =
    elim (cases_lt day (days_of_month year month)) [
      | inl lt ↦
          let k : IsWithin year month (day + 1) = record { since = w.since; first = w.first; last = w.last; begins = omega arith; ends = more day (days_of_month year month) lt } in
          subst IsDate (sym (next_in year month day lt)) (is_within year month (day + 1) k)
      | inr le ↦ subst IsDate (sym (next_over year month day le)) (first_within year month day w)
    ]

pub days_kept : (n : ℕ) (d : Date) → IsDate d → IsDate (days_after n d)
unfolding days_after
days_kept zero d is = is
days_kept (suc n) d is = days_kept n (next_day d) (next_within d.year d.month d.day (within d.year d.month d.day is))

none : 1 ≤ 0 → ⊥
none le = omega (arith, le)

plus : (a b n : ℕ) {c : ℕ} → b ≡ a + 1 → c ≡ b + n → c ≡ a + suc n
plus a b n e f = omega (arith, e, f)

-- a number above 27 and the one before it
parts : (size : ℕ) → 28 ≤ size → (size ≡ size - 1 + 1) × (1 + (size - 1) ≡ size)
parts size le = (omega (arith, le), omega (arith, le))

-- the days of one more month
months_more : (year m : ℕ) → days_of_months year (suc m) ≡ days_of_months year m + days_of_month year (suc m)
unfolding days_of_months
months_more year m = refl

pub no_months : (year : ℕ) → days_of_months year 0 ≡ 0
unfolding days_of_months
no_months year = refl

years_more : (n : ℕ) → days_of_years (suc n) ≡ days_of_years n + days_of_year (1970 + n)
unfolding days_of_years
years_more n = refl

pub no_years : days_of_years 0 ≡ 0
unfolding days_of_years
no_years = refl

sum_in : (a b day : ℕ) → 1 ≤ day → a + b + (day + 1 - 1) ≡ a + b + (day - 1) + 1
sum_in a b day le = omega (arith, le)

sum_month : (a b c size day : ℕ) → c ≡ b + size → 1 ≤ day → day ≡ size → a + c + (1 - 1) ≡ a + b + (day - 1) + 1
sum_month a b c size day e le is = omega (arith, e, le, is)

sum_year : (a b c x z size day : ℕ) → x ≡ a + c → c ≡ b + size → z ≡ 0 → 1 ≤ day → day ≡ size → x + z + (1 - 1) ≡ a + b + (day - 1) + 1
sum_year a b c x z size day e f g le is = omega (arith, e, f, g, le, is)

last_day : (day size : ℕ) → day ≤ size → size ≤ day → day ≡ size
last_day day size le ge = omega (arith, le, ge)

number_first : (year m day : ℕ) → IsWithin year (suc m) day → days_of_month year (suc m) ≤ day → day_number (first_of_next (date year (suc m) day)) ≡ day_number (date year (suc m) day) + 1
number_first year m day w ge =
    let last : day ≡ days_of_month year (suc m) = last_day day (days_of_month year (suc m)) w.ends ge in
    let front : suc m - 1 ≡ m = omega arith in
    let after : suc m + 1 - 1 ≡ suc m = omega arith in
    elim (cases_lt (suc m) 12) [
      | inl lt ↦
          ap day_number (month_in year (suc m) day lt)
          ∙ sum_month (days_of_years (year - 1970)) (days_of_months year (suc m - 1)) (days_of_months year (suc m + 1 - 1)) (days_of_month year (suc m)) day
          (ap (days_of_months year) after ∙ months_more year m ∙ ap (λ k. days_of_months year k + days_of_month year (suc m)) (sym front)) w.begins last
      | inr ge ↦
          let y = w.since in
          let next : year + 1 - 1970 ≡ suc (year - 1970) = omega (arith, y) in
          let same : 1970 + (year - 1970) ≡ year = omega (arith, y) in
          let le = w.last in
          let twelve : 12 ≡ suc m = omega (arith, le, ge) in
          ap day_number (month_over year (suc m) day ge)
          ∙ sum_year (days_of_years (year - 1970)) (days_of_months year (suc m - 1)) (days_of_months year 12) (days_of_years (year + 1 - 1970)) (days_of_months (year + 1) (1 - 1)) (days_of_month year (suc m)) day
          (ap days_of_years next ∙ years_more (year - 1970) ∙ ap (λ k. days_of_years (year - 1970) + days_of_months k 12) same)
          (ap (days_of_months year) twelve ∙ months_more year m ∙ ap (λ k. days_of_months year k + days_of_month year (suc m)) (sym front))
          (no_months (year + 1)) w.begins last
    ]

number_next : (year month day : ℕ) → IsWithin year month day → day_number (next_day (date year month day)) ≡ day_number (date year month day) + 1
number_next year zero day w = absurd (none w.first)
number_next year (suc m) day w =
    elim (cases_lt day (days_of_month year (suc m))) [
      | inl lt ↦ ap day_number (next_in year (suc m) day lt) ∙ sum_in (days_of_years (year - 1970)) (days_of_months year (suc m - 1)) day w.begins
      | inr ge ↦ ap day_number (next_over year (suc m) day ge) ∙ number_first year m day w ge
    ]

pub number_later : (n : ℕ) (d : Date) → IsDate d → day_number (days_after n d) ≡ day_number d + n
unfolding days_after
number_later zero d is = omega arith
number_later (suc n) d is =
    let w = within d.year d.month d.day is in
    plus (day_number d) (day_number (next_day d)) n (number_next d.year d.month d.day w)
    (number_later n (next_day d) (next_within d.year d.month d.day w))

-- ---- month by month

pub month_kept : (d : Date) → IsDate d → IsDate (first_of_next d)
month_kept d is = first_within d.year d.month d.day (within d.year d.month d.day is)

year_by : (b : Bool) (year month : ℕ) → (cond b (date year month 1) (date (year + 1) 1 1)).year ≤ year + 1
year_by true year month = omega arith
year_by false year month = omega arith

pub year_on : (d : Date) → (first_of_next d).year ≤ d.year + 1
year_on d = year_by (nat_lt d.month 12) d.year (d.month + 1)

rest_of : (left rest : ℕ) → left < rest → left + 1 + (rest - (left + 1)) ≡ rest
rest_of left rest lt = omega (arith, lt)

pub walks : (left rest : ℕ) (d : Date) → d.day + left ≡ days_of_month d.year d.month → left < rest → days_after (rest - (left + 1)) (first_of_next d) ≡ days_after rest d
walks left rest d e lt =
    sym (ap (days_after (rest - (left + 1))) (month_after left d.year d.month d.day e))
    ∙ sym (days_join (left + 1) (rest - (left + 1)) d)
    ∙ ap (λ k. days_after k d) (rest_of left rest lt)

inside : (day left rest size : ℕ) → day + left ≡ size → rest ≤ left → day + rest ≤ size
inside day left rest size e le = omega (arith, e, le)

pub arrives : (left rest : ℕ) (d : Date) → d.day + left ≡ days_of_month d.year d.month → rest ≤ left → date d.year d.month (d.day + rest) ≡ days_after rest d
arrives left rest d e le = sym (days_in rest d.year d.month d.day (inside d.day left rest (days_of_month d.year d.month) e le))

pub months_on : (year m : ℕ) → days_of_months year (m + 1) ≡ days_of_months year m + days_of_month year (m + 1)
months_on year m = let e : m + 1 ≡ suc m = omega arith in ap (days_of_months year) e ∙ months_more year m ∙ ap (λ k. days_of_months year m + days_of_month year k) (sym e)

pub years_on : (n : ℕ) → days_of_years (n + 1) ≡ days_of_years n + days_of_months (1970 + n) 12
years_on n = let e : n + 1 ≡ suc n = omega arith in ap days_of_years e ∙ years_more n

-- ---- each day comes after 1970-01-01

abbrev epoch : Date
epoch = date 1970 1 1

whole_month : (year month : ℕ) → days_after (days_of_month year month) (date year month 1) ≡ first_of_next (date year month 1)
whole_month year month =
    let e = parts (days_of_month year month) (size_least year month) in
    ap (λ k. days_after k (date year month 1)) e.0 ∙ month_after (days_of_month year month - 1) year month 1 e.1

months_after : (m year : ℕ) → m < 12 → days_after (days_of_months year m) (date year 1 1) ≡ date year (m + 1) 1
unfolding days_of_months days_after
months_after zero year lt = refl
months_after (suc m) year lt =
    let one : m + 1 ≡ suc m = omega arith in
    days_join (days_of_months year m) (days_of_month year (suc m)) (date year 1 1)
    ∙ ap (days_after (days_of_month year (suc m))) (months_after m year (omega (arith, lt)) ∙ ap (λ k. date year k 1) one)
    ∙ whole_month year (suc m)
    ∙ month_in year (suc m) 1 lt

whole_year : (year : ℕ) → days_after (days_of_year year) (date year 1 1) ≡ date (year + 1) 1 1
whole_year year =
    ap (λ k. days_after k (date year 1 1)) (months_more year 11)
    ∙ days_join (days_of_months year 11) (days_of_month year 12) (date year 1 1)
    ∙ ap (days_after (days_of_month year 12)) (months_after 11 year (omega arith))
    ∙ whole_month year 12
    ∙ month_over year 12 1 (omega arith)

years_after : (n : ℕ) → days_after (days_of_years n) epoch ≡ date (1970 + n) 1 1
unfolding days_of_years days_after
years_after zero = refl
years_after (suc n) =
    let one : 1970 + n + 1 ≡ 1970 + suc n = omega arith in
    days_join (days_of_years n) (days_of_year (1970 + n)) epoch
    ∙ ap (days_after (days_of_year (1970 + n))) (years_after n)
    ∙ whole_year (1970 + n)
    ∙ ap (λ k. date k 1 1) one

pub reached : (d : Date) → IsDate d → days_after (day_number d) epoch ≡ d
reached d is =
    let w = within d.year d.month d.day is in
    let y = w.since in
    let a = w.first in
    let b = w.last in
    let c = w.begins in
    let year : 1970 + (d.year - 1970) ≡ d.year = omega (arith, y) in
    let month : d.month - 1 + 1 ≡ d.month = omega (arith, a) in
    let day : 1 + (d.day - 1) ≡ d.day = omega (arith, c) in
    days_join (days_of_years (d.year - 1970) + days_of_months d.year (d.month - 1)) (d.day - 1) epoch
    ∙ ap (days_after (d.day - 1)) (days_join (days_of_years (d.year - 1970)) (days_of_months d.year (d.month - 1)) epoch
    ∙ ap (days_after (days_of_months d.year (d.month - 1))) (years_after (d.year - 1970) ∙ ap (λ k. date k 1 1) year)
    ∙ months_after (d.month - 1) d.year (omega (arith, a, b))
    ∙ ap (λ k. date d.year k 1) month)
    ∙ days_in (d.day - 1) d.year d.month 1 (subst (λ k. k ≤ days_of_month d.year d.month) (sym day) w.ends)
    ∙ ap (λ k. date d.year d.month k) day
