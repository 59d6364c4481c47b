-- Minutes after a moment.
use Rattle.std.proofs.Common.{◌≡◌, ◌∙◌, ◌+◌, ◌*◌, ◌/◌, ◌%◌, ◌<◌, ℕ, sym, ap, arith}
use Rattle.hw_port_dates.specs.declared.date.Date.{Date}
use Rattle.hw_port_dates.specs.declared.moment.Moment.{Moment}
use Rattle.hw_port_dates.specs.Dates.{date, day_number, days_after}
use Rattle.hw_port_dates.specs.Moments.{in_day, later, minute_of_day}
use Rattle.hw_port_dates.specs.Laws.{CountTells, CountsAreExact, MomentsCompose}
use Rattle.hw_port_dates.proofs.Days.{days_join, days_kept, number_later, reached}

-- ---- numbers

clock : (t : ℕ) → 60 * (t % 1440 / 60) + t % 60 ≡ t % 1440
clock t = omega arith

hour_below : (t : ℕ) → t % 1440 / 60 < 24
hour_below t = omega arith

minute_below : (t : ℕ) → t % 60 < 60
minute_below t = omega arith

counted : (a b n minutes : ℕ) → b ≡ a + (n + minutes) / 1440 → 1440 * b + (n + minutes) % 1440 ≡ 1440 * a + n + minutes
counted a b n minutes e = omega (arith, e)

-- ---- the count

pub counts_law : CountsAreExact
counts_law m minutes is = record {
  moment = record { date = days_kept ((minute_of_day m + minutes) / 1440) m.date is.date; hour = hour_below (minute_of_day m + minutes); minute = minute_below (minute_of_day m + minutes) };
  count =
      ap (λ k. 1440 * day_number (days_after ((minute_of_day m + minutes) / 1440) m.date) + k) (clock (minute_of_day m + minutes))
      ∙ counted (day_number m.date) (day_number (days_after ((minute_of_day m + minutes) / 1440) m.date)) (minute_of_day m) minutes (number_later ((minute_of_day m + minutes) / 1440) m.date is.date);
}

record Same (a b h k n o : ℕ) : Type 0 where
  day : a ≡ b
  hour : h ≡ k
  minute : n ≡ o

apart : (a b h k n o : ℕ) → h < 24 → k < 24 → n < 60 → o < 60 → 1440 * a + (60 * h + n) ≡ 1440 * b + (60 * k + o) → Same a b h k n o
apart a b h k n o p q r s e = record { day = omega (arith, p, q, r, s, e); hour = omega (arith, p, q, r, s, e); minute = omega (arith, p, q, r, s, e) }

pub same_moment : (m n : Moment) → m.date ≡ n.date → m.hour ≡ n.hour → m.minute ≡ n.minute → m ≡ n
same_moment m n d h k = λ i. record { date = d i; hour = h i; minute = k i }

pub tells_law : CountTells
tells_law m n a b e =
    let s = apart (day_number m.date) (day_number n.date) m.hour n.hour m.minute n.minute a.hour b.hour a.minute b.minute e in
    same_moment m n (sym (reached m.date a.date) ∙ ap (λ k. days_after k (date 1970 1 1)) s.day ∙ reached n.date b.date) s.hour s.minute

-- ---- one after another

days_of : (t more : ℕ) → t / 1440 + (t % 1440 + more) / 1440 ≡ (t + more) / 1440
days_of t more = omega arith

hours_of : (t more : ℕ) → (t % 1440 + more) % 1440 / 60 ≡ (t + more) % 1440 / 60
hours_of t more = let e : (t % 1440 + more) % 1440 ≡ (t + more) % 1440 = omega arith in ap (λ k. k / 60) e

minutes_on : (t more : ℕ) → (t % 1440 + more) % 60 ≡ (t + more) % 60
minutes_on t more = omega arith

joined : (n first more : ℕ) → n + first + more ≡ n + (first + more)
joined n first more = omega arith

-- this many minutes after the midnight of a day that comes after the minutes t
abbrev from_days : Date → ℕ → ℕ → Moment
from_days d t minutes = in_day (days_after (t / 1440) d) minutes

in_clock : (d : Date) (t more : ℕ) → later more (in_day d t) ≡ in_day d (t + more)
in_clock d t more =
    ap (λ k. from_days d t (k + more)) (clock t)
    ∙ same_moment (from_days d t (t % 1440 + more)) (in_day d (t + more))
    (sym (days_join (t / 1440) ((t % 1440 + more) / 1440) d) ∙ ap (λ k. days_after k d) (days_of t more))
    (hours_of t more) (minutes_on t more)

pub compose_law : MomentsCompose
compose_law m first more = in_clock m.date (minute_of_day m + first) more ∙ ap (in_day m.date) (joined (minute_of_day m) first more)
