-- The tests of tolls, tariffs, prices in force and bounds find no cause exactly where what is claimed holds.
use Rattle.std.proofs.Common.{◌≡◌, ℕ, ◌<◌, ◌≤◌, Bool, true, false, cond, not, List, [], ◌∷◌, Option, Some, None, find, option_map, All, IfSome, IsSomeAnd, nat_lt, refl, ap, ◌∙◌, arith}
use Rattle.std.proofs.lemmas.Bool.{ltb-true, ltb-false, lt-ltb, and_parts, and_from}
use Rattle.std.proofs.lemmas.Bool.Decides.{nat_tests}
use Rattle.std.proofs.lemmas.List.Elements.{All-nil, All-cons, All-head, All-tail}
use Rattle.hw_model.specs.declared.lit.Lit.{Lit}
use Rattle.hw_model.specs.Problem.{Problem, shape_of}
use Rattle.hw_model.specs.Limits.{IsFlat}
use Rattle.hw_model.specs.Rooms.{whole_room}
use Rattle.hw_price_laws.specs.declared.tariff.Tariff.{Tariff}
use Rattle.hw_price_laws.specs.declared.toll.Toll.{Toll}
use Rattle.hw_price_laws.specs.Prices.{PricesRefute}
use Rattle.hw_price_laws.specs.Tolls.{IsToll}
use Rattle.hw_price_laws.proofs.Tops.{test_refutes, refutes_tested}
use Rattle.hw_cert_lines.specs.declared.check.CheckWord.TheVariants as words
use Rattle.hw_cert_lines.specs.declared.check.Refusal.{Refusal}
use Rattle.hw_cert_lines.specs.declared.line.Line.{Line}
use Rattle.hw_price_laws.specs.declared.tariff.Due.{Due}
use Rattle.hw_cert_lines.specs.Tolled.{tolls_of}
use Rattle.hw_cert_lines.specs.Valid.{Bounds, denied_room}
use Rattle.hw_cert_lines.specs.Refusals.{refused, first_unknown, tariff_refusal, priced_refusal, bounds, lower_refusal, bound_refusal}

-- ---- tolls and tariffs

pub toll_from : (few is : Bool) → cond (not few) (refused words.Many) (cond is None (refused words.Toll)) ≡ None → (few ≡ true) × (is ≡ true)
toll_from true true e = (refl, refl)
toll_from true false e = absurd cc
toll_from false is e = absurd cc

pub from_toll : (few is : Bool) → few ≡ true → is ≡ true → cond (not few) (refused words.Many) (cond is None (refused words.Toll)) ≡ None
from_toll true true a b = refl
from_toll true false a b = absurd cc
from_toll false is a b = absurd cc

pub tariff_from : (o : Option ℕ) → tariff_refusal o ≡ None → o ≡ None
tariff_from None e = refl
tariff_from (Some toll) e = absurd cc

pub known_from : (count : ℕ) (prices : List Due) → first_unknown count prices ≡ None → All (λ (one : Due). one.toll ≤ count) prices
known_from count [] e = All-nil (λ (one : Due). one.toll ≤ count)
known_from count (one ∷ prices) e =
    let parts = unfound (nat_lt count one.toll) one (find (λ (other : Due). nat_lt count other.toll) prices) e in
    All-cons (λ (one : Due). one.toll ≤ count) one prices (ltb-false count one.toll parts.0) (known_from count prices parts.1)
  where
    unfound : (b : Bool) (one : Due) (rest : Option Due) → option_map (λ (p : Due). p.toll) (cond b (Some one) rest) ≡ None → (b ≡ false) × (option_map (λ (p : Due). p.toll) rest ≡ None)
    unfound true one rest e = absurd cc
    unfound false one rest e = (refl, e)

pub from_known : (count : ℕ) (prices : List Due) → All (λ (one : Due). one.toll ≤ count) prices → first_unknown count prices ≡ None
from_known count [] all = refl
from_known count (one ∷ prices) all =
    skips (nat_lt count one.toll) (find (λ (other : Due). nat_lt count other.toll) prices) (not_past count one.toll (All-head (λ (one : Due). one.toll ≤ count) one prices all)) (from_known count prices (All-tail (λ (one : Due). one.toll ≤ count) one prices all))
  where
    not_past : (count toll : ℕ) → toll ≤ count → nat_lt count toll ≡ false
    not_past count toll le = grind (arith, nat_tests)

    skips : (b : Bool) (rest : Option Due) → b ≡ false → option_map (λ (p : Due). p.toll) rest ≡ None → option_map (λ (p : Due). p.toll) (cond b (Some one) rest) ≡ None
    skips true rest a b = absurd cc
    skips false rest a b = b

-- ---- prices in force

refuted : (b : Bool) → cond b None (refused words.Refute) ≡ None → b ≡ true
refuted true e = refl
refuted false e = absurd cc

pub priced_from : (f : Problem) (held : List Toll) (best : Option ℕ) (clause : List Lit) (o : Option Tariff) → IsFlat f → All (IsToll f) held → priced_refusal f held best clause o ≡ None → IsSomeAnd o (λ tariff. PricesRefute f held tariff best (denied_room f clause))
priced_from f held best clause None flat all e = absurd cc
priced_from f held best clause (Some tariff) flat all e = test_refutes f held tariff best (denied_room f clause) flat all (refuted _ e)

pub from_priced : (f : Problem) (held : List Toll) (best : Option ℕ) (clause : List Lit) (o : Option Tariff) → IsFlat f → All (IsToll f) held → IsSomeAnd o (λ tariff. PricesRefute f held tariff best (denied_room f clause)) → priced_refusal f held best clause o ≡ None
from_priced f held best clause None flat all h = absurd h
from_priced f held best clause (Some tariff) flat all h = ap (λ b. cond b None (refused words.Refute)) (refutes_tested f held tariff best (denied_room f clause) flat all h)

pub bounds_from : (f : Problem) (before : List Line) (tariff : Tariff) (bound : ℕ) → IsFlat f → All (IsToll f) (tolls_of before) → bounds f (tolls_of before) tariff bound ≡ true → Bounds f before bound tariff
bounds_from f before tariff bound flat all e =
    let parts = and_parts (nat_lt 0 tariff.scale) _ e in
    let some : 0 < tariff.scale = ltb-true _ _ parts.0 in
    (omega (arith, some), test_refutes f (tolls_of before) tariff (Some bound) (whole_room (shape_of f)) flat all parts.1)

pub from_bounds : (f : Problem) (before : List Line) (tariff : Tariff) (bound : ℕ) → IsFlat f → All (IsToll f) (tolls_of before) → Bounds f before bound tariff → bounds f (tolls_of before) tariff bound ≡ true
from_bounds f before tariff bound flat all h =
    let some : 1 ≤ tariff.scale = h.0 in
    and_from _ _ (lt-ltb 0 tariff.scale (omega (arith, some))) (refutes_tested f (tolls_of before) tariff (Some bound) (whole_room (shape_of f)) flat all h.1)

lower_from : (bound : ℕ) (last : Option ℕ) → lower_refusal bound last ≡ None → IfSome last (λ l. bound < l)
lower_from bound None e = tt
lower_from bound (Some last) e = ltb-true _ _ (lower (nat_lt bound last) e)
  where
    lower : (b : Bool) → cond b None (refused words.Looser) ≡ None → b ≡ true
    lower true e = refl
    lower false e = absurd cc

from_lower : (bound : ℕ) (last : Option ℕ) → IfSome last (λ l. bound < l) → lower_refusal bound last ≡ None
from_lower bound None h = refl
from_lower bound (Some last) h = ap (λ b. cond b None (refused words.Looser)) (lt-ltb _ _ h)

pub bound_from : (f : Problem) (before : List Line) (bound : ℕ) (last : Option ℕ) (o : Option Tariff) → IsFlat f → All (IsToll f) (tolls_of before) → bound_refusal f (tolls_of before) bound last o ≡ None → IsSomeAnd o (Bounds f before bound) × IfSome last (λ l. bound < l)
bound_from f before bound last None flat all e = absurd cc
bound_from f before bound last (Some tariff) flat all e =
    let parts = shown (bounds f (tolls_of before) tariff bound) (lower_refusal bound last) e in
    (bounds_from f before tariff bound flat all parts.0, lower_from bound last parts.1)
  where
    shown : (b : Bool) (o : Option Refusal) → cond b o (refused words.Refute) ≡ None → (b ≡ true) × (o ≡ None)
    shown true o e = (refl, e)
    shown false o e = absurd cc

pub from_bound : (f : Problem) (before : List Line) (bound : ℕ) (last : Option ℕ) (o : Option Tariff) → IsFlat f → All (IsToll f) (tolls_of before) → IsSomeAnd o (Bounds f before bound) → IfSome last (λ l. bound < l) → bound_refusal f (tolls_of before) bound last o ≡ None
from_bound f before bound last None flat all h less = absurd h
from_bound f before bound last (Some tariff) flat all h less =
    ap (λ b. cond b (lower_refusal bound last) (refused words.Refute)) (from_bounds f before tariff bound flat all h) ∙ from_lower bound last less
