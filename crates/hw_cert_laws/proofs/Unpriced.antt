-- Lines about tolls and prices that are refused are wrong as their words say.
use Rattle.std.proofs.Common.{◌≡◌, ℕ, zero, suc, ◌<◌, ◌≤◌, Bool, true, false, not, cond, List, [], ◌∷◌, Option, Some, None, find, option_map, length, All, IfSome, IsSomeAnd, nat_lt, refl, sym, subst, inr, arith, slice_get}
use Rattle.std.proofs.lemmas.Bool.{ltb-true, ltb-false}
use Rattle.hw_model.specs.declared.lit.Lit.{Lit}
use Rattle.hw_model.specs.Problem.{Problem}
use Rattle.hw_model.specs.Limits.{IsFlat}
use Rattle.hw_price_laws.specs.declared.tariff.Tariff.{Tariff}
use Rattle.hw_price_laws.specs.declared.toll.Toll.{Toll}
use Rattle.hw_price_laws.specs.Computed.{prices_refute}
use Rattle.hw_price_laws.specs.Judged.{is_toll}
use Rattle.hw_price_laws.specs.Prices.{PricesRefute}
use Rattle.hw_price_laws.specs.Tolls.{IsToll}
use Rattle.hw_price_laws.proofs.Judging.{judges}
use Rattle.hw_price_laws.proofs.Tops.{refutes_tested}
use Rattle.hw_cert_lines.specs.declared.check.CheckWord.TheVariants as words
use Rattle.hw_cert_lines.specs.declared.check.Refusal.{Refusal}
use Rattle.hw_cert_lines.specs.declared.line.Line.{Line}
use Rattle.hw_cert_lines.specs.declared.line.Line.TheVariants as lines
use Rattle.hw_price_laws.specs.declared.tariff.Due.{Due}
use Rattle.hw_cert_lines.specs.Lines.{best_of}
use Rattle.hw_cert_lines.specs.Tolled.{toll_of, tolls_of, tariff_of, bound_of}
use Rattle.hw_cert_lines.specs.Valid.{Bounds, denied_room}
use Rattle.hw_cert_lines.specs.Refusals.{refused, toll_refusal, first_unknown, tariff_refusal, priced_refusal, bounds, lower_refusal, bound_refusal}
use Rattle.hw_cert_laws.specs.Causes.{FirstUnknown, Wrong}
use Rattle.hw_cert_laws.proofs.Priced.{bounds_from, from_bounds}

-- a line that is refused with this is wrong so
abbrev pub Caused : Problem → List Line → Line → Option Refusal → Type 0
Caused f before line why = IfSome why (λ r. Wrong f before line r.word r.hint)

-- ---- tolls and tariffs

pub toll_cause : (f : Problem) (before : List Line) (line : Line) (toll : Toll) → toll_of line ≡ Some toll → Caused f before line (toll_refusal f (tolls_of before) toll)
toll_cause f before line toll of = by (nat_lt (length (tolls_of before)) 10_000) refl (is_toll f toll) refl
  where
    by : (few : Bool) → nat_lt (length (tolls_of before)) 10_000 ≡ few → (is : Bool) → is_toll f toll ≡ is → Caused f before line (cond (not few) (refused words.Many) (cond is None (refused words.Toll)))
    by false e is d =
        let many : 10_000 ≤ length (tolls_of before) = ltb-false _ _ e in
        (refl, inr (subst (λ o. IsSomeAnd o (λ one. 10_000 ≤ length (tolls_of before))) (sym of) many))
    by true e true d = tt
    by true e false d = (
      refl,
      subst (λ o. IsSomeAnd o (λ one. IsToll f one → ⊥)) (sym of) (λ h.
          let does = judges f toll h in
          absurd cc),
    )

unknown_from : (count : ℕ) (prices : List Due) (toll : ℕ) → first_unknown count prices ≡ Some toll → FirstUnknown count prices toll
unknown_from count [] toll e = absurd cc
unknown_from count (one ∷ prices) toll e = by (nat_lt count one.toll) refl (unknown_from count prices toll) e
  where
    by : (b : Bool) → nat_lt count one.toll ≡ b → (first_unknown count prices ≡ Some toll → FirstUnknown count prices toll)
        → option_map (λ (p : Due). p.toll) (cond b (Some one) (find (λ (p : Due). nat_lt count p.toll) prices)) ≡ Some toll → FirstUnknown count (one ∷ prices) toll
    by true past rest found =
        let same : one.toll ≡ toll = cc in
        record { place = 0; stands = same; unknown = subst (λ n. count < n) same (ltb-true _ _ past); earlier = λ i lt. absurd (omega (arith, lt)) }
    by false known rest found =
        let more = rest found in
        record { place = suc more.place; stands = more.stands; unknown = more.unknown; earlier = λ i lt. earlier_of more i lt (ltb-false _ _ known) }
      where
        earlier_of : (more : FirstUnknown count prices toll) (i : ℕ) → i < suc more.place → one.toll ≤ count → IfSome (slice_get (one ∷ prices) i) (λ other. other.toll ≤ count)
        earlier_of more zero lt le = le
        earlier_of more (suc i) lt le = more.earlier i (omega (arith, lt))

pub tariff_cause : (f : Problem) (before : List Line) (tariff : Tariff) → Caused f before (lines.Tariff tariff) (tariff_refusal (first_unknown (length (tolls_of before)) tariff.dues))
tariff_cause f before tariff = by (first_unknown (length (tolls_of before)) tariff.dues) refl
  where
    by : (o : Option ℕ) → first_unknown (length (tolls_of before)) tariff.dues ≡ o → Caused f before (lines.Tariff tariff) (tariff_refusal o)
    by None e = tt
    by (Some toll) e = unknown_from (length (tolls_of before)) tariff.dues toll e

-- ---- prices in force

pub priced_cause : (f : Problem) (before : List Line) (clause : List Lit) → IsFlat f → All (IsToll f) (tolls_of before) → Caused f before (lines.Priced clause) (priced_refusal f (tolls_of before) (best_of f before) clause (tariff_of before))
priced_cause f before clause flat all = by (tariff_of before) refl
  where
    weighed : (tariff : Tariff) (b : Bool) → tariff_of before ≡ Some tariff → prices_refute f (tolls_of before) tariff (best_of f before) (denied_room f clause) ≡ b → Caused f before (lines.Priced clause) (cond b None (refused words.Refute))
    weighed tariff true e d = tt
    weighed tariff false e d = (
      refl,
      subst (λ o. IsSomeAnd o (λ prices. PricesRefute f (tolls_of before) prices (best_of f before) (denied_room f clause) → ⊥)) (sym e) (λ h.
          let does = refutes_tested f (tolls_of before) tariff (best_of f before) (denied_room f clause) flat all h in
          absurd cc),
    )

    by : (o : Option Tariff) → tariff_of before ≡ o → Caused f before (lines.Priced clause) (priced_refusal f (tolls_of before) (best_of f before) clause o)
    by None e = (refl, e)
    by (Some tariff) e = weighed tariff (prices_refute f (tolls_of before) tariff (best_of f before) (denied_room f clause)) e refl

pub bound_cause : (f : Problem) (before : List Line) (bound : ℕ) → IsFlat f → All (IsToll f) (tolls_of before) → Caused f before (lines.Bound bound) (bound_refusal f (tolls_of before) bound (bound_of before) (tariff_of before))
bound_cause f before bound flat all = by (tariff_of before) refl
  where
    lower : (tariff : Tariff) (last : ℕ) (b : Bool) → tariff_of before ≡ Some tariff → bounds f (tolls_of before) tariff bound ≡ true → bound_of before ≡ Some last → nat_lt bound last ≡ b → Caused f before (lines.Bound bound) (cond b None (refused words.Looser))
    lower tariff last true e d l n = tt
    lower tariff last false e d l n = (
      refl,
      record {
        bound = bound;
        is = refl;
        shown = subst (λ o. IsSomeAnd o (Bounds f before bound)) (sym e) (bounds_from f before tariff bound flat all d);
        not_lower = subst (λ o. IsSomeAnd o (λ most. most ≤ bound)) (sym l) (ltb-false bound last n);
      },
    )

    weighed : (tariff : Tariff) (b : Bool) (last : Option ℕ) → tariff_of before ≡ Some tariff → bounds f (tolls_of before) tariff bound ≡ b → bound_of before ≡ last → Caused f before (lines.Bound bound) (cond b (lower_refusal bound last) (refused words.Refute))
    weighed tariff true None e d l = tt
    weighed tariff true (Some last) e d l = lower tariff last (nat_lt bound last) e d l refl
    weighed tariff false last e d l = (
      refl,
      subst (λ o. IsSomeAnd o (λ prices. Bounds f before bound prices → ⊥)) (sym e) (λ h.
          let does = from_bounds f before tariff bound flat all h in
          absurd cc),
    )

    by : (o : Option Tariff) → tariff_of before ≡ o → Caused f before (lines.Bound bound) (bound_refusal f (tolls_of before) bound (bound_of before) o)
    by None e = (refl, e)
    by (Some tariff) e = weighed tariff (bounds f (tolls_of before) tariff bound) (bound_of before) e refl refl
