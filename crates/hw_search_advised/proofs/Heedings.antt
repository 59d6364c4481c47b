-- What is heeded, one part after another.
use Rattle.std.proofs.Common.{◌≡◌, ◌≤◌, List, [], ◌∷◌, ◌++◌, All, length, sym, ap, ◌∙◌, subst, arith, length-append, ◌+◌, ◌<◌, get_or, append_assoc}
use Rattle.std.specs.Prelude.{Result, Ok, Err}
use Rattle.hw_model.specs.declared.lit.Lit.{Lit}
use Rattle.hw_price_laws.specs.declared.toll.Toll.{Toll}
use Rattle.hw_trail_laws.specs.declared.event.Why.TheVariants as whys
use Rattle.hw_cert.specs.declared.log.LogStop.{LogStop}
use Rattle.hw_cert.specs.Logs.{LogModel, WhereTold}
use Rattle.hw_trail_laws.specs.Trails.{TrailModel}
use Rattle.hw_search_laws.specs.Searches.{SearchModel, IsSearch, LogFits, PricesShow, room_in}
use Rattle.hw_search_laws.specs.Advised.{HeedWrites, Heeds, StopsBy}
use Rattle.hw_search_laws.proofs.Heeded.{heeds_none, heeds_both}
use Rattle.hw_search.specs.declared.settling.Asked.{Asked}
use Rattle.hw_search.specs.declared.settling.Asked.TheVariants as asked
use Rattle.hw_search.specs.Pricing.{HeedStops, with_other_prices}
use Rattle.hw_search_advised.specs.Heeding.{HeedGains, ConsultMeets, with_tolls, HeedFails}
use Rattle.hw_search.specs.Turning.{turn_of}
use Rattle.hw_search_ledger.proofs.Handed.{grown_to}
use Rattle.hw_model.specs.declared.lit.LitTruth.TheVariants.{False}
use Rattle.hw_model.specs.Lits.{IsClause}
use Rattle.hw_model.specs.Narrowing.{truth}
use Rattle.hw_model.specs.Problem.{shape_of}
use Rattle.hw_price_laws.specs.Tolls.{IsToll}
use Rattle.hw_search_laws.specs.Prices.{prices_with_toll}
use Rattle.hw_search_laws.proofs.Priced.{true_reason}

-- ---- what was heeded

-- the log fits afterwards
pub heeds_fit : (s after : SearchModel) (old new : LogModel) → Heeds s after old new → WhereTold new (λ told. LogFits told after)
heeds_fit s after old new h = grown_to old new (HeedWrites s after) (λ now. LogFits now after) (λ was now w. w.fits) h.writes

pub same_problem : (s after : SearchModel) (old new : LogModel) → Heeds s after old new → after.problem ≡ s.problem
same_problem s after old new h = ap (λ (x : SearchModel). x.problem) h.same

pub no_fewer : (s after : SearchModel) (old new : LogModel) → Heeds s after old new → length s.trail.events ≤ length after.trail.events
no_fewer s after old new h = omega (arith, ap (λ (t : TrailModel). length t.events) h.trail, length-append s.trail.events h.more)

-- ---- one part after another

pub stops_on : (s mid after : SearchModel) (stop : LogStop) (old here new : LogModel) → Heeds s mid old here → HeedStops mid after here stop new → HeedStops s after old stop new
stops_on s mid after stop old here new a h = record {
  then = h.then;
  heeds = heeds_both s mid after old here h.then a h.heeds;
  later = h.later;
  cause = subst (λ f. StopsBy f (turn_of stop) h.then new) (same_problem s mid old here a) h.cause;
}

pub gains_on : (s mid after : SearchModel) (old here new : LogModel) → Heeds s mid old here → HeedGains mid after here new → HeedGains s after old new
gains_on s mid after old here new a h = record { heeds = heeds_both s mid after old here new a h.heeds; more = omega (arith, no_fewer s mid old here a, h.more) }

pub consult_on : (s mid after : SearchModel) (old here new : LogModel) (result : Result Asked LogStop) → Heeds s mid old here → ConsultMeets ⊥ mid after here new result → ConsultMeets ⊥ s after old new result
consult_on s mid after old here new (Ok asked.Quiet) a h = h
consult_on s mid after old here new (Ok asked.Cut) a h = gains_on s mid after old here new a h
consult_on s mid after old here new (Ok (asked.Conflict why)) a h = record { heeds = heeds_both s mid after old here new a h.heeds; conflict = h.conflict }
consult_on s mid after old here new (Err stop) a h = stops_on s mid after stop old here new a h

-- ---- tolls one after another

-- the search after some of the tolls
abbrev After : SearchModel → List Toll → SearchModel
After s tolls = with_other_prices s (with_tolls s.prices tolls)

pub next_toll : (s mid : SearchModel) (all done : List Toll) (new : Toll) → mid ≡ After s done → All (IsToll s.problem) all → (length done < length all) × (new ≡ get_or all (length done) new) → IsToll mid.problem new
next_toll s mid all done new e of at = subst (λ f. IsToll f new) (sym (ap (λ (x : SearchModel). x.problem) e)) (subst (IsToll s.problem) (sym at.1) (of (length done) new at.0))

pub next_few : (s mid : SearchModel) (all done : List Toll) → mid ≡ After s done → length (s.prices.tolls ++ all) ≤ 10_000 → length done < length all → length mid.prices.tolls < 10_000
next_few s mid all done e few lt = omega (arith, few, lt, ap (λ (x : SearchModel). length x.prices.tolls) e, length-append s.prices.tolls all, length-append s.prices.tolls done)

pub tolls_then : (s mid after : SearchModel) (done : List Toll) (new : Toll) → mid ≡ After s done → after ≡ with_other_prices mid (prices_with_toll mid.prices new) → after ≡ After s (done ++ new ∷ [])
tolls_then s mid after done new e f = f ∙ ap (λ (x : SearchModel). with_other_prices x (prices_with_toll x.prices new)) e ∙ ap (λ ts. with_other_prices s (record s.prices { tolls = ts })) (append_assoc s.prices.tolls done (new ∷ []))

-- ---- a clause without a literal left

pub priced_fails : (s : SearchModel) (clause : List Lit) (log : LogModel) → IsSearch s → IsClause (shape_of s.problem) clause → PricesShow s clause → All (λ lit. truth (room_in s) lit ≡ False) clause → WhereTold log (λ told. LogFits told s) → HeedFails s s log log (whys.Priced clause)
priced_fails s clause log is fits shows none told = record {
  heeds = heeds_none s log is told;
  conflict = record { fits = fits; all_false = none; holds = true_reason s clause is fits shows; shown = shows };
}
