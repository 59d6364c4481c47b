-- A bound that is told after tolls and a tariff.
use Rattle.std.proofs.Common.{◌≡◌, ℕ, ◌≤◌, List, Option, Some, None, IsSomeAnd, sym, ap, ◌∙◌, subst}
use Rattle.hw_model.specs.Timetables.{Permits, cargo}
use Rattle.hw_price_laws.specs.declared.tariff.Tariff.{Tariff}
use Rattle.hw_price_laws.specs.declared.toll.Toll.{Toll}
use Rattle.hw_price_laws.specs.Prices.{PricesBound}
use Rattle.hw_price_laws.proofs.Sound.{bounded as sound_bound}
use Rattle.hw_search_advice.specs.Advisers.{IsBoundAdvice}
use Rattle.hw_cert.specs.Logs.{LogModel}
use Rattle.hw_cert_laws.specs.Laws.{IsBound}
use Rattle.hw_search_laws.specs.Searches.{SearchModel, IsSearch}
use Rattle.hw_search_laws.specs.Advised.{Heeds}
use Rattle.hw_search.specs.Pricing.{with_other_prices, IsBelow, ShowsBound, TellsBound}
use Rattle.hw_search_advised.specs.Heeding.{with_tolls, with_given}
use Rattle.hw_search_advised.specs.Bounding.{WritesLowerBound}
use Rattle.hw_search_advised.proofs.Heedings.{same_problem}

-- what prices show is a bound
shown_bounds : (s : SearchModel) (new : ℕ) → IsSearch s → ShowsBound s new → IsBound s.problem new
shown_bounds s new is shown table c permits worth = by s.prices.tariff shown
  where
    by : (o : Option Tariff) → IsSomeAnd o (λ tariff. (1 ≤ tariff.scale) × PricesBound s.problem s.prices.tolls tariff new) → c ≤ new
    by None h = absurd h
    by (Some tariff) h = sound_bound s.problem s.prices.tolls tariff new table c is.flat is.prices.tolls h.1 permits worth

-- what an adviser said of a bound holds after its tolls and its tariff
pub advice_shows : (s held mid : SearchModel) (more : List Toll) (tariff : Option Tariff) (new : ℕ) → IsBoundAdvice s.problem s.prices.tolls s.prices.tariff more tariff new → held ≡ with_other_prices s (with_tolls s.prices more) → mid ≡ with_other_prices held (with_given held.prices tariff) → ShowsBound mid new
advice_shows s held mid more tariff new a e f = subst (λ x. ShowsBound x new) (sym (f ∙ ap (λ (x : SearchModel). with_other_prices x (with_given x.prices tariff)) e)) a.bounded

pub bounded : (s mid after : SearchModel) (new : ℕ) (old here log : LogModel) → IsBelow s new → ShowsBound mid new → Heeds s mid old here → TellsBound mid new after here log → WritesLowerBound s new after old log
bounded s mid after new old here log below shown h t = record {
  below = below;
  bounds = λ table c permits worth.
      let e = sym (same_problem s mid old here h) in
      shown_bounds mid new h.kept shown table c (subst (λ f. Permits f table) e permits) (subst (λ f. cargo f table ≡ Some c) e worth);
  mid = mid;
  then = here;
  heeds = h;
  tells = t;
}
