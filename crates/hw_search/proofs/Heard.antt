-- Advice that an engine heeds, in the words of its calls. `e` is what the fields say, `u` what the call sees.
use Rattle.std.proofs.Common.{◌≡◌, ℕ, ◌+◌, ◌<◌, ◌≤◌, ◌^◌, true, false, List, [], ◌∷◌, ◌++◌, Some, length, refl, sym, ap, ◌∙◌, subst, arith, append-nil, Option}
use Rattle.hw_model.specs.declared.lit.Lit.{Lit}
use Rattle.hw_model.specs.declared.lit.LitTruth.TheVariants.{Free}
use Rattle.hw_model.specs.declared.narrowing.Narrowed.TheVariants.{Cut}
use Rattle.hw_model.specs.Lits.{lit_fits, IsClause}
use Rattle.hw_model.specs.Narrowing.{truth}
use Rattle.hw_model.specs.Problem.{shape_of}
use Rattle.hw_model.specs.Replay.{narrowing}
use Rattle.hw_price_laws.specs.declared.tariff.Tariff.{Tariff}
use Rattle.hw_price_laws.specs.declared.toll.Toll.{Toll}
use Rattle.hw_price_laws.specs.Tolls.{IsToll}
use Rattle.hw_price_laws.specs.Prices.{TariffFits}
use Rattle.hw_cert_lines.specs.declared.line.Line.TheVariants as lines
use Rattle.hw_trail_laws.specs.declared.event.Why.TheVariants as whys
use Rattle.hw_trail_laws.specs.Trails.{TrailModel, trail_shape, implied}
use Rattle.hw_cert.specs.declared.log.LogStop.{LogStop}
use Rattle.hw_cert.specs.Logs.{LogModel, WhereTold, LogTold}
use Rattle.hw_search_laws.specs.Prices.{PriceModel, prices_with_toll, with_tariff, DuesAscend, with_bound}
use Rattle.hw_search_laws.specs.Searches.{SearchModel, IsSearch, LogFits, PricesShow, room_in}
use Rattle.hw_search_laws.specs.Advised.{Heeds, with_priced, HeedWrites}
use Rattle.hw_search_laws.proofs.Bounds.{few_numbers}
use Rattle.hw_search_laws.proofs.Priced.{priced, priced_good, priced_search}
use Rattle.hw_search_laws.proofs.Tolled.{toll, tariff, toll_prices, tariff_prices, price_search, bound}
use Rattle.hw_store.specs.declared.store.Stored.{Stored}
use Rattle.hw_search.specs.Engines.{EngineModel, KeepsEngine}
use Rattle.hw_search_ledger.specs.Handing.{TakesAll, StopsWithin}
use Rattle.hw_search.specs.Pricing.{with_other_prices, HeedStops, IsBelow, ShowsBound, TellsBound}
use Rattle.hw_search_ledger.specs.Ledgers.{LedgerModel}
use Rattle.hw_search.proofs.Advice.{prices_heeded, priced_heeded, line_stops, one_writes}
use Rattle.hw_search_sources.specs.Speaking.{SpeakersModel}
use Rattle.hw_search_ledger.proofs.Handed.{grown_with, grows_by}

-- ---- other prices

-- what the parts of an engine keep with other prices
pub kept_prices : (e : EngineModel) (table : SpeakersModel) (goal : ℕ) (worth : Option ℕ) (reserved : ℕ) (p : PriceModel) → KeepsEngine e table goal worth reserved → IsSearch (with_other_prices e.search p) → KeepsEngine (record e { search = with_other_prices e.search p }) table goal worth reserved
kept_prices e table goal worth reserved p k is = record {
  search = is;
  once = k.once;
  of_problem = k.of_problem;
  each_mark = k.each_mark;
  quiet = k.quiet;
  quiet_below = k.quiet_below;
  speakers = k.speakers;
  goal_at = k.goal_at;
  worth_is = k.worth_is;
  room = k.room;
}

-- ---- a toll

toll_search : (s : SearchModel) (new : Toll) → IsSearch s → IsToll s.problem new → length s.prices.tolls < 10_000 → IsSearch (with_other_prices s (prices_with_toll s.prices new))
toll_search s new is of few = price_search s (prices_with_toll s.prices new) is (toll_prices s.problem s.prices new is.prices of few)

-- what a toll must be
pub record IsNewToll (s : SearchModel) (new : Toll) : Type 0 where
  pub toll : IsToll s.problem new
  pub few : length s.prices.tolls < 10_000

-- the same tolls, as they are held
pub held_is : (e u : EngineModel) (held : List Toll) → e ≡ u → held ≡ e.search.prices.tolls → with_other_prices e.search (record e.search.prices { tolls = held }) ≡ u.search
held_is e u held same h = ap (λ ts. with_other_prices e.search (record e.search.prices { tolls = ts })) h ∙ ap (λ (x : EngineModel). x.search) same

pub declared_is : (e u : EngineModel) (new : Toll) (held tolls : List Toll) → e ≡ u → held ≡ e.search.prices.tolls → tolls ≡ held ++ new ∷ [] → with_other_prices e.search (record e.search.prices { tolls = tolls }) ≡ with_other_prices u.search (prices_with_toll u.search.prices new)
declared_is e u new held tolls same h t =
    ap (λ ts. with_other_prices e.search (record e.search.prices { tolls = ts })) (t ∙ ap (λ ts. ts ++ new ∷ []) h) ∙ ap (λ (x : EngineModel). with_other_prices x.search (prices_with_toll x.search.prices new)) same

-- what the search is then, as its tolls are held
pub declared_kept : (s : SearchModel) (new : Toll) (held tolls : List Toll) → IsSearch s → IsNewToll s new → held ≡ s.prices.tolls → tolls ≡ held ++ new ∷ [] → IsSearch (with_other_prices s (record s.prices { tolls = tolls }))
declared_kept s new held tolls is of h t = subst (λ ts. IsSearch (with_other_prices s (record s.prices { tolls = ts }))) (sym (t ∙ ap (λ ts. ts ++ new ∷ []) h)) (toll_search s new is of.toll of.few)

pub declared_heeds : (s : SearchModel) (new : Toll) (old log : LogModel) → IsSearch s → IsNewToll s new → WhereTold old (λ told. LogFits told s) → TakesAll (lines.Toll new ∷ []) old log → Heeds s (with_other_prices s (prices_with_toll s.prices new)) old log
declared_heeds s new old log is of fits t = prices_heeded s (prices_with_toll s.prices new) (new ∷ []) (lines.Toll new) old log (toll_search s new is of.toll of.few) refl refl (toll s new is of.toll of.few).meets fits t

pub declared_stops : (s : SearchModel) (new : Toll) (stop : LogStop) (old log : LogModel) → IsSearch s → IsNewToll s new → WhereTold old (λ told. LogFits told s) → StopsWithin stop (lines.Toll new ∷ []) 0 old log → HeedStops s s old stop log
declared_stops s new stop old log is of fits t = line_stops s (lines.Toll new) stop old log is fits (λ before fit. ((toll s new is of.toll of.few).meets before fit).good) t

-- ---- a tariff

-- what a tariff must be
pub record IsNewTariff (s : SearchModel) (new : Tariff) : Type 0 where
  pub fits : TariffFits (length s.prices.tolls) new
  pub ascend : DuesAscend new

tariff_search : (s : SearchModel) (new : Tariff) → IsSearch s → IsNewTariff s new → IsSearch (with_other_prices s (with_tariff s.prices new))
tariff_search s new is of = price_search s (with_tariff s.prices new) is (tariff_prices s.problem s.prices new is.prices of.fits of.ascend)

pub forced_is : (e u : EngineModel) (p : PriceModel) (new : Tariff) → e ≡ u → p ≡ with_tariff e.search.prices new → with_other_prices e.search p ≡ with_other_prices u.search (with_tariff u.search.prices new)
forced_is e u p new same is = ap (λ x. with_other_prices e.search x) is ∙ ap (λ (x : EngineModel). with_other_prices x.search (with_tariff x.search.prices new)) same

-- what the parts of an engine keep then
pub forced_kept : (s : SearchModel) (p : PriceModel) (new : Tariff) → IsSearch s → IsNewTariff s new → p ≡ with_tariff s.prices new → IsSearch (with_other_prices s p)
forced_kept s p new is of same = subst (λ x. IsSearch (with_other_prices s x)) (sym same) (tariff_search s new is of)

pub forced_heeds : (s : SearchModel) (new : Tariff) (old log : LogModel) → IsSearch s → IsNewTariff s new → WhereTold old (λ told. LogFits told s) → TakesAll (lines.Tariff new ∷ []) old log → Heeds s (with_other_prices s (with_tariff s.prices new)) old log
forced_heeds s new old log is of fits t = prices_heeded s (with_tariff s.prices new) [] (lines.Tariff new) old log (tariff_search s new is of) (sym (append-nil s.prices.tolls)) refl (tariff s new is of.fits of.ascend).meets fits t

pub forced_stops : (s : SearchModel) (new : Tariff) (stop : LogStop) (old log : LogModel) → IsSearch s → IsNewTariff s new → WhereTold old (λ told. LogFits told s) → StopsWithin stop (lines.Tariff new ∷ []) 0 old log → HeedStops s s old stop log
forced_stops s new stop old log is of fits t = line_stops s (lines.Tariff new) stop old log is fits (λ before fit. ((tariff s new is of.fits of.ascend).meets before fit).good) t

-- ---- a clause that implies a literal

-- what a clause must be that implies a literal
pub record IsNewCut (s : SearchModel) (lit : Lit) (clause : List Lit) : Type 0 where
  pub clause_fits : IsClause (shape_of s.problem) clause
  pub shows : PricesShow s clause
  pub fits : lit_fits (trail_shape s.trail) lit ≡ true
  pub free : truth (room_in s) lit ≡ Free
  pub only : narrowing clause (room_in s) ≡ Cut lit
  pub going : s.over ≡ false
  pub few : s.lemmas < 100000
  pub few_priced : s.priced < 1_000_000_000

pub cut_number : (s : SearchModel) (lit : Lit) (clause : List Lit) → IsSearch s → IsNewCut s lit clause → s.clause_lines + 1 < 2 ^ 32
cut_number s lit clause is of = omega (arith, few_numbers s is of.going of.few)

pub cut_search : (s : SearchModel) (lit : Lit) (clause : List Lit) → IsSearch s → IsNewCut s lit clause → IsSearch (with_priced s lit clause)
cut_search s lit clause is of = priced_search s lit clause is of.clause_fits of.shows of.fits of.free of.only of.few_priced

pub cut_here : (e u : EngineModel) (lit : Lit) (clause : List Lit) → e ≡ u → IsNewCut u.search lit clause → IsNewCut e.search lit clause
cut_here e u lit clause same of = subst (λ (x : EngineModel). IsNewCut x.search lit clause) (sym same) of

-- what the parts of an engine hold then
pub cut_is : (e u : EngineModel) (lit : Lit) (clause : List Lit) (trail : TrailModel) (stored : List Stored) (l : LedgerModel) (reserved : ℕ) → e ≡ u → trail ≡ implied e.search.trail lit (whys.Priced clause) → stored ≡ e.search.stored → l ≡ record { written = e.search.written ++ Some (e.search.clause_lines + 1) ∷ []; clause_lines = e.search.clause_lines + 1; reserved = reserved }
    → record e.search { trail = trail; stored = stored; written = l.written; clause_lines = l.clause_lines; priced = e.search.priced + 1 } ≡ with_priced u.search lit clause
cut_is e u lit clause trail stored l reserved same t st w =
    let s = e.search in
    ap (λ x. record s { trail = x; stored = stored; written = l.written; clause_lines = l.clause_lines; priced = s.priced + 1 }) t
    ∙ ap (λ x. record s { trail = implied s.trail lit (whys.Priced clause); stored = x; written = l.written; clause_lines = l.clause_lines; priced = s.priced + 1 }) st
    ∙ ap (λ (x : LedgerModel). record s { trail = implied s.trail lit (whys.Priced clause); written = x.written; clause_lines = x.clause_lines; priced = s.priced + 1 }) w
    ∙ ap (λ (x : EngineModel). with_priced x.search lit clause) same

pub cut_heeds : (s : SearchModel) (lit : Lit) (clause : List Lit) (old log : LogModel) → IsSearch s → IsNewCut s lit clause → WhereTold old (λ told. LogFits told s) → TakesAll (lines.Priced clause ∷ []) old log → Heeds s (with_priced s lit clause) old log
cut_heeds s lit clause old log is of fits t = priced_heeded s lit clause old log (cut_search s lit clause is of) (priced s clause lit is of.clause_fits of.shows of.fits of.free of.only (cut_number s lit clause is of) of.few_priced).meets fits t

pub cut_stops : (s : SearchModel) (lit : Lit) (clause : List Lit) (stop : LogStop) (old log : LogModel) → IsSearch s → IsNewCut s lit clause → WhereTold old (λ told. LogFits told s) → StopsWithin stop (lines.Priced clause ∷ []) 0 old log → HeedStops s s old stop log
cut_stops s lit clause stop old log is of fits t = line_stops s (lines.Priced clause) stop old log is fits (λ before fit. priced_good s before clause fit of.clause_fits of.shows (cut_number s lit clause is of)) t

-- ---- a bound

-- what a bound must be
pub record IsNewBound (s : SearchModel) (new : ℕ) : Type 0 where
  pub small : new ≤ 40_000_000_000_000
  pub below : IsBelow s new
  pub shows : ShowsBound s new

pub bound_is : (e u : EngineModel) (p : PriceModel) (new : ℕ) → e ≡ u → p ≡ with_bound e.search.prices new → with_other_prices e.search p ≡ with_other_prices u.search (with_bound u.search.prices new)
bound_is e u p new same is = ap (λ x. with_other_prices e.search x) is ∙ ap (λ (x : EngineModel). with_other_prices x.search (with_bound x.search.prices new)) same

pub bound_told : (s : SearchModel) (new : ℕ) (old log : LogModel) → IsSearch s → IsNewBound s new → WhereTold old (λ told. LogFits told s) → TakesAll (lines.Bound new ∷ []) old log → TellsBound s new (with_other_prices s (with_bound s.prices new)) old log
bound_told s new old log is of fits t =
    let after = with_other_prices s (with_bound s.prices new) in
    let R : LogTold → LogTold → Type 0 = λ was now. (now.lines ≡ was.lines ++ lines.Bound new ∷ []) × (now.remainder ≡ []) in
    record {
      search = refl;
      kept = (bound s new is of.small of.below of.shows).kept;
      same_faults = t.faults;
      line = grows_by old log R (λ was now. now.lines ≡ was.lines ++ lines.Bound new ∷ []) (λ was now h. h.0) t.told;
      writes = grown_with old log R (HeedWrites s after) (λ told. LogFits told s) (λ was now fit h. one_writes s after (lines.Bound new) was now fit ((bound s new is of.small of.below of.shows).meets was.lines fit.fits) h) fits t.told;
    }

pub bound_stops : (s : SearchModel) (new : ℕ) (stop : LogStop) (old log : LogModel) → IsSearch s → IsNewBound s new → WhereTold old (λ told. LogFits told s) → StopsWithin stop (lines.Bound new ∷ []) 0 old log → HeedStops s s old stop log
bound_stops s new stop old log is of fits t = line_stops s (lines.Bound new) stop old log is fits (λ before fit. ((bound s new is of.small of.below of.shows).meets before fit).good) t

-- what the search is then
pub bound_kept : (s : SearchModel) (p : PriceModel) (new : ℕ) → IsSearch s → IsNewBound s new → p ≡ with_bound s.prices new → IsSearch (with_other_prices s p)
bound_kept s p new is of same = subst (λ x. IsSearch (with_other_prices s x)) (sym same) (bound s new is of.small of.below of.shows).kept
