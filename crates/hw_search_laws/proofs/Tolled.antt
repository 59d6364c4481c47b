-- Lines that change the prices: a toll, a tariff and a bound.
use Rattle.std.proofs.Common.{◌≡◌, ℕ, zero, suc, ◌+◌, ◌-◌, ◌<◌, ◌≤◌, false, List, [], ◌∷◌, ◌++◌, Option, Some, None, length, map, slice_get, All, IfSome, IsSome, IsSomeAnd, refl, sym, ap, ◌∙◌, subst, arith, inl, length-append}
use Rattle.std.specs.Prelude.{AllPairs}
use Rattle.std.specs.List.Sorted.{IsStrictlyIncreasing}
use Rattle.std.proofs.lemmas.List.{length-map, get_or-map}
use Rattle.std.proofs.lemmas.List.Elements.{All-push, All-weaker}
use Rattle.hw_model.specs.declared.rule.Rule.{Rule}
use Rattle.hw_model.specs.declared.rule.Rule.TheVariants as rules
use Rattle.hw_model.specs.Problem.{Problem, shape_of}
use Rattle.hw_model.specs.Rooms.{whole_room}
use Rattle.hw_model.specs.Limits.{IsFlat, RuleFits}
use Rattle.hw_model_laws.proofs.Counting.{at_place}
use Rattle.hw_model_laws.proofs.Horizon.{horizon_le}
use Rattle.hw_price_laws.specs.declared.tariff.Tariff.{Tariff}
use Rattle.hw_price_laws.specs.declared.toll.Block.{Block}
use Rattle.hw_price_laws.specs.declared.toll.Toll.{Toll}
use Rattle.hw_price_laws.specs.declared.toll.Toll.TheVariants as tolls
use Rattle.hw_price_laws.specs.Tolls.{Apart, IsToll, WeighsUpTo, rule_at}
use Rattle.hw_price_laws.specs.Prices.{TariffFits, PricesBound}
use Rattle.hw_price_laws.proofs.More.{fits_more, more_tolls}
use Rattle.hw_price_laws.proofs.Sound.{bounded}
use Rattle.hw_cert_lines.specs.declared.line.Line.{Line}
use Rattle.hw_cert_lines.specs.declared.line.Line.TheVariants as lines
use Rattle.hw_cert_lines.specs.Lines.{clause_of, clause_at, deletes, table_after, last_table}
use Rattle.hw_cert_lines.specs.Tolled.{tolls_of, tariff_of}
use Rattle.hw_cert_lines.specs.Valid.{LineFits}
use Rattle.hw_cert_lines.specs.Lemmas.{lemma_of}
use Rattle.hw_cert_lines.specs.Laws.{ClausesStay}
use Rattle.hw_cert_lines.proofs.Added.{clauses_stay, toll_added, tariff_added, bound_added}
use Rattle.hw_cert_lines.proofs.Pushed.{or_false, same_at, deleted_push}
use Rattle.hw_trail_laws.specs.declared.event.Why.{Why}
use Rattle.hw_trail_laws.specs.declared.event.Why.TheVariants as whys
use Rattle.hw_trail_laws.specs.Learning.{reason_at}
use Rattle.hw_store.specs.declared.store.Stored.{Stored}
use Rattle.hw_search_laws.specs.Living.{FewLive}
use Rattle.hw_search_laws.specs.Prices.{PriceModel, HoldsBound, ArePrices, PricesTold, older_or, bound_tariff, prices_with_toll, with_tariff, with_bound, DuesAscend}
use Rattle.hw_cert_laws.specs.Laws.{IsBound}
use Rattle.hw_search_laws.specs.Searches.{SearchModel, IsReason, IsSearch, FitsOpen, LiveKept, written_at, why_at}
use Rattle.hw_search_laws.specs.Laws.{PriceLine, PriceTaken}
use Rattle.hw_search_laws.proofs.Lines.{same_lemmas}
use Rattle.hw_search_laws.proofs.Bounds.{few_reasons, live_few}

-- ---- a line that changes the prices alone

-- a line without a clause, a table, a deletion and a lemma
pub record IsPriceLine (line : Line) : Type 0 where
  pub none : clause_of line ≡ None
  pub no_table : (last : Option (List ℕ)) → table_after last line ≡ last
  pub no_delete : (id : ℕ) → deletes id line ≡ false
  pub no_lemma : lemma_of line ≡ None

abbrev with_prices : SearchModel → PriceModel → SearchModel
with_prices s p = record s { prices = p }

clauses_same : (f : Problem) (before : List Line) (line : Line) → IsPriceLine line → ClausesStay f before (before ++ line ∷ [])
clauses_same f before line q = clauses_stay f before line q.none (q.no_table (last_table before)) q.no_delete

some_weaker : {A : Type 0} (P Q : A → Type 0) → ((x : A) → P x → Q x) → (o : Option A) → IfSome o P → IfSome o Q
some_weaker P Q h None p = tt
some_weaker P Q h (Some x) p = h x p

price_open : (s : SearchModel) (before : List Line) (line : Line) (p : PriceModel) → IsPriceLine line → PricesTold (before ++ line ∷ []) p → FitsOpen before s → FitsOpen (before ++ line ∷ []) (with_prices s p)
price_open s before line p q told fit =
    let c = clauses_same s.problem before line q in
    record {
      lemmas = same_lemmas before line q.no_lemma ∙ fit.lemmas;
      count = c.count ∙ fit.count;
      best = c.table ∙ fit.best;
      none_empty = c.closed ∙ fit.none_empty;
      lemma_stands = All-weaker (λ (one : Stored). clause_at before one.number ≡ Some one.clause) (λ (one : Stored). clause_at (before ++ line ∷ []) one.number ≡ Some one.clause) (λ one h. same_at before line one.number q.none ∙ h) s.stored fit.lemma_stands;
      reason_stands = λ place. some_weaker (λ number. clause_at before number ≡ reason_at s.trail place) (λ number. clause_at (before ++ line ∷ []) number ≡ reason_at s.trail place) (λ number h. same_at before line number q.none ∙ h) (written_at s place) (fit.reason_stands place);
      kept_live = λ number h. subst IsSome (sym (c.live_ones number)) (fit.kept_live number h);
      deletes_earlier = λ id lt. deleted_push before line id false (q.no_delete id) ∙ or_false _ ∙ fit.deletes_earlier id (omega (arith, lt, c.count));
      prices = told;
    }

price_kept : (s : SearchModel) (before : List Line) (line : Line) (p : PriceModel) → IsPriceLine line → LiveKept before s → LiveKept (before ++ line ∷ []) (with_prices s p)
price_kept s before line p q kept = λ number h. kept number (subst IsSome ((clauses_same s.problem before line q).live_ones number) h)

price_reason : (s : SearchModel) (p : PriceModel) (why : Why) → IsReason s why → IsReason (with_prices s p) why
price_reason s p (whys.Lemma number clause) h = h
price_reason s p (whys.Source source clause) h = h
price_reason s p (whys.Priced clause) h = h

pub price_search : (s : SearchModel) (p : PriceModel) → IsSearch s → ArePrices s.problem p → IsSearch (with_prices s p)
price_search s p is are = record {
  flat = is.flat;
  trail = is.trail;
  same_ships = is.same_ships;
  same_slots = is.same_slots;
  ascending = is.ascending;
  numbered = is.numbered;
  clauses = is.clauses;
  some_literal = is.some_literal;
  reasons = λ place. some_weaker (IsReason s) (IsReason (with_prices s p)) (price_reason s p) (why_at s.trail place) (is.reasons place);
  priced_lines = is.priced_lines;
  each_event = is.each_event;
  quiet_below = is.quiet_below;
  new = is.new;
  permitted = is.permitted;
  prices = are;
  counted = is.counted;
  few_lines = is.few_lines;
  few_priced = is.few_priced;
  restarts_due = is.restarts_due;
  few_restarts = is.few_restarts;
  sound = is.sound;
}

-- few are live in a log that fits
pub few_fitting : (u : SearchModel) (all : List Line) → IsSearch u → FitsOpen all u → LiveKept all u → FewLive u.problem all
few_fitting u all is fit kept = live_few u all 0 (few_reasons u is).0 fit (λ number h. inl (kept number h))

price_taken : (s : SearchModel) (line : Line) (p : PriceModel) → IsSearch s → IsPriceLine line → ArePrices s.problem p → ((before : List Line) → FitsOpen before s → PriceLine s.problem before line × PricesTold (before ++ line ∷ []) p) → PriceTaken s line (with_prices s p)
price_taken s line p is q are good =
    let is' = price_search s p is are in
    record {
      kept = is';
      meets = λ before fit.
          let g = good before fit in
          let open' = price_open s before line p q g.1 fit in
          record {
            good = g.0;
            no_lemma = q.no_lemma;
            fits = record { opened = open'; kept = price_kept s before line p q };
            few_live = λ kept. (few_fitting (with_prices s p) (before ++ line ∷ []) is' open' (price_kept s before line p q kept), tt);
          };
    }

-- ---- a toll

toll_is : (toll : Toll) → IsPriceLine (lines.Toll toll)
toll_is toll = record { none = refl; no_table = λ last. refl; no_delete = λ id. refl; no_lemma = refl }

ships_ascend : (f : Problem) (blocks : List Block) → AllPairs (Apart f) blocks → IsStrictlyIncreasing (map (λ (block : Block). block.ship) blocks)
ships_ascend f [] apart k lt = absurd (omega (arith, lt))
ships_ascend f (b ∷ blocks) apart k lt =
    let all = b ∷ blocks in
    let n : k + 1 < length all = omega (arith, lt, length-map all (λ (block : Block). block.ship)) in
    let one = get_or-map (λ (block : Block). block.ship) all k b 0 (omega (arith, n)) in
    let two = get_or-map (λ (block : Block). block.ship) all (k + 1) b 0 n in
    let less = (apart k (k + 1) b (omega arith) n).ascends in
    omega (arith, one, two, less)

place_in : (f : Problem) (place : ℕ) (P : Rule → Type 0) → IsSomeAnd (slice_get f.rules place) P → place < length f.rules
place_in f place P h = inside f.rules place h
  where
    inside : (rules : List Rule) (n : ℕ) → IsSomeAnd (slice_get rules n) P → n < length rules
    inside [] n h = absurd h
    inside (rule ∷ rules) zero h = omega arith
    inside (rule ∷ rules) (suc n) h = omega (arith, inside rules n h)

-- a rule has at most 40 jobs
few_weights : (ships slot : ℕ) (weights : List ℕ) (most : ℕ) (o : Option Rule) → IfSome o (RuleFits ships) → IsSomeAnd o (WeighsUpTo slot weights most) → length weights ≤ 40
few_weights ships slot weights most None fits h = absurd h
few_weights ships slot weights most (Some (rules.Pair v w holes)) fits h = absurd h
few_weights ships slot weights most (Some (rules.After v w gap)) fits h = absurd h
few_weights ships slot weights most (Some (rules.Tugs fleet later jobs)) fits h = omega (arith, h.0, fits.few_jobs)

toll_fits : (f : Problem) (toll : Toll) → IsFlat f → IsToll f toll → LineFits f (lines.Toll toll)
toll_fits f (tolls.Narrows blocks) flat is = record { some_block = is.some_block; few_blocks = is.few_blocks; each_block = is.each_block; ascend = ships_ascend f blocks is.apart }
toll_fits f (tolls.Tugs n slot weights most) flat is = record {
  past_ships = is.past_ships;
  restriction_in = omega (arith, is.past_ships, place_in f (n - f.ships) (WeighsUpTo slot weights most) is.weighed);
  slot_in = omega (arith, is.slot_in, horizon_le f);
  small_most = is.small_most;
  few_weights = few_weights f.ships slot weights most (rule_at f n) (at_place (RuleFits f.ships) f.rules (n - f.ships) flat.each_rule) is.weighed;
  small_weights = is.small_weights;
}

tariff_more : (ts : List Toll) (toll : Toll) (o : Option Tariff) → IfSome o (TariffFits (length ts)) → IfSome o (TariffFits (length (ts ++ toll ∷ [])))
tariff_more ts toll None h = tt
tariff_more ts toll (Some tariff) h = fits_more ts (toll ∷ []) tariff h

some_and_weaker : {A : Type 0} (P Q : A → Type 0) → ((x : A) → P x → Q x) → (o : Option A) → IsSomeAnd o P → IsSomeAnd o Q
some_and_weaker P Q h None p = absurd p
some_and_weaker P Q h (Some x) p = h x p

-- what shows a bound shows it with one more toll
holds_more : (f : Problem) (ts : List Toll) (new : Toll) (bound : ℕ) (tariff : Tariff) → HoldsBound f ts bound tariff → HoldsBound f (ts ++ new ∷ []) bound tariff
holds_more f ts new bound tariff h = record {
  fits = fits_more ts (new ∷ []) tariff h.fits;
  ascend = h.ascend;
  scaled = h.scaled;
  bounds = (more_tolls f ts (new ∷ []) tariff (Some bound) (whole_room (shape_of f)) h.fits).1 h.bounds;
}

pub toll_prices : (f : Problem) (p : PriceModel) (new : Toll) → ArePrices f p → IsToll f new → length p.tolls < 10_000 → ArePrices f (prices_with_toll p new)
toll_prices f p new are of few = record {
  few = omega (arith, few, length-append p.tolls (new ∷ []));
  tolls = All-push (IsToll f) p.tolls new are.tolls of;
  tariff = tariff_more p.tolls new p.tariff are.tariff;
  ascend = are.ascend;
  bound = are.bound;
  shown = some_weaker (λ bound. IsSomeAnd (bound_tariff p) (HoldsBound f p.tolls bound)) (λ bound. IsSomeAnd (bound_tariff p) (HoldsBound f (p.tolls ++ new ∷ []) bound)) (λ bound h. some_and_weaker (HoldsBound f p.tolls bound) (HoldsBound f (p.tolls ++ new ∷ []) bound) (holds_more f p.tolls new bound) (bound_tariff p) h) p.bound are.shown;
}

pub toll : (s : SearchModel) (toll : Toll) → IsSearch s → IsToll s.problem toll → length s.prices.tolls < 10_000
    → PriceTaken s (lines.Toll toll) (record s { prices = prices_with_toll s.prices toll })
toll s new is of few =
    let f = s.problem in
    let line = lines.Toll new in
    price_taken s line (prices_with_toll s.prices new) is (toll_is new)
    (toll_prices f s.prices new is.prices of few)
    (λ before fit.
    let added = toll_added f before line new refl in
    let room : length (tolls_of before) < 10_000 = omega (arith, few, ap length fit.prices.tolls) in (
      record {
        fits = toll_fits f new is.flat of;
        valid = record { goes_on = fit.none_empty; numbered = tt; claim = (room, of) };
        lean = tt;
      },
      record {
        tolls = added.tolls ∙ ap (λ ts. ts ++ new ∷ []) fit.prices.tolls;
        tariff = added.tariff ∙ fit.prices.tariff;
        bound = added.bound ∙ fit.prices.bound;
      },
    ))

-- ---- a tariff

tariff_is : (tariff : Tariff) → IsPriceLine (lines.Tariff tariff)
tariff_is tariff = record { none = refl; no_table = λ last. refl; no_delete = λ id. refl; no_lemma = refl }

-- the tariff that shows the last bound stays
older_stays : (P : Tariff → Type 0) (o new : Option Tariff) → IsSomeAnd o P → IsSomeAnd (older_or o new) P
older_stays P None new h = absurd h
older_stays P (Some tariff) new h = h

pub tariff_prices : (f : Problem) (p : PriceModel) (new : Tariff) → ArePrices f p → TariffFits (length p.tolls) new → DuesAscend new → ArePrices f (with_tariff p new)
tariff_prices f p new are fits ascend = record {
  few = are.few;
  tolls = are.tolls;
  tariff = fits;
  ascend = ascend;
  bound = are.bound;
  shown = some_weaker (λ bound. IsSomeAnd (bound_tariff p) (HoldsBound f p.tolls bound)) (λ bound. IsSomeAnd (older_or (bound_tariff p) (Some new)) (HoldsBound f p.tolls bound)) (λ bound h. older_stays (HoldsBound f p.tolls bound) (bound_tariff p) (Some new) h) p.bound are.shown;
}

pub tariff : (s : SearchModel) (tariff : Tariff) → IsSearch s → TariffFits (length s.prices.tolls) tariff → DuesAscend tariff
    → PriceTaken s (lines.Tariff tariff) (record s { prices = with_tariff s.prices tariff })
tariff s new is fits ascend =
    let f = s.problem in
    price_taken s (lines.Tariff new) (with_tariff s.prices new) is (tariff_is new)
    (tariff_prices f s.prices new is.prices fits ascend)
    (λ before fit.
    let added = tariff_added f before new in
    let e : length (tolls_of before) ≡ length s.prices.tolls = ap length fit.prices.tolls in (
      record {
        fits = record {
          small_scale = fits.small_scale;
          from_one = λ i d lt. (fits.each_due i d lt).from_one;
          ascend = ascend;
          small_prices = λ i d lt. (fits.each_due i d lt).small_price;
        };
        valid = record {
          goes_on = fit.none_empty;
          numbered = tt;
          claim = λ i d lt. omega (arith, (fits.each_due i d lt).toll_in, e);
        };
        lean = tt;
      },
      record {
        tolls = added.tolls ∙ fit.prices.tolls;
        tariff = added.new_tariff;
        bound = added.bound ∙ fit.prices.bound;
      },
    ))

-- ---- a bound

bound_is : (bound : ℕ) → IsPriceLine (lines.Bound bound)
bound_is bound = record { none = refl; no_table = λ last. refl; no_delete = λ id. refl; no_lemma = refl }

-- no permitted timetable passes what the tariff in force bounds
none_above : (f : Problem) (ts : List Toll) (bound : ℕ) (o : Option Tariff) → IsFlat f → All (IsToll f) ts → IsSomeAnd o (λ tariff. (1 ≤ tariff.scale) × PricesBound f ts tariff bound) → IsBound f bound
none_above f ts bound None flat are shown = absurd shown
none_above f ts bound (Some tariff) flat are shown = λ table c permits worth. bounded f ts tariff bound table c flat are shown.1 permits worth

-- the tariff in force shows its bound
holds_now : (f : Problem) (ts : List Toll) (bound : ℕ) (o : Option Tariff) → IfSome o (TariffFits (length ts)) → IfSome o DuesAscend → IsSomeAnd o (λ tariff. (1 ≤ tariff.scale) × PricesBound f ts tariff bound) → IsSomeAnd o (HoldsBound f ts bound)
holds_now f ts bound None fits ascend shown = absurd shown
holds_now f ts bound (Some tariff) fits ascend shown = record { fits = fits; ascend = ascend; scaled = shown.0; bounds = shown.1 }

bound_prices : (f : Problem) (p : PriceModel) (new : ℕ) → IsFlat f → ArePrices f p → IsSomeAnd p.tariff (λ tariff. (1 ≤ tariff.scale) × PricesBound f p.tolls tariff new) → ArePrices f (with_bound p new)
bound_prices f p new flat are shown = record {
  few = are.few;
  tolls = are.tolls;
  tariff = are.tariff;
  ascend = are.ascend;
  bound = none_above f p.tolls new p.tariff flat are.tolls shown;
  shown = holds_now f p.tolls new p.tariff are.tariff are.ascend shown;
}

pub bound : (s : SearchModel) (bound : ℕ) → IsSearch s → bound ≤ 40_000_000_000_000 → IfSome s.prices.bound (λ last. bound < last) → IsSomeAnd s.prices.tariff (λ tariff. (1 ≤ tariff.scale) × PricesBound s.problem s.prices.tolls tariff bound)
    → PriceTaken s (lines.Bound bound) (record s { prices = with_bound s.prices bound })
bound s new is small below shown =
    let f = s.problem in
    price_taken s (lines.Bound new) (with_bound s.prices new) is (bound_is new)
    (bound_prices f s.prices new is.flat is.prices shown)
    (λ before fit.
    let added = bound_added f before new in
    let bounds : IsSomeAnd (tariff_of before) (λ tariff. (1 ≤ tariff.scale) × PricesBound f (tolls_of before) tariff new) =
    subst (λ o. IsSomeAnd o (λ tariff. (1 ≤ tariff.scale) × PricesBound f (tolls_of before) tariff new)) (sym fit.prices.tariff)
    (subst (λ ts. IsSomeAnd s.prices.tariff (λ tariff. (1 ≤ tariff.scale) × PricesBound f ts tariff new)) (sym fit.prices.tolls) shown) in (
      record {
        fits = small;
        valid = record {
          goes_on = fit.none_empty;
          numbered = tt;
          claim = (bounds, subst (λ o. IfSome o (λ last. new < last)) (sym fit.prices.bound) below);
        };
        lean = tt;
      },
      record {
        tolls = added.tolls ∙ fit.prices.tolls;
        tariff = added.tariff ∙ fit.prices.tariff;
        bound = added.new_bound;
      },
    ))
