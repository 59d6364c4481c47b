-- Clauses of prices: they are true, and one that implies a literal is written with it.
use Rattle.std.proofs.Common.{◌≡◌, ◌⊎◌, ℕ, zero, suc, ◌+◌, ◌^◌, ◌<◌, ◌≤◌, ◌||◌, true, false, List, [], ◌∷◌, ◌++◌, Option, Some, None, length, slice_get, option_and_then, IfSome, IsSome, IsSomeAnd, refl, sym, ap, ◌∙◌, subst, arith, inl, inr, length-append}
use Rattle.std.specs.Prelude.{Contains}
use Rattle.std.specs.Option.{option_flatten}
use Rattle.std.proofs.lemmas.List.Elements.{All-weaker}
use Rattle.hw_model.specs.declared.lit.Lit.{Lit}
use Rattle.hw_model.specs.declared.lit.LitTruth.TheVariants.{Free}
use Rattle.hw_model.specs.declared.narrowing.Narrowed.TheVariants.{Cut}
use Rattle.hw_model.specs.Problem.{shape_of}
use Rattle.hw_model.specs.Timetables.{cargo}
use Rattle.hw_model.specs.Lits.{lit_fits, clause_holds, IsClause}
use Rattle.hw_model.specs.Rooms.{RoomModel}
use Rattle.hw_model.specs.Narrowing.{truth}
use Rattle.hw_model.specs.Replay.{narrowing}
use Rattle.hw_price_laws.specs.declared.tariff.Tariff.{Tariff}
use Rattle.hw_price_laws.specs.declared.toll.Toll.{Toll}
use Rattle.hw_price_laws.specs.Prices.{PricesRefute}
use Rattle.hw_cert_lines.specs.declared.line.Line.{Line}
use Rattle.hw_cert_lines.specs.declared.line.Line.TheVariants as lines
use Rattle.hw_cert_lines.specs.Lines.{clause_count, clause_at, live, is_end, best_of}
use Rattle.hw_cert_lines.specs.Tolled.{tolls_of}
use Rattle.hw_cert_lines.specs.Valid.{PricedHolds, denied_room}
use Rattle.hw_cert_lines.proofs.Pushed.{or_false, deleted_push, clause_added}
use Rattle.hw_cert_laws.proofs.Steps.{by_prices}
use Rattle.hw_trail_laws.specs.declared.event.Event.{Event}
use Rattle.hw_trail_laws.specs.declared.event.Why.{Why}
use Rattle.hw_trail_laws.specs.declared.event.Why.TheVariants as whys
use Rattle.hw_trail_laws.specs.Trails.{trail_shape, reason}
use Rattle.hw_trail_laws.specs.Learning.{reason_at}
use Rattle.hw_trail_laws.proofs.Kept.{implied_kept, quiet_implied}
use Rattle.hw_store.specs.declared.store.Stored.{Stored}
use Rattle.hw_search_laws.specs.Searches.{SearchModel, IsReason, HasLine, PricesShow, IsSearch, FitsOpen, LiveKept, room_in, lemmas_in, best_cargo, written_at, why_at, kept_numbers}
use Rattle.hw_search_laws.specs.Advised.{with_priced}
use Rattle.hw_search_laws.specs.Laws.{PriceLine, PriceTaken}
use Rattle.hw_search_laws.proofs.Numbers.{WrittenAt, get_within}
use Rattle.hw_search_laws.proofs.Shapes.{clause_same}
use Rattle.hw_search_laws.proofs.Lines.{IsClauseLine, at_stays, live_stays, new_stands, new_live, live_back, same_lemmas, stored_cases, kept_stored, kept_written, if_some, of_some, some_reason}
use Rattle.hw_search_laws.proofs.Tolled.{few_fitting}

-- ---- what prices show is true

pub true_reason : (s : SearchModel) (clause : List Lit) → IsSearch s → IsClause (shape_of s.problem) clause → PricesShow s clause → IsReason s (whys.Priced clause)
true_reason s clause is fits shown table c permits worth above = by s.prices.tariff shown.refuted
  where
    by : (o : Option Tariff) → IsSomeAnd o (λ tariff. PricesRefute s.problem s.prices.tolls tariff (best_cargo s) (denied_room s.problem clause)) → clause_holds table clause ≡ true
    by None h = absurd h
    by (Some tariff) h = by_prices s.problem s.prices.tolls tariff (best_cargo s) clause table c is.flat is.prices.tolls fits h permits worth above

-- ---- one more written number

push_cases : (ws : List (Option ℕ)) (n q m : ℕ) → WrittenAt (ws ++ Some n ∷ []) q m → WrittenAt ws q m ⊎ ((q ≡ length ws) × (m ≡ n))
push_cases [] n zero m e = inr (refl, cc)
push_cases [] n (suc q) m e = absurd cc
push_cases (w ∷ ws) n zero m e = inl e
push_cases (w ∷ ws) n (suc q) m e = elim (push_cases ws n q m e) [
  | inl old ↦ inl old
  | inr new ↦ inr (ap suc new.0, new.1)
]

push_stays : (ws : List (Option ℕ)) (n q m : ℕ) → WrittenAt ws q m → WrittenAt (ws ++ Some n ∷ []) q m
push_stays [] n q m e = absurd cc
push_stays (w ∷ ws) n zero m e = e
push_stays (w ∷ ws) n (suc q) m e = push_stays ws n q m e

push_last : (ws : List (Option ℕ)) (n : ℕ) → WrittenAt (ws ++ Some n ∷ []) (length ws) n
push_last [] n = refl
push_last (w ∷ ws) n = push_last ws n

-- ---- one more event

get_last : (es : List Event) (e : Event) → slice_get (es ++ e ∷ []) (length es) ≡ Some e
get_last [] e = refl
get_last (x ∷ es) e = get_last es e

reason_in : (es : List Event) (e : Event) (q : ℕ) (clause : List Lit) → option_and_then reason (slice_get es q) ≡ Some clause → option_and_then reason (slice_get (es ++ e ∷ []) q) ≡ Some clause
reason_in es e q clause h = by (slice_get es q) refl h
  where
    by : (o : Option Event) → slice_get es q ≡ o → option_and_then reason o ≡ Some clause → option_and_then reason (slice_get (es ++ e ∷ []) q) ≡ Some clause
    by None at h = absurd cc
    by (Some event) at h = ap (option_and_then reason) (get_within es (e ∷ []) q event at) ∙ h

why_push : (es : List Event) (e : Event) (P : Why → Type 0) (k : ℕ) → IfSome (option_and_then (λ (event : Event). event.why) (slice_get es k)) P → IfSome e.why P → IfSome (option_and_then (λ (event : Event). event.why) (slice_get (es ++ e ∷ []) k)) P
why_push [] e P zero h new = new
why_push [] e P (suc k) h new = tt
why_push (x ∷ es) e P zero h new = h
why_push (x ∷ es) e P (suc k) h new = why_push es e P k h new

lines_push : (es : List Event) (e : Event) (ws : List (Option ℕ)) (n k : ℕ) → length ws ≡ length es → IfSome (option_and_then (λ (event : Event). event.why) (slice_get es k)) (HasLine (option_flatten (slice_get ws k))) → IfSome e.why (HasLine (Some n))
    → IfSome (option_and_then (λ (event : Event). event.why) (slice_get (es ++ e ∷ []) k)) (HasLine (option_flatten (slice_get (ws ++ Some n ∷ []) k)))
lines_push [] e [] n zero long h new = new
lines_push [] e [] n (suc k) long h new = tt
lines_push [] e (w ∷ ws) n k long h new = absurd (omega (arith, long))
lines_push (x ∷ es) e [] n k long h new = absurd (omega (arith, long))
lines_push (x ∷ es) e (w ∷ ws) n zero long h new = h
lines_push (x ∷ es) e (w ∷ ws) n (suc k) long h new = lines_push es e ws n k (omega (arith, long)) h new

-- ---- the clause's line

some_literal : (clause : List Lit) (room : RoomModel) (lit : Lit) → narrowing clause room ≡ Cut lit → 1 ≤ length clause
some_literal [] room lit e = absurd cc
some_literal (l ∷ clause) room lit e = omega arith

no_end : (clause : List Lit) → 1 ≤ length clause → is_end (Some clause) ≡ false
no_end [] h = absurd (omega (arith, h))
no_end (l ∷ clause) h = refl

pub priced_is : (clause : List Lit) → IsClauseLine (lines.Priced clause) clause
priced_is clause = record { has = refl; no_table = λ last. refl; no_delete = λ id. refl }

-- what prices show, a line may claim
pub priced_claim : (s : SearchModel) (before : List Line) (clause : List Lit) → FitsOpen before s → PricesShow s clause → PricedHolds s.problem before clause
priced_claim s before clause fit shown =
    let f = s.problem in
    let best : best_of f before ≡ best_cargo s = ap (option_and_then (cargo f)) fit.best in
    subst (λ o. IsSomeAnd o (λ tariff. PricesRefute f (tolls_of before) tariff (best_of f before) (denied_room f clause))) (sym fit.prices.tariff)
    (subst (λ (ts : List Toll). IsSomeAnd s.prices.tariff (λ tariff. PricesRefute f ts tariff (best_of f before) (denied_room f clause))) (sym fit.prices.tolls)
    (subst (λ (o : Option ℕ). IsSomeAnd s.prices.tariff (λ tariff. PricesRefute f s.prices.tolls tariff o (denied_room f clause))) (sym best) shown.refuted))

pub priced_good : (s : SearchModel) (before : List Line) (clause : List Lit) → FitsOpen before s → IsClause (shape_of s.problem) clause → PricesShow s clause → s.clause_lines + 1 < 2 ^ 32 → PriceLine s.problem before (lines.Priced clause)
priced_good s before clause fit fits shown few = record {
  fits = fits;
  valid = record { goes_on = fit.none_empty; numbered = omega (arith, few, fit.count); claim = priced_claim s before clause fit shown };
  lean = shown.speaks;
}

-- ---- the fit

priced_open : (s : SearchModel) (before : List Line) (lit : Lit) (clause : List Lit) → length s.written ≡ length s.trail.events → 1 ≤ length clause → FitsOpen before s → FitsOpen (before ++ lines.Priced clause ∷ []) (with_priced s lit clause)
priced_open s before lit clause long some fit =
    let line = lines.Priced clause in
    let after = before ++ line ∷ [] in
    let u = with_priced s lit clause in
    let e : Event = record { lit = lit; level = s.trail.level; why = Some (whys.Priced clause) } in
    let c = clause_added s.problem before line clause fit.deletes_earlier refl in
    let n : s.clause_lines + 1 ≡ clause_count before + 1 = omega (arith, fit.count) in
    record {
      lemmas = same_lemmas before line refl ∙ fit.lemmas;
      count = c.count ∙ sym n;
      best = c.table ∙ fit.best;
      none_empty = c.closed ∙ ap (λ b. b || is_end (Some clause)) fit.none_empty ∙ no_end clause some;
      lemma_stands = All-weaker (λ (one : Stored). clause_at before one.number ≡ Some one.clause) (λ (one : Stored). clause_at after one.number ≡ Some one.clause) (λ one h. at_stays before line one.number one.clause h) s.stored fit.lemma_stands;
      reason_stands = λ q. if_some (written_at u q) (λ number. clause_at after number ≡ reason_at u.trail q) (λ m w. elim (push_cases s.written (s.clause_lines + 1) q m w) [
        | inl old ↦
            let r = some_reason s before fit q m old in
            at_stays before line m r.0 (of_some (written_at s q) (λ number. clause_at before number ≡ reason_at s.trail q) m old (fit.reason_stands q) ∙ r.1) ∙ sym (reason_in s.trail.events e q r.0 r.1)
        | inr new ↦
            let stands : clause_at after m ≡ Some clause = subst (λ k. clause_at after k ≡ Some clause) (sym (new.1 ∙ n)) (new_stands s.problem before line clause (priced_is clause)) in
            let is : reason_at u.trail q ≡ Some clause = subst (λ k. reason_at u.trail k ≡ Some clause) (sym (new.0 ∙ long)) (ap (option_and_then reason) (get_last s.trail.events e)) in
            stands ∙ sym is
      ]);
      kept_live = λ m h. elim (stored_cases u m h) [
        | inl a ↦ live_stays s.problem before line m refl (fit.kept_live m (kept_stored s m a))
        | inr b ↦ elim (push_cases s.written (s.clause_lines + 1) b.0 m b.1) [
          | inl old ↦ live_stays s.problem before line m refl (fit.kept_live m (kept_written s b.0 m old))
          | inr new ↦ subst (λ k. IsSome (live after k)) (sym (new.1 ∙ n)) (subst IsSome (sym (new_live s.problem before line clause fit.deletes_earlier (priced_is clause))) refl)
        ]
      ];
      deletes_earlier = λ id lt. deleted_push before line id false refl ∙ or_false _ ∙ fit.deletes_earlier id (omega (arith, lt, c.count));
      prices = record {
        tolls = c.prices.tolls ∙ fit.prices.tolls;
        tariff = c.prices.tariff ∙ fit.prices.tariff;
        bound = c.prices.bound ∙ fit.prices.bound;
      };
    }

priced_kept : (s : SearchModel) (before : List Line) (lit : Lit) (clause : List Lit) → FitsOpen before s → LiveKept before s → LiveKept (before ++ lines.Priced clause ∷ []) (with_priced s lit clause)
priced_kept s before lit clause fit kept = λ m h.
    let u = with_priced s lit clause in
    elim (live_back s.problem before (lines.Priced clause) clause (priced_is clause) m h) [
      | inl old ↦ elim (stored_cases s m (kept m old)) [
        | inl a ↦ kept_stored u m a
        | inr b ↦ kept_written u b.0 m (push_stays s.written (s.clause_lines + 1) b.0 m b.1)
      ]
      | inr new ↦
          let e : s.clause_lines + 1 ≡ m = omega (arith, new, fit.count) in
          subst (Contains (kept_numbers u)) e (kept_written u (length s.written) (s.clause_lines + 1) (push_last s.written (s.clause_lines + 1)))
    ]

-- ---- the search

priced_reason : (s : SearchModel) (lit : Lit) (clause : List Lit) (why : Why) → IsReason s why → IsReason (with_priced s lit clause) why
priced_reason s lit clause (whys.Lemma number c) h = h
priced_reason s lit clause (whys.Source source c) h = h
priced_reason s lit clause (whys.Priced c) h = h

if_reason : (P Q : Why → Type 0) → ((why : Why) → P why → Q why) → (o : Option Why) → IfSome o P → IfSome o Q
if_reason P Q h None p = tt
if_reason P Q h (Some why) p = h why p

pub priced_search : (s : SearchModel) (lit : Lit) (clause : List Lit) → IsSearch s → IsClause (shape_of s.problem) clause → PricesShow s clause → lit_fits (trail_shape s.trail) lit ≡ true → truth (room_in s) lit ≡ Free → narrowing clause (room_in s) ≡ Cut lit → s.priced < 1_000_000_000
    → IsSearch (with_priced s lit clause)
priced_search s lit clause is fits shown of free cuts few =
    let u = with_priced s lit clause in
    let why = whys.Priced clause in
    let e : Event = record { lit = lit; level = s.trail.level; why = Some why } in
    let fits' : IsClause (trail_shape s.trail) clause = clause_same (shape_of s.problem) (trail_shape s.trail) (sym is.same_ships) (sym is.same_slots) clause fits in
    record {
      flat = is.flat;
      trail = implied_kept s.trail lit why is.trail of fits' free cuts;
      same_ships = is.same_ships;
      same_slots = is.same_slots;
      ascending = is.ascending;
      numbered = All-weaker (λ (one : Stored). one.number ≤ s.clause_lines) (λ (one : Stored). one.number ≤ s.clause_lines + 1) (λ one h. omega (arith, h)) s.stored is.numbered;
      clauses = is.clauses;
      some_literal = is.some_literal;
      reasons = λ place. why_push s.trail.events e (IsReason u) place (if_reason (IsReason s) (IsReason u) (priced_reason s lit clause) (why_at s.trail place) (is.reasons place)) (priced_reason s lit clause why (true_reason s clause is fits shown));
      priced_lines = λ place. lines_push s.trail.events e s.written (s.clause_lines + 1) place is.each_event (is.priced_lines place) refl;
      each_event = omega (arith, length-append s.written (Some (s.clause_lines + 1) ∷ []), length-append s.trail.events (e ∷ []), is.each_event);
      quiet_below = quiet_implied s.trail lit why (lemmas_in s) is.quiet_below;
      new = is.new;
      permitted = is.permitted;
      prices = is.prices;
      counted = is.counted;
      few_lines = λ open'. omega (arith, is.few_lines open');
      few_priced = omega (arith, few);
      restarts_due = is.restarts_due;
      few_restarts = is.few_restarts;
      sound = is.sound;
    }

pub priced : (s : SearchModel) (clause : List Lit) (lit : Lit) → IsSearch s → IsClause (shape_of s.problem) clause → PricesShow s clause → lit_fits (trail_shape s.trail) lit ≡ true → truth (room_in s) lit ≡ Free → narrowing clause (room_in s) ≡ Cut lit → s.clause_lines + 1 < 2 ^ 32 → s.priced < 1_000_000_000
    → PriceTaken s (lines.Priced clause) (with_priced s lit clause)
priced s clause lit is fits shown of free cuts numbers few =
    let some = some_literal clause (room_in s) lit cuts in
    let is' = priced_search s lit clause is fits shown of free cuts few in
    record {
      kept = is';
      meets = λ before fit.
          let open' = priced_open s before lit clause is.each_event some fit in
          record {
            good = priced_good s before clause fit fits shown numbers;
            no_lemma = refl;
            fits = record { opened = open'; kept = priced_kept s before lit clause fit };
            few_live = λ kept. (few_fitting (with_priced s lit clause) (before ++ lines.Priced clause ∷ []) is' open' (priced_kept s before lit clause fit kept), tt);
          };
    }
