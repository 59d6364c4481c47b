-- The fit through each line that a search writes.
use Rattle.std.proofs.Common.{◌≡◌, ◌⊎◌, ℕ, zero, suc, ◌+◌, ◌<◌, ◌≤◌, ◌||◌, Bool, true, false, cond, List, [], ◌∷◌, ◌++◌, Option, Some, None, length, map, filter_map, slice_get, IfSome, IsSome, refl, sym, ap, ◌∙◌, subst, arith, inl, inr, append-nil}
use Rattle.std.specs.Prelude.{Contains, slice_set}
use Rattle.std.specs.List.{cons_option, list_any}
use Rattle.std.specs.Option.{option_flatten}
use Rattle.std.proofs.lemmas.Bool.{cases_eq, cases_lt}
use Rattle.std.proofs.lemmas.List.Elements.{All-push, All-weaker, Contains-append_left, Contains-append_right, Contains-append_cases, Contains-push_cases}
use Rattle.std.proofs.lemmas.List.Folds.{list_any-append}
use Rattle.hw_lemmas.proofs.Truths.{is_there}
use Rattle.hw_model.specs.declared.lit.Lit.{Lit}
use Rattle.hw_model.specs.declared.source.Source.{Source}
use Rattle.hw_model.specs.declared.source.Source.TheVariants as sources
use Rattle.hw_model.specs.Problem.{Problem}
use Rattle.hw_cert_lines.specs.declared.line.Line.{Line}
use Rattle.hw_cert_lines.specs.declared.line.Line.TheVariants as lines
use Rattle.hw_cert_lines.specs.Lines.{source_line, clause_of, clauses_of, clause_count, clause_at, live, deletes, DeletesEarlier, table_after, last_table, is_end, is_closed}
use Rattle.hw_cert_lines.specs.Lemmas.{lemma_of, lemmas_of}
use Rattle.hw_cert_lines.specs.Laws.{PricesStay}
use Rattle.hw_cert_lines.proofs.Pushed.{one_more, last_push, clauses_push, clause_prices, table_added}
use Rattle.hw_cert_lines.proofs.Deleted.{live_in as live_inside}
use Rattle.hw_cert_lines.proofs.Live.{lemmas_push}
use Rattle.hw_trail_laws.specs.declared.event.Why.{Why}
use Rattle.hw_trail_laws.specs.declared.event.Why.TheVariants as whys
use Rattle.hw_trail_laws.specs.Trails.{reason_clause as why_clause}
use Rattle.hw_trail_laws.specs.Learning.{reason_at}
use Rattle.hw_store.specs.declared.store.Stored.{Stored}
use Rattle.hw_search_laws.specs.Prices.{PriceModel, PricesTold}
use Rattle.hw_search_laws.specs.Searches.{SearchModel, FitsOpen, LiveKept, written_at, kept_numbers}
use Rattle.hw_search_laws.specs.Turns.{why_lines, with_written, with_lemma}
use Rattle.hw_search_laws.proofs.Numbers.{WrittenAt, written_found, found_written, set_here, set_other, get_within, numbers_push}

-- ---- a clause line

-- a line that has this clause, is no table and deletes nothing
pub record IsClauseLine (line : Line) (clause : List Lit) : Type 0 where
  pub has : clause_of line ≡ Some clause
  pub no_table : (last : Option (List ℕ)) → table_after last line ≡ last
  pub no_delete : (id : ℕ) → deletes id line ≡ false

pub source_is : (f : Problem) (source : Source) (clause : List Lit) → IsClauseLine (source_line f source clause) clause
source_is f (sources.Window ship) clause = record { has = refl; no_table = λ last. refl; no_delete = λ id. refl }
source_is f (sources.Rule place) clause = record { has = refl; no_table = λ last. refl; no_delete = λ id. refl }
source_is f (sources.Order v w x) clause = record { has = refl; no_table = λ last. refl; no_delete = λ id. refl }
source_is f sources.Goal clause = record { has = refl; no_table = λ last. refl; no_delete = λ id. refl }

pub source_no_lemma : (f : Problem) (source : Source) (clause : List Lit) → lemma_of (source_line f source clause) ≡ None
source_no_lemma f (sources.Window ship) clause = refl
source_no_lemma f (sources.Rule place) clause = refl
source_no_lemma f (sources.Order v w x) clause = refl
source_no_lemma f sources.Goal clause = refl

pub priced_is : (clause : List Lit) → IsClauseLine (lines.Priced clause) clause
priced_is clause = record { has = refl; no_table = λ last. refl; no_delete = λ id. refl }

pub why_is : (f : Problem) (why : Why) (line : Line) → why_lines f why ≡ line ∷ [] → IsClauseLine line (why_clause why)
why_is f (whys.Lemma number clause) line e = absurd cc
why_is f (whys.Source source clause) line e = let same : source_line f source clause ≡ line = cc in subst (λ l. IsClauseLine l clause) same (source_is f source clause)
why_is f (whys.Priced clause) line e = let same : lines.Priced clause ≡ line = cc in subst (λ l. IsClauseLine l clause) same (priced_is clause)

pub why_no_lemma : (f : Problem) (why : Why) (line : Line) → why_lines f why ≡ line ∷ [] → lemma_of line ≡ None
why_no_lemma f (whys.Lemma number clause) line e = absurd cc
why_no_lemma f (whys.Source source clause) line e = let same : source_line f source clause ≡ line = cc in subst (λ l. lemma_of l ≡ None) same (source_no_lemma f source clause)
why_no_lemma f (whys.Priced clause) line e = let same : lines.Priced clause ≡ line = cc in subst (λ l. lemma_of l ≡ None) same refl

pub lemma_is : (clause : List Lit) (hints : List ℕ) → IsClauseLine (lines.Lemma clause hints) clause
lemma_is clause hints = record { has = refl; no_table = λ last. refl; no_delete = λ id. refl }

-- ---- what stands and what is live

pub at_stays : (before : List Line) (line : Line) (n : ℕ) (clause : List Lit) → clause_at before n ≡ Some clause → clause_at (before ++ line ∷ []) n ≡ Some clause
at_stays before line zero clause e = absurd cc
at_stays before line (suc n) clause e = ap (λ xs. slice_get xs n) (clauses_push before line) ∙ get_within (clauses_of before) (cons_option (clause_of line) []) n clause e

live_by : (b : Bool) (o : Option (List Lit)) → IsSome (cond b None o) → (b ≡ false) × IsSome o
live_by true o h = absurd cc
live_by false o h = (refl, h)

by_live : (b : Bool) (o : Option (List Lit)) → b ≡ false → cond b None o ≡ o
by_live true o e = absurd cc
by_live false o e = refl

pub live_parts : (before : List Line) (n : ℕ) → IsSome (live before n) → (list_any (deletes n) before ≡ false) × IsSome (clause_at before n)
live_parts before n h = live_by (list_any (deletes n) before) (clause_at before n) h

pub live_stays : (f : Problem) (before : List Line) (line : Line) (n : ℕ) → deletes n line ≡ false → IsSome (live before n) → IsSome (live (before ++ line ∷ []) n)
live_stays f before line n e h = subst IsSome (sym ((one_more f before line).earlier n (live_inside before n h) e)) h

counted : (f : Problem) (before : List Line) (line : Line) (clause : List Lit) → IsClauseLine line clause → clause_count (before ++ line ∷ []) ≡ clause_count before + 1
counted f before line clause c = subst (λ o. IfSome o (λ clause. clause_count (before ++ line ∷ []) ≡ clause_count before + 1)) c.has (one_more f before line).counted

pub new_stands : (f : Problem) (before : List Line) (line : Line) (clause : List Lit) → IsClauseLine line clause → clause_at (before ++ line ∷ []) (clause_count before + 1) ≡ Some clause
new_stands f before line clause c = subst (λ o. IfSome o (λ clause. clause_at (before ++ line ∷ []) (clause_count before + 1) ≡ Some clause)) c.has (one_more f before line).added

pub any_push : (n : ℕ) (before : List Line) (line : Line) → list_any (deletes n) before ≡ false → deletes n line ≡ false → list_any (deletes n) (before ++ line ∷ []) ≡ false
any_push n before line e h = list_any-append (deletes n) before (line ∷ []) ∙ both (list_any (deletes n) before) (deletes n line) e h
  where
    both : (a b : Bool) → a ≡ false → b ≡ false → (a || (b || false)) ≡ false
    both true b e h = absurd cc
    both false true e h = absurd cc
    both false false e h = refl

pub new_live : (f : Problem) (before : List Line) (line : Line) (clause : List Lit) → DeletesEarlier before → IsClauseLine line clause → live (before ++ line ∷ []) (clause_count before + 1) ≡ Some clause
new_live f before line clause d c =
    let none = any_push (clause_count before + 1) before line (d (clause_count before + 1) (omega arith)) (c.no_delete (clause_count before + 1)) in
    by_live (list_any (deletes (clause_count before + 1)) (before ++ line ∷ [])) _ none ∙ new_stands f before line clause c

-- a number that is live after the line was live before it, or is the line's own
pub live_back : (f : Problem) (before : List Line) (line : Line) (clause : List Lit) → IsClauseLine line clause → (n : ℕ) → IsSome (live (before ++ line ∷ []) n) → IsSome (live before n) ⊎ (n ≡ clause_count before + 1)
live_back f before line clause c n h = elim (cases_lt (clause_count before) n) [
  | inl more ↦ inr (omega (arith, more, live_inside (before ++ line ∷ []) n h, counted f before line clause c))
  | inr less ↦ inl (subst IsSome ((one_more f before line).earlier n less (c.no_delete n)) h)
]

earlier_push : (f : Problem) (before : List Line) (line : Line) → ((id : ℕ) → deletes id line ≡ false) → clause_count before ≤ clause_count (before ++ line ∷ []) → DeletesEarlier before → DeletesEarlier (before ++ line ∷ [])
earlier_push f before line none le d = λ n lt. any_push n before line (d n (omega (arith, lt, le))) (none n)

-- ---- the lists of a log with one more line

pub same_lemmas : (before : List Line) (line : Line) → lemma_of line ≡ None → lemmas_of (before ++ line ∷ []) ≡ lemmas_of before
same_lemmas before line e = lemmas_push before line ∙ ap (λ o. lemmas_of before ++ cons_option o []) e ∙ append-nil (lemmas_of before)

not_end : (clause : List Lit) → 1 ≤ length clause → is_end (Some clause) ≡ false
not_end [] h = absurd (omega (arith, h))
not_end (l ∷ c) h = refl

still_open : (f : Problem) (before : List Line) (line : Line) (clause : List Lit) → IsClauseLine line clause → 1 ≤ length clause → is_closed before ≡ false → is_closed (before ++ line ∷ []) ≡ false
still_open f before line clause c some e = (one_more f before line).closed ∙ ap (λ b. b || is_end (clause_of line)) e ∙ ap is_end c.has ∙ not_end clause some

-- ---- the prices that are told

pub prices_on : (before after : List Line) (p : PriceModel) → PricesStay before after → PricesTold before p → PricesTold after p
prices_on before after p stay told = record { tolls = stay.tolls ∙ told.tolls; tariff = stay.tariff ∙ told.tariff; bound = stay.bound ∙ told.bound }

-- a clause line changes none
pub clause_told : (before : List Line) (line : Line) (clause : List Lit) (p : PriceModel) → IsClauseLine line clause → PricesTold before p → PricesTold (before ++ line ∷ []) p
clause_told before line clause p c told = prices_on before (before ++ line ∷ []) p (clause_prices before line clause c.has) told

-- ---- the numbers that a search keeps

pub stored_cases : (s : SearchModel) (n : ℕ) → Contains (kept_numbers s) n → Contains (map (λ (one : Stored). one.number) s.stored) n ⊎ ((place : ℕ) × (written_at s place ≡ Some n))
stored_cases s n h = elim (Contains-append_cases (map (λ (one : Stored). one.number) s.stored) (filter_map (λ (w : Option ℕ). w) s.written) n h) [
  | inl a ↦ inl a
  | inr b ↦ inr (written_found s.written n b)
]

pub kept_stored : (s : SearchModel) (n : ℕ) → Contains (map (λ (one : Stored). one.number) s.stored) n → Contains (kept_numbers s) n
kept_stored s n h = Contains-append_left (map (λ (one : Stored). one.number) s.stored) (filter_map (λ (w : Option ℕ). w) s.written) n h

pub kept_written : (s : SearchModel) (place n : ℕ) → written_at s place ≡ Some n → Contains (kept_numbers s) n
kept_written s place n e = Contains-append_right (map (λ (one : Stored). one.number) s.stored) (filter_map (λ (w : Option ℕ). w) s.written) n (found_written s.written place n e)

-- ---- a reason's line

written_cases : (s : SearchModel) (place q n : ℕ) → written_at (with_written s place) q ≡ Some n → ((q ≡ place) × (n ≡ s.clause_lines + 1)) ⊎ (written_at s q ≡ Some n)
written_cases s place q n e = elim (cases_eq q place) [
  | inl same ↦ elim (cases_lt q (length s.written)) [
    | inl lt ↦
        let h : written_at (with_written s place) q ≡ Some (s.clause_lines + 1) = subst (λ k. WrittenAt (slice_set s.written place (Some (s.clause_lines + 1))) k (s.clause_lines + 1)) (sym same) (set_here s.written place (s.clause_lines + 1) (omega (arith, lt, same))) in
        inl (same, let two : Some n ≡ Some (s.clause_lines + 1) = sym e ∙ h in cc)
    | inr past ↦ inr (past_none s.written place q (Some (s.clause_lines + 1)) n past e)
  ]
  | inr ne ↦ inr (sym (ap (λ (o : Option (Option ℕ)). option_flatten o) (set_other s.written place q (Some (s.clause_lines + 1)) ne)) ∙ e)
]
  where
    past_none : (ws : List (Option ℕ)) (place q : ℕ) (o : Option ℕ) (n : ℕ) → length ws ≤ q → WrittenAt (slice_set ws place o) q n → WrittenAt ws q n
    past_none [] place q o n le h = h
    past_none (x ∷ ws) place zero o n le h = absurd (omega (arith, le))
    past_none (x ∷ ws) zero (suc q) o n le h = h
    past_none (x ∷ ws) (suc place) (suc q) o n le h = past_none ws place q o n (omega (arith, le)) h

written_stays : (s : SearchModel) (place q n : ℕ) → written_at s place ≡ None → written_at s q ≡ Some n → written_at (with_written s place) q ≡ Some n
written_stays s place q n none e = elim (cases_eq q place) [
  | inl same ↦ absurd (let two : Some n ≡ None = sym e ∙ ap (written_at s) same ∙ none in cc)
  | inr ne ↦ ap (λ (o : Option (Option ℕ)). option_flatten o) (set_other s.written place q (Some (s.clause_lines + 1)) ne) ∙ e
]

pub if_some : {A : Type 0} (o : Option A) (P : A → Type 0) → ((x : A) → o ≡ Some x → P x) → IfSome o P
if_some None P h = tt
if_some (Some x) P h = h x refl

pub of_some : {A : Type 0} (o : Option A) (P : A → Type 0) (x : A) → o ≡ Some x → IfSome o P → P x
of_some None P x e h = absurd cc
of_some (Some y) P x e h = subst P (let same : y ≡ x = cc in same) h

-- the clause of a written reason
reason_stays : (s : SearchModel) (before : List Line) (line : Line) → FitsOpen before s → (q n : ℕ) → written_at s q ≡ Some n → (clause : List Lit) → reason_at s.trail q ≡ Some clause → clause_at (before ++ line ∷ []) n ≡ Some clause
reason_stays s before line fit q n e clause r = at_stays before line n clause (of_some (written_at s q) (λ number. clause_at before number ≡ reason_at s.trail q) n e (fit.reason_stands q) ∙ r)

-- a written number stands for a reason, since a clause stands there
pub some_reason : (s : SearchModel) (before : List Line) → FitsOpen before s → (q n : ℕ) → written_at s q ≡ Some n → (clause : List Lit) × (reason_at s.trail q ≡ Some clause)
some_reason s before fit q n e =
    let at : clause_at before n ≡ reason_at s.trail q = of_some (written_at s q) (λ number. clause_at before number ≡ reason_at s.trail q) n e (fit.reason_stands q) in
    let h = (live_parts before n (fit.kept_live n (kept_written s q n e))).1 in
    there (reason_at s.trail q) (subst IsSome at h)
  where
    there : (o : Option (List Lit)) → IsSome o → (clause : List Lit) × (o ≡ Some clause)
    there None h = absurd cc
    there (Some c) h = (c, refl)

same_count : (s : SearchModel) (before : List Line) → FitsOpen before s → s.clause_lines + 1 ≡ clause_count before + 1
same_count s before fit = omega (arith, fit.count)

-- the line of any reason that has none yet
pub written_open : (s : SearchModel) (before : List Line) (place : ℕ) (line : Line) (clause : List Lit) → FitsOpen before s → IsClauseLine line clause → lemma_of line ≡ None → reason_at s.trail place ≡ Some clause → written_at s place ≡ None → 1 ≤ length clause → FitsOpen (before ++ line ∷ []) (with_written s place)
written_open s before place line clause fit c no_lemma why none some =
    let n = same_count s before fit in
    record {
      lemmas = same_lemmas before line no_lemma ∙ fit.lemmas;
      count = counted s.problem before line clause c ∙ ap (λ k. k + 1) fit.count;
      best = last_push before line ∙ c.no_table (last_table before) ∙ fit.best;
      none_empty = still_open s.problem before line clause c some fit.none_empty;
      lemma_stands = All-weaker (λ (one : Stored). clause_at before one.number ≡ Some one.clause) (λ (one : Stored). clause_at (before ++ line ∷ []) one.number ≡ Some one.clause) (λ one h. at_stays before line one.number one.clause h) s.stored fit.lemma_stands;
      reason_stands = λ q. if_some (written_at (with_written s place) q) (λ number. clause_at (before ++ line ∷ []) number ≡ reason_at s.trail q) (λ m e. elim (written_cases s place q m e) [
        | inl new ↦
            let r : reason_at s.trail q ≡ Some clause = ap (reason_at s.trail) new.0 ∙ why in
            subst (λ k. clause_at (before ++ line ∷ []) k ≡ reason_at s.trail q) (sym (new.1 ∙ n)) (new_stands s.problem before line clause c ∙ sym r)
        | inr old ↦ let r = some_reason s before fit q m old in reason_stays s before line fit q m old r.0 r.1 ∙ sym r.1
      ]);
      kept_live = λ m h. elim (stored_cases (with_written s place) m h) [
        | inl a ↦ live_stays s.problem before line m (c.no_delete m) (fit.kept_live m (kept_stored s m a))
        | inr b ↦ elim (written_cases s place b.0 m b.1) [
          | inl new ↦ subst (λ k. IsSome (live (before ++ line ∷ []) k)) (sym (new.1 ∙ n)) (is_there _ clause (new_live s.problem before line clause fit.deletes_earlier c))
          | inr old ↦ live_stays s.problem before line m (c.no_delete m) (fit.kept_live m (kept_written s b.0 m old))
        ]
      ];
      deletes_earlier = earlier_push s.problem before line c.no_delete (omega (arith, counted s.problem before line clause c)) fit.deletes_earlier;
      prices = clause_told before line clause s.prices c fit.prices;
    }

pub written_kept : (s : SearchModel) (before : List Line) (place : ℕ) (line : Line) (clause : List Lit) → FitsOpen before s → IsClauseLine line clause → LiveKept before s → place < length s.written → written_at s place ≡ None → LiveKept (before ++ line ∷ []) (with_written s place)
written_kept s before place line clause fit c kept lt none = λ m h. elim (live_back s.problem before line clause c m h) [
  | inl old ↦ elim (stored_cases s m (kept m old)) [
    | inl a ↦ kept_stored (with_written s place) m a
    | inr b ↦ kept_written (with_written s place) b.0 m (written_stays s place b.0 m none b.1)
  ]
  | inr new ↦
      let e : s.clause_lines + 1 ≡ m = same_count s before fit ∙ sym new in
      subst (Contains (kept_numbers (with_written s place))) e (kept_written (with_written s place) place (s.clause_lines + 1) (set_here s.written place (s.clause_lines + 1) lt))
]

-- the line of a source
pub reason_open : (s : SearchModel) (before : List Line) (place : ℕ) (source : Source) (clause : List Lit) → FitsOpen before s → reason_at s.trail place ≡ Some clause → written_at s place ≡ None → 1 ≤ length clause
    → FitsOpen (before ++ source_line s.problem source clause ∷ []) (with_written s place)
reason_open s before place source clause fit why none some = written_open s before place (source_line s.problem source clause) clause fit (source_is s.problem source clause) (source_no_lemma s.problem source clause) why none some

pub reason_kept : (s : SearchModel) (before : List Line) (place : ℕ) (source : Source) (clause : List Lit) → FitsOpen before s → LiveKept before s → place < length s.written → written_at s place ≡ None → LiveKept (before ++ source_line s.problem source clause ∷ []) (with_written s place)
reason_kept s before place source clause fit kept lt none = written_kept s before place (source_line s.problem source clause) clause fit (source_is s.problem source clause) kept lt none

-- ---- a conflict's line: its number is kept by nobody

abbrev pub one_line : SearchModel → SearchModel
one_line s = record s { clause_lines = s.clause_lines + 1 }

pub line_open : (s : SearchModel) (before : List Line) (line : Line) (clause : List Lit) → FitsOpen before s → IsClauseLine line clause → lemma_of line ≡ None → 1 ≤ length clause → FitsOpen (before ++ line ∷ []) (one_line s)
line_open s before line clause fit c none some = record {
  lemmas = same_lemmas before line none ∙ fit.lemmas;
  count = counted s.problem before line clause c ∙ ap (λ k. k + 1) fit.count;
  best = last_push before line ∙ c.no_table (last_table before) ∙ fit.best;
  none_empty = still_open s.problem before line clause c some fit.none_empty;
  lemma_stands = All-weaker (λ (one : Stored). clause_at before one.number ≡ Some one.clause) (λ (one : Stored). clause_at (before ++ line ∷ []) one.number ≡ Some one.clause) (λ one h. at_stays before line one.number one.clause h) s.stored fit.lemma_stands;
  reason_stands = λ q. if_some (written_at s q) (λ number. clause_at (before ++ line ∷ []) number ≡ reason_at s.trail q) (λ m e. let r = some_reason s before fit q m e in reason_stays s before line fit q m e r.0 r.1 ∙ sym r.1);
  kept_live = λ m h. live_stays s.problem before line m (c.no_delete m) (fit.kept_live m h);
  deletes_earlier = earlier_push s.problem before line c.no_delete (omega (arith, counted s.problem before line clause c)) fit.deletes_earlier;
  prices = clause_told before line clause s.prices c fit.prices;
}

-- ---- a lemma's line

map_push : (xs : List Stored) (x : Stored) → map (λ (one : Stored). one.clause) (xs ++ x ∷ []) ≡ map (λ (one : Stored). one.clause) xs ++ x.clause ∷ []
map_push [] x = refl
map_push (y ∷ xs) x = ap (λ ys. y.clause ∷ ys) (map_push xs x)

lemma_cases : (s : SearchModel) (lemma : List Lit) (m : ℕ) → Contains (kept_numbers (with_lemma s lemma)) m → Contains (kept_numbers s) m ⊎ (m ≡ s.clause_lines + 1)
lemma_cases s lemma m h = elim (stored_cases (with_lemma s lemma) m h) [
  | inl a ↦ elim (Contains-push_cases (map (λ (one : Stored). one.number) s.stored) (s.clause_lines + 1) m (subst (λ xs. Contains xs m) (numbers_push s.stored (record { number = s.clause_lines + 1; clause = lemma })) a)) [
    | inl old ↦ inl (kept_stored s m old)
    | inr new ↦ inr (sym new)
  ]
  | inr b ↦ inl (kept_written s b.0 m b.1)
]

pub lemma_open : (s : SearchModel) (before : List Line) (lemma : List Lit) (hints : List ℕ) → FitsOpen before s → 1 ≤ length lemma → FitsOpen (before ++ lines.Lemma lemma hints ∷ []) (with_lemma s lemma)
lemma_open s before lemma hints fit some =
    let line = lines.Lemma lemma hints in
    let c = lemma_is lemma hints in
    let n = same_count s before fit in
    record {
      lemmas = lemmas_push before line ∙ ap (λ xs. xs ++ lemma ∷ []) fit.lemmas ∙ sym (map_push s.stored (record { number = s.clause_lines + 1; clause = lemma }));
      count = counted s.problem before line lemma c ∙ ap (λ k. k + 1) fit.count;
      best = last_push before line ∙ fit.best;
      none_empty = still_open s.problem before line lemma c some fit.none_empty;
      lemma_stands = All-push (λ (one : Stored). clause_at (before ++ line ∷ []) one.number ≡ Some one.clause) s.stored (record { number = s.clause_lines + 1; clause = lemma })
          (All-weaker (λ (one : Stored). clause_at before one.number ≡ Some one.clause) (λ (one : Stored). clause_at (before ++ line ∷ []) one.number ≡ Some one.clause) (λ one h. at_stays before line one.number one.clause h) s.stored fit.lemma_stands)
          (subst (λ k. clause_at (before ++ line ∷ []) k ≡ Some lemma) (sym n) (new_stands s.problem before line lemma c));
      reason_stands = λ q. if_some (written_at s q) (λ number. clause_at (before ++ line ∷ []) number ≡ reason_at s.trail q) (λ m e. let r = some_reason s before fit q m e in reason_stays s before line fit q m e r.0 r.1 ∙ sym r.1);
      kept_live = λ m h. elim (lemma_cases s lemma m h) [
        | inl old ↦ live_stays s.problem before line m refl (fit.kept_live m old)
        | inr new ↦ subst (λ k. IsSome (live (before ++ line ∷ []) k)) (sym (new ∙ n)) (is_there _ lemma (new_live s.problem before line lemma fit.deletes_earlier c))
      ];
      deletes_earlier = earlier_push s.problem before line c.no_delete (omega (arith, counted s.problem before line lemma c)) fit.deletes_earlier;
      prices = clause_told before line lemma s.prices c fit.prices;
    }

-- ---- a table's line

pub table_open : (s : SearchModel) (before : List Line) (table : List ℕ) → FitsOpen before s → FitsOpen (before ++ lines.Table table ∷ []) (record s { best = Some table })
table_open s before table fit =
    let line = lines.Table table in
    let o = one_more s.problem before line in
    record {
      lemmas = same_lemmas before line refl ∙ fit.lemmas;
      count = o.uncounted refl ∙ fit.count;
      best = last_push before line;
      none_empty = o.closed ∙ ap (λ b. b || false) fit.none_empty;
      lemma_stands = All-weaker (λ (one : Stored). clause_at before one.number ≡ Some one.clause) (λ (one : Stored). clause_at (before ++ line ∷ []) one.number ≡ Some one.clause) (λ one h. at_stays before line one.number one.clause h) s.stored fit.lemma_stands;
      reason_stands = λ q. if_some (written_at s q) (λ number. clause_at (before ++ line ∷ []) number ≡ reason_at s.trail q) (λ m e. let r = some_reason s before fit q m e in reason_stays s before line fit q m e r.0 r.1 ∙ sym r.1);
      kept_live = λ m h. live_stays s.problem before line m refl (fit.kept_live m h);
      deletes_earlier = earlier_push s.problem before line (λ id. refl) (omega (arith, o.uncounted refl)) fit.deletes_earlier;
      prices = prices_on before (before ++ line ∷ []) s.prices (table_added s.problem before table).prices fit.prices;
    }

pub table_kept : (s : SearchModel) (before : List Line) (table : List ℕ) → LiveKept before s → LiveKept (before ++ lines.Table table ∷ []) (record s { best = Some table })
table_kept s before table kept = λ m h.
    let o = one_more s.problem before (lines.Table table) in
    let le : m ≤ clause_count before = omega (arith, live_inside (before ++ lines.Table table ∷ []) m h, o.uncounted refl) in
    kept m (subst IsSome (o.earlier m le refl) h)
