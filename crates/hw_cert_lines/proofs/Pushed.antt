-- What one more line changes.
use Rattle.std.proofs.Common.{◌≡◌, ℕ, zero, suc, ◌+◌, ◌<◌, ◌≤◌, ◌==◌, Bool, true, false, ◌||◌, cond, List, [], ◌∷◌, ◌++◌, Option, Some, None, length, slice_get, option_and_then, IfSome, refl, sym, ap, ◌∙◌, subst, inl, inr, arith, append-nil}
use Rattle.std.proofs.lemmas.Bool.{cond_both, cases_lt, eq-eqb, ne_eqb}
use Rattle.std.proofs.lemmas.List.Elements.{filter_map-append}
use Rattle.std.proofs.lemmas.List.Folds.{list_any-append}
use Rattle.std.proofs.lemmas.List.Sums.{fold_push}
use Rattle.std.specs.List.{cons_option, list_any}
use Rattle.hw_model.specs.declared.lit.Lit.{Lit}
use Rattle.hw_model.specs.Problem.{Problem}
use Rattle.hw_model.specs.Timetables.{cargo}
use Rattle.hw_cert_lines.specs.declared.line.Line.{Line}
use Rattle.hw_cert_lines.specs.declared.line.Line.TheVariants as lines
use Rattle.hw_cert_lines.specs.Lines.{clause_of, clauses_of, clause_count, live, DeletesEarlier, table_after, last_table, is_end, is_closed, clause_at, deletes}
use Rattle.hw_cert_lines.specs.Tolled.{toll_of, tolls_of, tariff_after, tariff_of, bound_after, bound_of}
use Rattle.hw_cert_lines.specs.Laws.{OneMore, PricesStay, ClauseAdded, TableAdded, NumbersDeleted}
use Rattle.hw_cert_lines.proofs.Counted.{same_earlier, last_one, counted_by, uncounted_by, added_by}

-- ---- the clauses and the last table

pub last_push : (before : List Line) (line : Line) → last_table (before ++ line ∷ []) ≡ table_after (last_table before) line
last_push before line = fold_push table_after None before line

pub clauses_push : (before : List Line) (line : Line) → clauses_of (before ++ line ∷ []) ≡ clauses_of before ++ cons_option (clause_of line) []
clauses_push before line = filter_map-append clause_of before (line ∷ [])

-- ---- the tolls, the tariff and the bound

pub tolls_push : (before : List Line) (line : Line) → tolls_of (before ++ line ∷ []) ≡ tolls_of before ++ cons_option (toll_of line) []
tolls_push before line = filter_map-append toll_of before (line ∷ [])

pub tariff_push : (before : List Line) (line : Line) → tariff_of (before ++ line ∷ []) ≡ tariff_after (tariff_of before) line
tariff_push before line = fold_push tariff_after None before line

pub bound_push : (before : List Line) (line : Line) → bound_of (before ++ line ∷ []) ≡ bound_after (bound_of before) line
bound_push before line = fold_push bound_after None before line

pub same_tolls : (before : List Line) (line : Line) → toll_of line ≡ None → tolls_of (before ++ line ∷ []) ≡ tolls_of before
same_tolls before line none = tolls_push before line ∙ ap (λ o. tolls_of before ++ cons_option o []) none ∙ append-nil (tolls_of before)

-- a line that declares no toll and changes neither tariff nor bound
pub prices_stay : (before : List Line) (line : Line) → toll_of line ≡ None → tariff_after (tariff_of before) line ≡ tariff_of before → bound_after (bound_of before) line ≡ bound_of before → PricesStay before (before ++ line ∷ [])
prices_stay before line toll tariff bound = record { tolls = same_tolls before line toll; tariff = tariff_push before line ∙ tariff; bound = bound_push before line ∙ bound }

-- ---- any line

pub or_false : (b : Bool) → (b || false) ≡ b
or_false true = refl
or_false false = refl

still_live : (before : List Line) (line : Line) (id : ℕ) → id ≤ clause_count before → deletes id line ≡ false → live (before ++ line ∷ []) id ≡ live before id
still_live before line id le e =
    let same : list_any (deletes id) (before ++ line ∷ []) ≡ list_any (deletes id) before = list_any-append (deletes id) before (line ∷ []) ∙ ap (λ b. list_any (deletes id) before || (b || false)) e ∙ or_false _ in
    let clause : clause_at (before ++ line ∷ []) id ≡ clause_at before id = same_earlier before (before ++ line ∷ []) (cons_option (clause_of line) []) id (clauses_push before line) le in
    rw (same, clause) refl

pub one_more : (f : Problem) (before : List Line) (line : Line) → OneMore f before line
one_more f before line = record {
  best = ap (option_and_then (cargo f)) (last_push before line);
  closed = list_any-append (λ line. is_end (clause_of line)) before (line ∷ []) ∙ ap (λ b. is_closed before || b) (or_false (is_end (clause_of line)));
  ended = fold_push (λ last line. is_end (clause_of line)) false before line;
  counted = counted_by before (before ++ line ∷ []) (clause_of line) (clauses_push before line);
  uncounted = uncounted_by before (before ++ line ∷ []) (clause_of line) (clauses_push before line);
  earlier = λ id le e. still_live before line id le e;
  added = added_by before (before ++ line ∷ []) (clause_of line) (clauses_push before line);
  tolls = tolls_push before line;
  tariff = tariff_push before line;
  bound = bound_push before line;
}

-- ---- a line of each kind

-- no clause line has a number past the last one
pub at_past : (all : List Line) (id : ℕ) → clause_count all < id → clause_at all id ≡ None
at_past all zero lt = refl
at_past all (suc n) lt = past (clauses_of all) n (omega (arith, lt))
  where
    past : (xs : List (List Lit)) (n : ℕ) → length xs ≤ n → slice_get xs n ≡ None
    past [] n le = refl
    past (x ∷ xs) zero le = absurd (omega (arith, le))
    past (x ∷ xs) (suc n) le = past xs n (omega (arith, le))

pub live_past : (all : List Line) (id : ℕ) → clause_count all < id → live all id ≡ None
live_past all id lt = cond_both (list_any (deletes id) all) None (clause_at all id) (λ o. o ≡ None) (λ e. refl) (λ e. at_past all id lt)

-- a line without a clause leaves the clauses as they are
pub same_at : (before : List Line) (line : Line) (id : ℕ) → clause_of line ≡ None → clause_at (before ++ line ∷ []) id ≡ clause_at before id
same_at before line zero none = refl
same_at before line (suc n) none = ap (λ clauses. slice_get clauses n) (clauses_push before line ∙ ap (λ o. clauses_of before ++ cons_option o []) none ∙ append-nil (clauses_of before))

-- what is deleted by now: before, or by the line
pub deleted_push : (before : List Line) (line : Line) (id : ℕ) (b : Bool) → deletes id line ≡ b → list_any (deletes id) (before ++ line ∷ []) ≡ (list_any (deletes id) before || b)
deleted_push before line id b e = list_any-append (deletes id) before (line ∷ []) ∙ ap (λ c. list_any (deletes id) before || (c || false)) e ∙ ap (λ c. list_any (deletes id) before || c) (or_false b)

both : (a b : Bool) (o : Option (List Lit)) → cond (a || b) None o ≡ cond b None (cond a None o)
both true true o = refl
both true false o = refl
both false b o = refl

pub table_added : (f : Problem) (before : List Line) (table : List ℕ) → TableAdded f before (before ++ lines.Table table ∷ []) table
table_added f before table =
    let line = lines.Table table in
    let more = one_more f before line in
    record {
      count = more.uncounted refl;
      live_ones = λ id. ap (λ b. cond b None (clause_at (before ++ line ∷ []) id)) (deleted_push before line id false refl ∙ or_false _) ∙ ap (λ o. cond (list_any (deletes id) before) None o) (same_at before line id refl);
      table = last_push before line;
      best = more.best;
      closed = more.closed ∙ or_false (is_closed before);
      prices = prices_stay before line refl refl refl;
    }

pub numbers_deleted : (f : Problem) (before : List Line) (ids : List ℕ) → NumbersDeleted f before (before ++ lines.Delete ids ∷ []) ids
numbers_deleted f before ids =
    let line = lines.Delete ids in
    let more = one_more f before line in
    record {
      count = more.uncounted refl;
      live_ones = λ id. ap (λ b. cond b None (clause_at (before ++ line ∷ []) id)) (deleted_push before line id (list_any (λ other. other == id) ids) refl) ∙ ap (λ o. cond (list_any (deletes id) before || list_any (λ other. other == id) ids) None o) (same_at before line id refl) ∙ both (list_any (deletes id) before) (list_any (λ other. other == id) ids) (clause_at before id);
      table = last_push before line;
      best = more.best;
      closed = more.closed ∙ or_false (is_closed before);
      prices = prices_stay before line refl refl refl;
    }

-- a clause line deletes nothing and brings no table
pub deletes_none : (line : Line) (clause : List Lit) (id : ℕ) → clause_of line ≡ Some clause → deletes id line ≡ false
deletes_none (lines.Table table) clause id e = absurd cc
deletes_none (lines.Explain n lits) clause id e = refl
deletes_none (lines.Order v w x lits) clause id e = refl
deletes_none (lines.Goal lits) clause id e = refl
deletes_none (lines.Lemma lits hints) clause id e = refl
deletes_none (lines.Delete ids) clause id e = absurd cc
deletes_none (lines.Toll toll) clause id e = absurd cc
deletes_none (lines.Tariff tariff) clause id e = absurd cc
deletes_none (lines.Priced lits) clause id e = refl
deletes_none (lines.Bound bound) clause id e = absurd cc

pub no_table : (line : Line) (clause : List Lit) (last : Option (List ℕ)) → clause_of line ≡ Some clause → table_after last line ≡ last
no_table (lines.Table table) clause last e = absurd cc
no_table (lines.Explain n lits) clause last e = refl
no_table (lines.Order v w x lits) clause last e = refl
no_table (lines.Goal lits) clause last e = refl
no_table (lines.Lemma lits hints) clause last e = refl
no_table (lines.Delete ids) clause last e = absurd cc
no_table (lines.Toll toll) clause last e = absurd cc
no_table (lines.Tariff tariff) clause last e = absurd cc
no_table (lines.Priced lits) clause last e = refl
no_table (lines.Bound bound) clause last e = absurd cc

-- nor does it change tolls, tariff or bound
pub clause_prices : (before : List Line) (line : Line) (clause : List Lit) → clause_of line ≡ Some clause → PricesStay before (before ++ line ∷ [])
clause_prices before (lines.Table table) clause e = absurd cc
clause_prices before (lines.Explain n lits) clause e = prices_stay before (lines.Explain n lits) refl refl refl
clause_prices before (lines.Order v w x lits) clause e = prices_stay before (lines.Order v w x lits) refl refl refl
clause_prices before (lines.Goal lits) clause e = prices_stay before (lines.Goal lits) refl refl refl
clause_prices before (lines.Lemma lits hints) clause e = prices_stay before (lines.Lemma lits hints) refl refl refl
clause_prices before (lines.Delete ids) clause e = absurd cc
clause_prices before (lines.Toll toll) clause e = absurd cc
clause_prices before (lines.Tariff tariff) clause e = absurd cc
clause_prices before (lines.Priced lits) clause e = prices_stay before (lines.Priced lits) refl refl refl
clause_prices before (lines.Bound bound) clause e = absurd cc

live_added : (before : List Line) (line : Line) (clause : List Lit) (id : ℕ) → DeletesEarlier before → clause_of line ≡ Some clause → clause_count (before ++ line ∷ []) ≡ clause_count before + 1 → live (before ++ line ∷ []) id ≡ cond (id == clause_count before + 1) (Some clause) (live before id)
live_added before line clause id earlier of counted = elim (cases_lt (clause_count before) id) [
  | inr le ↦ still_live before line id le (deletes_none line clause id of) ∙ ap (λ b. cond b (Some clause) (live before id)) (sym (ne_eqb id (clause_count before + 1) (λ e. omega (arith, e, le))))
  | inl lt ↦ elim (cases_lt (clause_count before + 1) id) [
    | inr le ↦
        let is : id ≡ clause_count before + 1 = omega (arith, lt, le) in
        ap (λ b. cond b None (clause_at (before ++ line ∷ []) id)) (deleted_push before line id false (deletes_none line clause id of) ∙ or_false _ ∙ earlier id lt) ∙ last_one before (before ++ line ∷ []) clause id (clauses_push before line ∙ ap (λ o. clauses_of before ++ cons_option o []) of) is ∙ ap (λ b. cond b (Some clause) (live before id)) (sym (eq-eqb id (clause_count before + 1) is))
    | inl past ↦ live_past (before ++ line ∷ []) id (omega (arith, counted, past)) ∙ sym (live_past before id lt) ∙ ap (λ b. cond b (Some clause) (live before id)) (sym (ne_eqb id (clause_count before + 1) (λ e. omega (arith, e, past))))
  ]
]

pub clause_added : (f : Problem) (before : List Line) (line : Line) (clause : List Lit) → DeletesEarlier before → clause_of line ≡ Some clause → ClauseAdded f before (before ++ line ∷ []) clause
clause_added f before line clause earlier of =
    let more = one_more f before line in
    let counted : clause_count (before ++ line ∷ []) ≡ clause_count before + 1 = subst (λ o. IfSome o (λ clause. clause_count (before ++ line ∷ []) ≡ clause_count before + 1)) of more.counted in
    record {
      count = counted;
      live_ones = λ id. live_added before line clause id earlier of counted;
      table = last_push before line ∙ no_table line clause (last_table before) of;
      best = more.best ∙ ap (option_and_then (cargo f)) (no_table line clause (last_table before) of);
      closed = more.closed ∙ ap (λ o. is_closed before || is_end o) of;
      prices = clause_prices before line clause of;
    }
