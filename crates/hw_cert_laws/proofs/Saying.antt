-- What a valid line adds to what the lines before it say.
use Rattle.std.proofs.Common.{◌≡◌, ℕ, ◌<◌, true, List, [], ◌∷◌, ◌++◌, Option, Some, None, option_and_then, All, IfSome, IsSomeAnd, IsTrue, refl, sym, ap, ◌∙◌, subst, arith, append-nil}
use Rattle.std.proofs.lemmas.Bool.{ltb-true, lt-ltb}
use Rattle.std.proofs.lemmas.List.Elements.{All-nil, All-cons, All-append}
use Rattle.std.specs.List.{cons_option}
use Rattle.hw_model.specs.declared.lit.Lit.{Lit}
use Rattle.hw_model.specs.declared.source.Source.TheVariants as sources
use Rattle.hw_model.specs.Problem.{Problem, shape_of}
use Rattle.hw_model.specs.Limits.{IsFlat}
use Rattle.hw_model.specs.Timetables.{Permits, cargo, beats}
use Rattle.hw_model.specs.Lits.{clause_holds, IsClause}
use Rattle.hw_model.specs.Refuting.{source_of}
use Rattle.hw_price_laws.specs.declared.tariff.Tariff.{Tariff}
use Rattle.hw_price_laws.specs.Prices.{PricesRefute}
use Rattle.hw_price_laws.specs.Tolls.{IsToll}
use Rattle.hw_cert_lines.specs.declared.line.Line.{Line}
use Rattle.hw_cert_lines.specs.declared.line.Line.TheVariants as lines
use Rattle.hw_cert_lines.specs.Lines.{clause_of, clauses_of, table_after, last_table, best_of}
use Rattle.hw_cert_lines.specs.Tolled.{tolls_of, tariff_of}
use Rattle.hw_cert_lines.specs.Valid.{LineFits, ValidAfter, denied_room}
use Rattle.hw_cert_lines.proofs.Pushed.{last_push, clauses_push}
use Rattle.hw_cert_laws.proofs.Denied.{of_problem}
use Rattle.hw_cert_laws.proofs.Steps.{by_source, by_prices, by_replay}

-- ---- what the lines say

-- every clause is true of every permitted timetable that beats the best
abbrev pub AllTrue : Problem → List Line → Type 0
AllTrue f before = (table : List ℕ) (c : ℕ) → Permits f table → cargo f table ≡ Some c → IsTrue (beats c (best_of f before)) → All (λ clause. IsTrue (clause_holds table clause)) (clauses_of before)

pub record Says (f : Problem) (before : List Line) : Type 0 where
  pub all_true : AllTrue f before
  pub clauses : All (IsClause (shape_of f)) (clauses_of before)
  pub permitted : IfSome (last_table before) (Permits f)

-- ---- one step

-- a clause line whose clause holds of what the lines before speak of
clause_line : (f : Problem) (before : List Line) (line : Line) (clause : List Lit) → clause_of line ≡ Some clause → table_after (last_table before) line ≡ last_table before → IsClause (shape_of f) clause → Says f before → ((table : List ℕ) (c : ℕ) → Permits f table → cargo f table ≡ Some c → IsTrue (beats c (best_of f before)) → clause_holds table clause ≡ true) → Says f (before ++ line ∷ [])
clause_line f before line clause of same is says holds =
    let last : last_table (before ++ line ∷ []) ≡ last_table before = last_push before line ∙ same in
    let list : clauses_of (before ++ line ∷ []) ≡ clauses_of before ++ clause ∷ [] = clauses_push before line ∙ ap (λ o. clauses_of before ++ cons_option o []) of in
    record {
      all_true = λ table c permits e above.
          let before_it : IsTrue (beats c (best_of f before)) = subst (λ o. IsTrue (beats c (option_and_then (cargo f) o))) last above in
          subst (All (λ clause. IsTrue (clause_holds table clause))) (sym list) (All-append (λ clause. IsTrue (clause_holds table clause)) (clauses_of before) (clause ∷ []) (says.all_true table c permits e before_it) (All-cons (λ clause. IsTrue (clause_holds table clause)) clause [] (holds table c permits e before_it) (All-nil (λ clause. IsTrue (clause_holds table clause)))));
      clauses = subst (All (IsClause (shape_of f))) (sym list) (All-append (IsClause (shape_of f)) (clauses_of before) (clause ∷ []) says.clauses (All-cons (IsClause (shape_of f)) clause [] is (All-nil (IsClause (shape_of f)))));
      permitted = subst (λ o. IfSome o (Permits f)) (sym last) says.permitted;
    }

beats_too : (c : ℕ) (o best : Option ℕ) → IsSomeAnd o (λ d. IsTrue (beats d best)) → IsTrue (beats c o) → IsTrue (beats c best)
beats_too c None best h e = absurd h
beats_too c (Some d) None h e = refl
beats_too c (Some d) (Some b) h e =
    let less : b < d = ltb-true _ _ h in
    let more : d < c = ltb-true _ _ e in
    lt-ltb _ _ (omega (arith, less, more))

table_line : (f : Problem) (before : List Line) (new : List ℕ) → Permits f new → IsSomeAnd (cargo f new) (λ c. IsTrue (beats c (best_of f before))) → Says f before → Says f (before ++ lines.Table new ∷ [])
table_line f before new permits_new better says =
    let last : last_table (before ++ lines.Table new ∷ []) ≡ Some new = last_push before (lines.Table new) in
    let list : clauses_of (before ++ lines.Table new ∷ []) ≡ clauses_of before = clauses_push before (lines.Table new) ∙ append-nil (clauses_of before) in
    record {
      all_true = λ table c permits e above.
          let over : IsTrue (beats c (cargo f new)) = subst (λ o. IsTrue (beats c (option_and_then (cargo f) o))) last above in
          subst (All (λ clause. IsTrue (clause_holds table clause))) (sym list) (says.all_true table c permits e (beats_too c (cargo f new) (best_of f before) better over));
      clauses = subst (All (IsClause (shape_of f))) (sym list) says.clauses;
      permitted = subst (λ o. IfSome o (Permits f)) (sym last) permits_new;
    }

-- a line without a clause that isn't a table
bare_line : (f : Problem) (before : List Line) (line : Line) → clause_of line ≡ None → table_after (last_table before) line ≡ last_table before → Says f before → Says f (before ++ line ∷ [])
bare_line f before line none same says =
    let last : last_table (before ++ line ∷ []) ≡ last_table before = last_push before line ∙ same in
    let list : clauses_of (before ++ line ∷ []) ≡ clauses_of before = clauses_push before line ∙ ap (λ o. clauses_of before ++ cons_option o []) none ∙ append-nil (clauses_of before) in
    record {
      all_true = λ table c permits e above.
          let before_it : IsTrue (beats c (best_of f before)) = subst (λ o. IsTrue (beats c (option_and_then (cargo f) o))) last above in
          subst (All (λ clause. IsTrue (clause_holds table clause))) (sym list) (says.all_true table c permits e before_it);
      clauses = subst (All (IsClause (shape_of f))) (sym list) says.clauses;
      permitted = subst (λ o. IfSome o (Permits f)) (sym last) says.permitted;
    }

-- the prices in force refute
in_force : (P : Tariff → Type 0) (o : Option Tariff) → IsSomeAnd o P → (tariff : Tariff) × P tariff
in_force P None h = absurd h
in_force P (Some tariff) h = (tariff, h)

pub says_more : (f : Problem) (before : List Line) (line : Line) → IsFlat f → LineFits f line → ValidAfter f before line → All (IsToll f) (tolls_of before) → Says f before → Says f (before ++ line ∷ [])
says_more f before (lines.Table table) flat fits valid held says = table_line f before table valid.claim.0 valid.claim.1 says
says_more f before (lines.Explain n clause) flat fits valid held says = clause_line f before (lines.Explain n clause) clause refl refl fits.1 says (λ table c permits e above. by_source f (source_of f n) (best_of f before) clause table c flat (of_problem f n fits.0) fits.1 valid.claim permits e above)
says_more f before (lines.Order v w x clause) flat fits valid held says = clause_line f before (lines.Order v w x clause) clause refl refl fits.3 says (λ table c permits e above. by_source f (sources.Order v w x) (best_of f before) clause table c flat (fits.0, fits.1, fits.2) fits.3 valid.claim permits e above)
says_more f before (lines.Goal clause) flat fits valid held says = clause_line f before (lines.Goal clause) clause refl refl fits says (λ table c permits e above. by_source f sources.Goal (best_of f before) clause table c flat tt fits valid.claim permits e above)
says_more f before (lines.Lemma clause hints) flat fits valid held says = clause_line f before (lines.Lemma clause hints) clause refl refl fits says (λ table c permits e above. by_replay f before clause hints table fits says.clauses valid.claim.1 permits (says.all_true table c permits e above))
says_more f before (lines.Delete ids) flat fits valid held says = bare_line f before (lines.Delete ids) refl refl says
says_more f before (lines.Toll toll) flat fits valid held says = bare_line f before (lines.Toll toll) refl refl says
says_more f before (lines.Tariff tariff) flat fits valid held says = bare_line f before (lines.Tariff tariff) refl refl says
says_more f before (lines.Priced clause) flat fits valid held says =
    let prices = in_force (λ tariff. PricesRefute f (tolls_of before) tariff (best_of f before) (denied_room f clause)) (tariff_of before) valid.claim in
    clause_line f before (lines.Priced clause) clause refl refl fits says (λ table c permits e above. by_prices f (tolls_of before) prices.0 (best_of f before) clause table c flat held fits prices.1 permits e above)
says_more f before (lines.Bound bound) flat fits valid held says = bare_line f before (lines.Bound bound) refl refl says
