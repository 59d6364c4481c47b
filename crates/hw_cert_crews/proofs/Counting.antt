-- What a line that is handed on changes of counts, of lemmas and of the end.
use Rattle.std.proofs.Common.{◌≡◌, ℕ, ◌+◌, ◌||◌, List, [], ◌∷◌, ◌++◌, Option, Some, None, length, map, refl, sym, ap, ◌∙◌, arith, length-append, append-nil}
use Rattle.std.specs.List.{cons_option}
use Rattle.std.proofs.lemmas.Bool.{cond_both}
use Rattle.std.proofs.lemmas.List.Elements.{filter_map-append}
use Rattle.hw_model.specs.declared.lit.Lit.{Lit}
use Rattle.hw_model.specs.Problem.{Problem}
use Rattle.hw_cert_lines.specs.declared.line.Line.{Line}
use Rattle.hw_cert_lines.specs.declared.line.Line.TheVariants as lines
use Rattle.hw_cert_lines.specs.Lines.{clause_of, clauses_of, clause_count, best_of, is_end}
use Rattle.hw_cert_lines.specs.Lemmas.{lemma_of, lemmas_of}
use Rattle.hw_cert_lines.proofs.Pushed.{one_more, clauses_push}
use Rattle.hw_cert_crews.specs.Pages.{Page, shared_number, renumbered, is_handed, handed}
use Rattle.hw_cert_crews.specs.Laws.{Counted}

-- the line that is handed on has the same clause, and the same lemma
pub record Alike (line line' : Line) : Type 0 where
  pub clause : clause_of line' ≡ clause_of line
  pub lemma : lemma_of line' ≡ lemma_of line

pub alike : (numbers : List ℕ) (line : Line) → Alike line (renumbered numbers line)
alike numbers (lines.Table table) = record { clause = refl; lemma = refl }
alike numbers (lines.Explain n clause) = record { clause = refl; lemma = refl }
alike numbers (lines.Order v w x clause) = record { clause = refl; lemma = refl }
alike numbers (lines.Goal clause) = record { clause = refl; lemma = refl }
alike numbers (lines.Lemma clause hints) = record { clause = refl; lemma = refl }
alike numbers (lines.Delete ids) = record { clause = refl; lemma = refl }
alike numbers (lines.Toll toll) = record { clause = refl; lemma = refl }
alike numbers (lines.Tariff tariff) = record { clause = refl; lemma = refl }
alike numbers (lines.Priced clause) = record { clause = refl; lemma = refl }
alike numbers (lines.Bound bound) = record { clause = refl; lemma = refl }

count_push : (before : List Line) (line : Line) → clause_count (before ++ line ∷ []) ≡ clause_count before + length (cons_option (clause_of line) [])
count_push before line = ap length (clauses_push before line) ∙ length-append (clauses_of before) (cons_option (clause_of line) [])

-- a line that is handed on
handed_counts : (f : Problem) (page : Page) (shared : List Line) (line line' : Line) → Alike line line' → Counted f page shared line (Some line')
handed_counts f page shared line line' same = record {
  count = omega (arith, count_push shared line', count_push page.lines line, ap (λ o. length (cons_option o [])) same.clause);
  lemmas = filter_map-append lemma_of shared (line' ∷ []) ∙ ap (λ o. lemmas_of shared ++ cons_option o []) same.lemma;
  closed = λ going. (one_more f shared line').closed ∙ ap (λ b. b || is_end (clause_of line')) going ∙ ap is_end same.clause;
}

-- a line without a clause that is not
dropped_counts : (f : Problem) (page : Page) (shared : List Line) (line : Line) → clause_of line ≡ None → lemma_of line ≡ None → Counted f page shared line None
dropped_counts f page shared line none no_lemma = record {
  count = omega (arith, count_push page.lines line, ap (λ (o : Option (List Lit)). length (cons_option o [])) none);
  lemmas = sym (ap (λ o. lemmas_of shared ++ cons_option o []) no_lemma ∙ append-nil (lemmas_of shared));
  closed = λ going. going ∙ sym (ap is_end none);
}

pub counted : (f : Problem) (page : Page) (shared : List Line) (line : Line) → Counted f page shared line (handed f (best_of f shared) page.numbers line)
counted f page shared (lines.Table table) = cond_both (is_handed f (best_of f shared) (lines.Table table)) (Some (lines.Table table)) None (Counted f page shared (lines.Table table)) (λ e. handed_counts f page shared (lines.Table table) (lines.Table table) (record { clause = refl; lemma = refl })) (λ e. dropped_counts f page shared (lines.Table table) refl refl)
counted f page shared (lines.Explain n clause) = handed_counts f page shared (lines.Explain n clause) (lines.Explain n clause) (alike page.numbers (lines.Explain n clause))
counted f page shared (lines.Order v w x clause) = handed_counts f page shared (lines.Order v w x clause) (lines.Order v w x clause) (alike page.numbers (lines.Order v w x clause))
counted f page shared (lines.Goal clause) = handed_counts f page shared (lines.Goal clause) (lines.Goal clause) (alike page.numbers (lines.Goal clause))
counted f page shared (lines.Lemma clause hints) = handed_counts f page shared (lines.Lemma clause hints) (lines.Lemma clause (map (shared_number page.numbers) hints)) (alike page.numbers (lines.Lemma clause hints))
counted f page shared (lines.Delete ids) = handed_counts f page shared (lines.Delete ids) (lines.Delete (map (shared_number page.numbers) ids)) (alike page.numbers (lines.Delete ids))
counted f page shared (lines.Toll toll) = handed_counts f page shared (lines.Toll toll) (lines.Toll toll) (alike page.numbers (lines.Toll toll))
counted f page shared (lines.Tariff tariff) = handed_counts f page shared (lines.Tariff tariff) (lines.Tariff tariff) (alike page.numbers (lines.Tariff tariff))
counted f page shared (lines.Priced clause) = handed_counts f page shared (lines.Priced clause) (lines.Priced clause) (alike page.numbers (lines.Priced clause))
counted f page shared (lines.Bound bound) = handed_counts f page shared (lines.Bound bound) (lines.Bound bound) (alike page.numbers (lines.Bound bound))
