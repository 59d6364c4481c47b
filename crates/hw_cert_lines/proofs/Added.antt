-- What a toll, a tariff and a bound change.
use Rattle.std.proofs.Common.{◌≡◌, ℕ, false, ◌||◌, cond, List, [], ◌∷◌, ◌++◌, Some, None, option_and_then, refl, ap, ◌∙◌}
use Rattle.std.specs.List.{cons_option, list_any}
use Rattle.hw_model.specs.Problem.{Problem}
use Rattle.hw_model.specs.Timetables.{cargo}
use Rattle.hw_price_laws.specs.declared.tariff.Tariff.{Tariff}
use Rattle.hw_price_laws.specs.declared.toll.Toll.{Toll}
use Rattle.hw_cert_lines.specs.declared.line.Line.{Line}
use Rattle.hw_cert_lines.specs.declared.line.Line.TheVariants as lines
use Rattle.hw_cert_lines.specs.Lines.{clause_of, clause_at, table_after, last_table, is_end, is_closed, deletes}
use Rattle.hw_cert_lines.specs.Tolled.{toll_of, tolls_of}
use Rattle.hw_cert_lines.specs.Laws.{ClausesStay, TollAdded, TariffAdded, BoundAdded}
use Rattle.hw_cert_lines.proofs.Pushed.{or_false, tolls_push, same_tolls, tariff_push, bound_push, last_push, same_at, deleted_push, one_more}

-- a line without a clause, a table or a deletion
pub clauses_stay : (f : Problem) (before : List Line) (line : Line) → clause_of line ≡ None → table_after (last_table before) line ≡ last_table before → ((id : ℕ) → deletes id line ≡ false) → ClausesStay f before (before ++ line ∷ [])
clauses_stay f before line none same spares =
    let more = one_more f before line in
    record {
      count = more.uncounted none;
      live_ones = λ id. ap (λ b. cond b None (clause_at (before ++ line ∷ []) id)) (deleted_push before line id false (spares id) ∙ or_false _) ∙ ap (λ o. cond (list_any (deletes id) before) None o) (same_at before line id none);
      table = last_push before line ∙ same;
      best = more.best ∙ ap (option_and_then (cargo f)) same;
      closed = more.closed ∙ ap (λ o. is_closed before || is_end o) none ∙ or_false (is_closed before);
    }

pub toll_added : (f : Problem) (before : List Line) (line : Line) (toll : Toll) → toll_of line ≡ Some toll → TollAdded f before (before ++ line ∷ []) toll
toll_added f before (lines.Table table) toll e = absurd cc
toll_added f before (lines.Explain n clause) toll e = absurd cc
toll_added f before (lines.Order v w x clause) toll e = absurd cc
toll_added f before (lines.Goal clause) toll e = absurd cc
toll_added f before (lines.Lemma clause hints) toll e = absurd cc
toll_added f before (lines.Delete ids) toll e = absurd cc
toll_added f before (lines.Toll own) toll e = record {
  clauses = clauses_stay f before (lines.Toll own) refl refl (λ id. refl);
  tolls = tolls_push before (lines.Toll own) ∙ ap (λ o. tolls_of before ++ cons_option o []) e;
  tariff = tariff_push before (lines.Toll own);
  bound = bound_push before (lines.Toll own);
}
toll_added f before (lines.Tariff tariff) toll e = absurd cc
toll_added f before (lines.Priced clause) toll e = absurd cc
toll_added f before (lines.Bound bound) toll e = absurd cc

pub tariff_added : (f : Problem) (before : List Line) (tariff : Tariff) → TariffAdded f before (before ++ lines.Tariff tariff ∷ []) tariff
tariff_added f before tariff =
    let line = lines.Tariff tariff in
    record {
      clauses = clauses_stay f before line refl refl (λ id. refl);
      tolls = same_tolls before line refl;
      new_tariff = tariff_push before line;
      bound = bound_push before line;
    }

pub bound_added : (f : Problem) (before : List Line) (bound : ℕ) → BoundAdded f before (before ++ lines.Bound bound ∷ []) bound
bound_added f before bound =
    let line = lines.Bound bound in
    record {
      clauses = clauses_stay f before line refl refl (λ id. refl);
      tolls = same_tolls before line refl;
      tariff = tariff_push before line;
      new_bound = bound_push before line;
    }
