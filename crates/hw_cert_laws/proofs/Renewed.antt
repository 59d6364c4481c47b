-- Valid lines are valid after renewing: line by line, the new lines keep each clause that is still named.
use Rattle.std.proofs.Common.{◌≡◌, ℕ, ◌+◌, false, List, [], ◌∷◌, ◌++◌, Option, Some, None, length, All, IfSome, is_some, refl, sym, ap, ◌∙◌, subst, arith, append_assoc, append-nil, length-append}
use Rattle.std.proofs.lemmas.Bool.{or_from}
use Rattle.std.specs.List.{cons_option}
use Rattle.hw_model.specs.declared.lit.Lit.{Lit}
use Rattle.hw_model.specs.Problem.{Problem}
use Rattle.hw_cert_lines.specs.declared.line.Line.{Line}
use Rattle.hw_cert_lines.specs.declared.line.Line.TheVariants as lines
use Rattle.hw_cert_lines.specs.Lines.{clause_of, clauses_of, clause_count, clause_at, is_end, is_closed}
use Rattle.hw_cert_lines.specs.Valid.{ValidAfter, ValidFrom, Valid}
use Rattle.hw_cert_lines.proofs.Pushed.{clauses_push, one_more}
use Rattle.hw_cert_lines.proofs.Deleted.{live_in}
use Rattle.hw_cert_laws.specs.Renewing.{last_named, never_named, deletion, deletions, undeleting, next_number, renewed_from, renewed}
use Rattle.hw_cert_laws.proofs.Naming.{hints_live}
use Rattle.hw_cert_laws.proofs.Alike.{Same, same_itself, same_back, same_chain, closed_push, same_deleted, same_deletion, Spares, spares_more, spares_deletion, Keeps}
use Rattle.hw_cert_laws.proofs.Stays.{still_valid, spares_line, keeps_push, keeps_fewer}
use Rattle.hw_cert_laws.proofs.Staying.{Step, valid_append, last_parts, last_step, own_step}

-- ---- a clause line and what follows it

join : (f : Problem) (before made first second middle later : List Line) → Step f before made first middle → Step f before (made ++ first) second later → Step f before made (first ++ second) later
join f before made first second middle later a b = record {
  valid = valid_append f first made second a.valid b.valid;
  keeps = subst (λ all. Keeps before all later) (append_assoc made first second) b.keeps;
}

joined : (f : Problem) (before made later rest : List Line) (line : Line) → ValidAfter f made line → Step f before (made ++ line ∷ []) rest later → Step f before made (line ∷ rest) later
joined f before made later rest line valid step = record {
  valid = (valid, step.valid);
  keeps = subst (λ all. Keeps before all later) (append_assoc made (line ∷ []) rest) step.keeps;
}

clause_step : (f : Problem) (before made later : List Line) (line : Line) (clause : List Lit) (n : ℕ) → clause_of line ≡ Some clause → undeleting line ≡ line ∷ [] → n ≡ clause_count before + 1 → Keeps before made (line ∷ later) → ValidAfter f before line → Step f (before ++ line ∷ []) made (line ∷ deletions n line later (Some clause)) later
clause_step f before made later line [] n of stays at keeps valid = record {
  valid = (still_valid f before made later line stays keeps valid, tt);
  keeps = keeps_fewer (before ++ line ∷ []) (made ++ line ∷ []) later line (keeps_push before made (line ∷ later) line stays keeps);
}
clause_step f before made later line (lit ∷ lits) n of stays at keeps valid =
    let pushed = keeps_push before made (line ∷ later) line stays keeps in
    let going : is_closed (made ++ line ∷ []) ≡ false = closed_push made line ∙ or_from _ _ (keeps.same.closed ∙ valid.goes_on) (ap is_end of) in
    let lives = hints_live f before line valid in
    let first = last_step f before (made ++ line ∷ []) later line (lit ∷ lits) of lives pushed going in
    let more = one_more f before line in
    let counted : clause_count (before ++ line ∷ []) ≡ clause_count before + 1 = subst (λ o. IfSome o (λ clause. clause_count (before ++ line ∷ []) ≡ clause_count before + 1)) of more.counted in
    let added : clause_at (before ++ line ∷ []) (clause_count before + 1) ≡ Some (lit ∷ lits) = subst (λ o. IfSome o (λ clause. clause_at (before ++ line ∷ []) (clause_count before + 1) ≡ Some clause)) of more.added in
    let ids = last_named line later in
    let parts = last_parts line later in
    let past : All (λ k. k ≡ n → ⊥) ids = λ k d lt is.
    let within = live_in before _ (lives _ (parts k d lt).0) in
    omega (arith, within, is, at) in
    let spares : Spares ((made ++ line ∷ []) ++ deletion ids) n = spares_more (made ++ line ∷ []) (deletion ids) n (spares_more made (line ∷ []) n (keeps.fresh n (omega (arith, at))) (spares_line line n stays)) (spares_deletion ids n past) in
    let still_going : is_closed ((made ++ line ∷ []) ++ deletion ids) ≡ false = (same_deletion (made ++ line ∷ []) ids).closed ∙ going in
    let second = own_step f (before ++ line ∷ []) ((made ++ line ∷ []) ++ deletion ids) later n first.keeps still_going (omega (arith, at, counted)) (ap is_some (ap (clause_at (before ++ line ∷ [])) at ∙ added)) spares in
    joined f (before ++ line ∷ []) made later (deletion ids ++ deletion (never_named n later)) line (still_valid f before made later line stays keeps valid)
    (join f (before ++ line ∷ []) (made ++ line ∷ []) (deletion ids) (deletion (never_named n later)) later later first second)

-- ---- any line

-- a line without a clause that stays
bare_step : (f : Problem) (before made later : List Line) (line : Line) → undeleting line ≡ line ∷ [] → Keeps before made (line ∷ later) → ValidAfter f before line → Step f (before ++ line ∷ []) made (line ∷ []) later
bare_step f before made later line stays keeps valid = record {
  valid = (still_valid f before made later line stays keeps valid, tt);
  keeps = keeps_fewer (before ++ line ∷ []) (made ++ line ∷ []) later line (keeps_push before made (line ∷ later) line stays keeps);
}

dropped : (f : Problem) (before made later : List Line) (ids : List ℕ) → Keeps before made (lines.Delete ids ∷ later) → Step f (before ++ lines.Delete ids ∷ []) made [] later
dropped f before made later ids keeps =
    let with_it = same_deleted before ids in
    let kept : Keeps (before ++ lines.Delete ids ∷ []) made later = record {
      same = same_chain (before ++ lines.Delete ids ∷ []) before made (same_back before (before ++ lines.Delete ids ∷ []) with_it) keeps.same;
      named = λ id e. keeps.named id e;
      fresh = λ id lt. keeps.fresh id (omega (arith, lt, ap length with_it.clauses));
    } in
    record { valid = tt; keeps = subst (λ all. Keeps (before ++ lines.Delete ids ∷ []) all later) (sym (append-nil made)) kept }

any_step : (f : Problem) (before made later : List Line) (line : Line) (n : ℕ) → n ≡ clause_count before + 1 → Keeps before made (line ∷ later) → ValidAfter f before line → Step f (before ++ line ∷ []) made (undeleting line ++ deletions n line later (clause_of line)) later
any_step f before made later (lines.Table table) n at keeps valid = bare_step f before made later (lines.Table table) refl keeps valid
any_step f before made later (lines.Explain k clause) n at keeps valid = clause_step f before made later (lines.Explain k clause) clause n refl refl at keeps valid
any_step f before made later (lines.Order v w x clause) n at keeps valid = clause_step f before made later (lines.Order v w x clause) clause n refl refl at keeps valid
any_step f before made later (lines.Goal clause) n at keeps valid = clause_step f before made later (lines.Goal clause) clause n refl refl at keeps valid
any_step f before made later (lines.Lemma clause hints) n at keeps valid = clause_step f before made later (lines.Lemma clause hints) clause n refl refl at keeps valid
any_step f before made later (lines.Delete ids) n at keeps valid = dropped f before made later ids keeps
any_step f before made later (lines.Toll toll) n at keeps valid = bare_step f before made later (lines.Toll toll) refl keeps valid
any_step f before made later (lines.Tariff tariff) n at keeps valid = bare_step f before made later (lines.Tariff tariff) refl keeps valid
any_step f before made later (lines.Priced clause) n at keeps valid = clause_step f before made later (lines.Priced clause) clause n refl refl at keeps valid
any_step f before made later (lines.Bound bound) n at keeps valid = bare_step f before made later (lines.Bound bound) refl keeps valid

-- ---- all lines

number_more : (before : List Line) (line : Line) (n : ℕ) → n ≡ clause_count before + 1 → next_number n (clause_of line) ≡ clause_count (before ++ line ∷ []) + 1
number_more before line n at = by (clause_of line) (ap length (clauses_push before line) ∙ length-append (clauses_of before) (cons_option (clause_of line) []))
  where
    by : (o : Option (List Lit)) → clause_count (before ++ line ∷ []) ≡ clause_count before + length (cons_option o []) → next_number n o ≡ clause_count (before ++ line ∷ []) + 1
    by None e = omega (arith, e, at)
    by (Some clause) e = omega (arith, e, at)

pub record Whole (f : Problem) (all made more : List Line) : Type 0 where
  pub valid : ValidFrom f made more
  pub same : Same all (made ++ more)

from : (f : Problem) (later before made : List Line) (n : ℕ) → n ≡ clause_count before + 1 → ValidFrom f before later → Keeps before made later → Whole f (before ++ later) made (renewed_from n later)
from f [] before made n at valid keeps = record {
  valid = tt;
  same = subst (Same (before ++ [])) (sym (append-nil made)) (subst (λ all. Same all made) (sym (append-nil before)) keeps.same);
}
from f (line ∷ later) before made n at valid keeps =
    let more = undeleting line ++ deletions n line later (clause_of line) in
    let rest = renewed_from (next_number n (clause_of line)) later in
    let step = any_step f before made later line n at keeps valid.0 in
    let whole = from f later (before ++ line ∷ []) (made ++ more) (next_number n (clause_of line)) (number_more before line n at) valid.1 step.keeps in
    record {
      valid = valid_append f more made rest step.valid whole.valid;
      same = subst (Same (before ++ line ∷ later)) (append_assoc made more rest) (subst (λ all. Same all ((made ++ more) ++ rest)) (append_assoc before (line ∷ []) later) whole.same);
    }

pub all_renewed : (f : Problem) (all : List Line) → Valid f all → Whole f all [] (renewed all)
all_renewed f all valid = from f all [] [] 1 refl valid (record { same = same_itself []; named = λ id e. refl; fresh = λ id lt. refl })
