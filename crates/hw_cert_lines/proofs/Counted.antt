-- What one more line changes in the clauses and their numbers.
use Rattle.std.proofs.Common.{◌≡◌, ℕ, zero, suc, ◌+◌, ◌≤◌, List, [], ◌∷◌, ◌++◌, Option, Some, None, length, slice_get, IfSome, refl, ap, ◌∙◌, arith, length-append, append-nil}
use Rattle.std.specs.List.{cons_option}
use Rattle.hw_lemmas.proofs.Lists.{get_left}
use Rattle.hw_model.specs.declared.lit.Lit.{Lit}
use Rattle.hw_cert_lines.specs.declared.line.Line.{Line}
use Rattle.hw_cert_lines.specs.Lines.{clauses_of, clause_count, clause_at}

at_end : {X : Type 0} (xs : List X) (y : X) (i : ℕ) → i ≡ length xs → slice_get (xs ++ y ∷ []) i ≡ Some y
at_end [] y zero e = refl
at_end [] y (suc i) e = absurd (omega (arith, e))
at_end (x ∷ xs) y zero e = absurd (omega (arith, e))
at_end (x ∷ xs) y (suc i) e = at_end xs y i (omega (arith, e))

pub same_earlier : (before after : List Line) (more : List (List Lit)) (id : ℕ) → clauses_of after ≡ clauses_of before ++ more → id ≤ clause_count before → clause_at after id ≡ clause_at before id
same_earlier before after more zero e le = refl
same_earlier before after more (suc n) e le = ap (λ clauses. slice_get clauses n) e ∙ get_left (clauses_of before) more n (omega (arith, le))

pub last_one : (before after : List Line) (clause : List Lit) (id : ℕ) → clauses_of after ≡ clauses_of before ++ clause ∷ [] → id ≡ clause_count before + 1 → clause_at after id ≡ Some clause
last_one before after clause zero e at = absurd (omega (arith, at))
last_one before after clause (suc n) e at = ap (λ clauses. slice_get clauses n) e ∙ at_end (clauses_of before) clause n (omega (arith, at))

pub counted_by : (before after : List Line) (o : Option (List Lit)) → clauses_of after ≡ clauses_of before ++ cons_option o [] → IfSome o (λ clause. clause_count after ≡ clause_count before + 1)
counted_by before after None e = tt
counted_by before after (Some clause) e = ap length e ∙ length-append (clauses_of before) (clause ∷ [])

pub uncounted_by : (before after : List Line) (o : Option (List Lit)) → clauses_of after ≡ clauses_of before ++ cons_option o [] → o ≡ None → clause_count after ≡ clause_count before
uncounted_by before after None e none = ap length (e ∙ append-nil (clauses_of before))
uncounted_by before after (Some clause) e none = absurd cc

pub added_by : (before after : List Line) (o : Option (List Lit)) → clauses_of after ≡ clauses_of before ++ cons_option o [] → IfSome o (λ clause. clause_at after (clause_count before + 1) ≡ Some clause)
added_by before after None e = tt
added_by before after (Some clause) e = last_one before after clause (clause_count before + 1) e refl

-- a line that doesn't delete a number leaves it as it is
