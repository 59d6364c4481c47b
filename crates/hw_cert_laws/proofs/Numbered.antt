-- Valid lines are numbered.
use Rattle.std.proofs.Common.{◌≡◌, ℕ, ◌+◌, ◌^◌, ◌<◌, ◌≤◌, List, [], ◌∷◌, ◌++◌, Option, Some, None, length, All, IfSome, sym, ap, ◌∙◌, subst, arith, append-nil, append_assoc, length-append}
use Rattle.std.proofs.lemmas.List.Elements.{All-nil, All-cons, filter_map-append}
use Rattle.std.specs.List.{cons_option}
use Rattle.hw_model.specs.declared.lit.Lit.{Lit}
use Rattle.hw_model.specs.Problem.{Problem}
use Rattle.hw_cert_lines.specs.declared.line.Line.{Line}
use Rattle.hw_cert_lines.specs.Lines.{clause_of, clauses_of, clause_count}
use Rattle.hw_cert_lines.specs.Valid.{ValidAfter, ValidFrom, Valid}
use Rattle.hw_cert_lines.proofs.Deleted.{live_in}
use Rattle.hw_cert_laws.specs.Renewing.{hints_of, IsNumbered}
use Rattle.hw_cert_laws.proofs.Naming.{hints_live, among_all}

pub count_append : (before more : List Line) → clause_count (before ++ more) ≡ clause_count before + clause_count more
count_append before more = ap length (filter_map-append clause_of before more) ∙ length-append (clauses_of before) (clauses_of more)

few_more : (before : List Line) (line : Line) → IfSome (clause_of line) (λ clause. clause_count before + 1 < 2 ^ 32) → clause_count before < 2 ^ 32 → clause_count (before ++ line ∷ []) < 2 ^ 32
few_more before line numbered few = by (clause_of line) numbered (count_append before (line ∷ []))
  where
    by : (o : Option (List Lit)) → IfSome o (λ clause. clause_count before + 1 < 2 ^ 32) → clause_count (before ++ line ∷ []) ≡ clause_count before + length (cons_option o []) → clause_count (before ++ line ∷ []) < 2 ^ 32
    by None numbered e = omega (arith, few, e)
    by (Some clause) numbered e = omega (arith, numbered, e)

few_from : (f : Problem) (later before : List Line) → ValidFrom f before later → clause_count before < 2 ^ 32 → clause_count (before ++ later) < 2 ^ 32
few_from f [] before valid few = subst (λ all. clause_count all < 2 ^ 32) (sym (append-nil before)) few
few_from f (line ∷ later) before valid few = subst (λ all. clause_count all < 2 ^ 32) (append_assoc before (line ∷ []) later) (few_from f later (before ++ line ∷ []) valid.1 (few_more before line valid.0.numbered few))

hints_within : (f : Problem) (before : List Line) (line : Line) (most : ℕ) → ValidAfter f before line → clause_count before ≤ most → All (λ id. id ≤ most) (hints_of line)
hints_within f before line most valid le = λ k d lt.
    let within = live_in before _ (hints_live f before line valid _ (among_all (hints_of line) k d lt)) in
    omega (arith, within, le)

named_from : (f : Problem) (later before : List Line) (most : ℕ) → ValidFrom f before later → clause_count (before ++ later) ≤ most → All (λ line. All (λ id. id ≤ most) (hints_of line)) later
named_from f [] before most valid le = All-nil (λ line. All (λ id. id ≤ most) (hints_of line))
named_from f (line ∷ later) before most valid le =
    All-cons (λ line. All (λ id. id ≤ most) (hints_of line)) line later
    (hints_within f before line most valid.0 (omega (arith, le, count_append before (line ∷ later))))
    (named_from f later (before ++ line ∷ []) most valid.1 (subst (λ all. clause_count all ≤ most) (sym (append_assoc before (line ∷ []) later)) le))

pub numbered : (f : Problem) (all : List Line) → Valid f all → IsNumbered all
numbered f all valid = record { few = few_from f all [] valid (omega arith); named = named_from f all [] (clause_count all) valid (omega arith) }
