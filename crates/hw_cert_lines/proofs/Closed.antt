-- Nothing follows a clause line without literals.
use Rattle.std.proofs.Common.{◌≡◌, ◌||◌, List, [], ◌∷◌, ◌++◌, sym, ap, ◌∙◌, subst, append-nil, append_assoc}
use Rattle.hw_model.specs.Problem.{Problem}
use Rattle.hw_cert_lines.specs.declared.line.Line.{Line}
use Rattle.hw_cert_lines.specs.Lines.{clause_of, is_end, is_closed, ends}
use Rattle.hw_cert_lines.specs.Valid.{ValidFrom}
use Rattle.hw_cert_lines.proofs.Pushed.{one_more}

pub closed_from : (f : Problem) (more before : List Line) → ValidFrom f before more → ends before ≡ is_closed before → ends (before ++ more) ≡ is_closed (before ++ more)
closed_from f [] before valid e = subst (λ all. ends all ≡ is_closed all) (sym (append-nil before)) e
closed_from f (line ∷ more) before valid e =
    let step = one_more f before line in
    let closed : is_closed (before ++ line ∷ []) ≡ is_end (clause_of line) = step.closed ∙ ap (λ b. b || is_end (clause_of line)) valid.0.goes_on in
    subst (λ all. ends all ≡ is_closed all) (append_assoc before (line ∷ []) more) (closed_from f more (before ++ line ∷ []) valid.1 (step.ended ∙ sym closed))
