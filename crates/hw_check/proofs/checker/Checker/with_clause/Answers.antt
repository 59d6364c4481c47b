use Rattle.std.proofs.Common.{◌+◌, [], ◌∷◌, None, All, sym, subst}
use Rattle.std.proofs.lemmas.List.Elements.{All-nil, All-cons, All-append}
use Rattle.hw_model.specs.Problem.{shape_of}
use Rattle.hw_model.specs.Lits.{IsClause}
use Rattle.hw_model.specs.Lits.{IsLitOf}
use Rattle.hw_lits.proofs.Forms.{lits_from}
use Rattle.hw_cert_lines.specs.Kept.{NumberedClause}
use Rattle.hw_check.proofs.Storing.{bounded_push}
use Rattle.hw_check.proofs.checker.Checker.with_clause.Goals as goal

pub invariant_of-self : goal.invariant_of-self
invariant_of-self c =
    let f = c.self.inside.flat.now in
    let fits : IsClause (shape_of f) c.args.clause.now = subst (λ s. IsClause (shape_of s.problem) c.args.clause.now) (sym c.self.view_is) c.requires.fits in
    let P : NumberedClause → Type 0 = λ one. All (IsLitOf f.ships) one.clause in
    let one : NumberedClause = record { id = c.self.inside.clauses.next; clause = c.args.clause.now } in
    record {
      lits = rw (c.in_ok-push.ensures.added, c.as_slice.ensures.value) (All-append P c.self.inside.clauses.live (one ∷ []) c.self.invariant.lits (All-cons P one [] (lits_from (shape_of f) c.args.clause.now 0 None fits) (All-nil P)));
      bounded = rw (c.in_ok-push.ensures.added, c.as_slice.ensures.value) (bounded_push c.self.inside.clauses c.self.inside.clauses.next (c.self.inside.clauses.next + 1) c.args.clause.now c.self.invariant.bounded);
      good = c.self.invariant.good;
      fits = c.self.invariant.fits;
    }
