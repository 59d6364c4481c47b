use Rattle.std.proofs.Common.{All}
use Rattle.std.proofs.lemmas.List.Elements.{All-filter}
use Rattle.hw_model.specs.Lits.{IsLitOf}
use Rattle.hw_cert_lines.specs.Kept.{NumberedClause}
use Rattle.hw_check.proofs.checker.Checker.without.Goals as goal

pub invariant_of-self : goal.invariant_of-self
invariant_of-self c =
    let P : NumberedClause → Type 0 = λ one. All (IsLitOf c.self.inside.flat.now.ships) one.clause in
    record {
      lits = rw (c.in_ok-give_back.ensures.same, c.remove_all.ensures.dead) (All-filter _ P c.self.inside.clauses.live c.self.invariant.lits);
      bounded = c.in_ok-give_back.ensures.bounded;
      good = c.self.invariant.good;
      fits = c.self.invariant.fits;
    }
