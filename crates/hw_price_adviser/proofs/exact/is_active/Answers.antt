use Rattle.std.proofs.Common.{All, sym, subst}
use Rattle.hw_model.specs.Problem.{shape_of}
use Rattle.hw_model.specs.Lits.{IsLitOf}
use Rattle.hw_lits.proofs.Forms.{clause_lits}
use Rattle.hw_price_adviser.proofs.exact.is_active.Goals as goal

pub narrowing-requires : goal.narrowing-requires
narrowing-requires c =
    let f = c.args.flat.now in
    let lits = c.args.clause.now in
    record { fits = subst (λ n. All (IsLitOf n) lits) (sym c.requires.room.same_ships) (clause_lits (shape_of f) lits c.requires.normal) }
