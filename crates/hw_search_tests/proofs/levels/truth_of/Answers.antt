use Rattle.std.proofs.Common.{ℕ, ap, subst, sym}
use Rattle.hw_model.specs.declared.shape.Shape.{Shape}
use Rattle.hw_model.specs.Lits.{IsLitOf}
use Rattle.hw_trail.proofs.Shapes.{end_shape}
use Rattle.hw_search_tests.proofs.levels.truth_of.Goals as goal

pub truth-requires : goal.truth-requires
truth-requires c =
    let e = end_shape c.args.trail.now c.room.ensures.trail c.room.result.now c.room.ensures.value in
    record { fits = subst (λ (n : ℕ). IsLitOf n c.args.lit) (sym (ap (λ (s : Shape). s.ships) e)) c.requires.fits }
