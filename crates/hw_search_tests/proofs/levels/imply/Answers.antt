use Rattle.std.proofs.Common.{◌∙◌, ℕ, List, None, All, ap, subst, sym}
use Rattle.hw_model.specs.declared.lit.Lit.{Lit}
use Rattle.hw_model.specs.declared.shape.Shape.{Shape}
use Rattle.hw_model.specs.Lits.{IsLitOf}
use Rattle.hw_lits.proofs.Forms.{lits_from}
use Rattle.hw_trail_laws.specs.Trails.{trail_shape}
use Rattle.hw_trail.proofs.Shapes.{end_shape}
use Rattle.hw_search_tests.proofs.levels.imply.Goals as goal

pub narrow-requires : goal.narrow-requires
narrow-requires c =
    let e = end_shape c.args.trail.now c.room.ensures.trail c.in_ok-room.room (c.in_ok-room.ensures.value ∙ c.room.ensures.value) in
    record {
      fits = subst (λ (n : ℕ). All (IsLitOf n) c.in_ok-clause.clause) (sym (ap (λ (s : Shape). s.ships) e))
          (subst (λ (x : List Lit). All (IsLitOf c.args.trail.now.ships) x) (sym c.in_ok-clause.ensures.value) (lits_from (trail_shape c.args.trail.now) c.args.lits.now 0 None c.in_ok-clause.ensures.normal));
    }
