use Rattle.std.proofs.Common.{◌∙◌, List, None, All, subst, sym}
use Rattle.hw_model.specs.declared.lit.Lit.{Lit}
use Rattle.hw_model.specs.Lits.{IsLitOf}
use Rattle.hw_lits.proofs.Forms.{lits_from}
use Rattle.hw_trail_laws.specs.Trails.{trail_shape}
use Rattle.hw_search_tests.proofs.learning.learnt.Goals as goal

pub all_false-requires : goal.all_false-requires
all_false-requires c = record {
  fits = subst (λ (x : List Lit). All (IsLitOf c.args.trail.now.ships) x) (sym (c.as_slice.ensures.value ∙ c.in_ok-conflict.ensures.value)) (lits_from (trail_shape c.args.trail.now) c.args.lits.now 0 None c.in_ok-conflict.ensures.normal);
}
