use Rattle.std.proofs.Common.{Option, IfSome, sym, ◌∙◌, subst}
use Rattle.hw_model.specs.declared.rule.Hole.{Hole}
use Rattle.hw_model.specs.Limits.{HoleFits}
use Rattle.hw_flat_programme.proofs.Between.{between_fits}
use Rattle.hw_flat_programme.proofs.apart.Apart.hole.Goals as goal

pub returns-clause-fits : goal.returns-clause-fits
returns-clause-fits c =
    let f = c.self.inside.flat.now in
    let same = c.hole.ensures ∙ c.self.invariant c.args.v c.args.w c.requires.first_in c.requires.second_in in
    subst (λ (o : Option Hole). IfSome o HoleFits) (sym same) (between_fits f.ships f.rules c.args.v c.args.w c.rules-limits.ensures.limits.each_rule)
