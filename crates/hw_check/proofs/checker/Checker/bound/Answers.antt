use Rattle.std.proofs.Common.{◌≡◌, Option, IfSome, sym, ◌∙◌, subst, rules}
use Rattle.std.specs.Prelude.{ℕ}
use Rattle.hw_model.specs.Limits.{IsFlat}
use Rattle.hw_cert_laws.specs.Laws.{IsBound}
use Rattle.hw_check.proofs.Following.{followed_bound, kept_bound}
use Rattle.hw_check.proofs.checker.Checker.bound.Goals as goal

pub returns-clause-followed : goal.returns-clause-followed
returns-clause-followed c =
    let is : c.bound.result ≡ c.args.self.now.kept.bound = search rules in
    λ all follows. is ∙ followed_bound c.args.self.now all follows

pub returns-clause-sound : goal.returns-clause-sound
returns-clause-sound c =
    let is : c.bound.result ≡ c.args.self.now.kept.bound = search rules in
    let flat : IsFlat c.args.self.now.problem = search rules in
    λ all follows. subst (λ (o : Option ℕ). IfSome o (IsBound c.args.self.now.problem)) (sym is) (kept_bound c.args.self.now all flat follows)
