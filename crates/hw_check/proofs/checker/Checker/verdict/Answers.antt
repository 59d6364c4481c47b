use Rattle.std.proofs.Common.{◌≡◌, sym, ◌∙◌, rules}
use Rattle.hw_cert_lines.specs.declared.check.Verdict.TheVariants.{Optimal, Infeasible, Unfinished}
use Rattle.hw_cert_lines.specs.Valid.{verdict_by}
use Rattle.hw_check.proofs.Following.{followed_verdict}
use Rattle.hw_check.proofs.checker.Checker.verdict.Goals as goal

pub returns-in-true-Some-clause-followed : goal.returns-in-true-Some-clause-followed
returns-in-true-Some-clause-followed c =
    let is : Optimal c.in-true-Some.best ≡ verdict_by c.args.self.now.kept.closed c.args.self.now.kept.best = search rules in
    λ all follows. is ∙ sym (followed_verdict c.args.self.now all follows)

pub returns-in-true-None-clause-followed : goal.returns-in-true-None-clause-followed
returns-in-true-None-clause-followed c =
    let is : Infeasible ≡ verdict_by c.args.self.now.kept.closed c.args.self.now.kept.best = search rules in
    λ all follows. is ∙ sym (followed_verdict c.args.self.now all follows)

pub returns-in-false-default-clause-followed : goal.returns-in-false-default-clause-followed
returns-in-false-default-clause-followed c =
    let is : Unfinished c.self.inside.best ≡ verdict_by c.args.self.now.kept.closed c.args.self.now.kept.best = search rules in
    λ all follows. is ∙ sym (followed_verdict c.args.self.now all follows)
