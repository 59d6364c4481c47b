use Rattle.std.proofs.Common.{◌≡◌, None, Ok, rules}
use Rattle.hw_model.specs.Limits.{IsFlat}
use Rattle.hw_cert_lines.specs.Kept.{kept_after}
use Rattle.hw_cert_lines.specs.Refusals.{kept_refusal}
use Rattle.hw_check.proofs.Following.{answers}
use Rattle.hw_check.proofs.checker.Checker.borrowed_line.Goals as goal

pub returns-clause-followed : goal.returns-clause-followed
returns-clause-followed c =
    let flat : IsFlat c.args.self.problem = search rules in
    let none : kept_refusal c.args.self.problem c.args.self.kept c.args.line.now ≡ None = search rules in
    let problem : c.in_ok-taken.field-0.problem ≡ c.args.self.problem = search rules in
    let kept : c.in_ok-taken.field-0.kept ≡ kept_after c.args.self.problem c.args.self.kept c.args.line.now = search rules in
    λ before follows. answers c.args.self before c.args.line.now (Ok c.in_ok-taken.field-0) flat c.requires.fits (problem, kept, none) tt follows
