use Rattle.std.proofs.Common.{◌≡◌, false, Option, IfOk, subst, rules}
use Rattle.hw_cert_lines.specs.declared.check.Refusal.{Refusal}
use Rattle.hw_cert_lines.specs.Lines.{clause_of}
use Rattle.hw_cert_lines.specs.Refusals.{is_past}
use Rattle.hw_check.proofs.Following.{open_claim}
use Rattle.hw_check.proofs.checker.Checker.refusal.Goals as goal

pub returns-clause-value : goal.returns-clause-value
returns-clause-value c =
    let inside = c.self.inside in
    let goes_on : inside.is_closed ≡ false = search rules in
    let past : is_past inside.clauses.next (clause_of c.args.line.now) ≡ false = search rules in
    let same = open_claim inside.flat.now inside.clauses inside.prices inside.best inside.is_closed c.args.line.now goes_on past in
    rw (← c.self.view_is) (subst (λ (refusal : Option Refusal). IfOk c.claim.result (λ r. r ≡ refusal)) same c.claim.ensures.value)
