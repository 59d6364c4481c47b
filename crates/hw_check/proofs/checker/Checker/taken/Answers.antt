use Rattle.std.proofs.Common.{◌≡◌, None, sym, subst}
use Rattle.hw_cert_lines.specs.declared.line.Line.TheVariants as lines
use Rattle.hw_cert_lines.specs.Refusals.{kept_refusal}
use Rattle.hw_price_laws.specs.Tolls.{IsToll}
use Rattle.hw_check.proofs.Following.{toll_declared}
use Rattle.hw_check.proofs.checker.Checker.taken.Goals as goal

pub with_toll-requires-clause-toll : goal.with_toll-requires-clause-toll
with_toll-requires-clause-toll c =
    let before = c.args.self in
    let valid : kept_refusal before.problem before.kept (lines.Toll c.in-Toll.toll) ≡ None = subst (λ line. kept_refusal before.problem before.kept line ≡ None) c.in-Toll.is c.requires.valid in
    subst (IsToll before.problem) (sym c.in_ok-copied-in-Toll.ensures.value) (toll_declared before.problem before.kept c.in-Toll.toll valid).1
