-- What valid lines mean for the problem.
use Rattle.std.proofs.Common.{◌≡◌, List, All, sym}
use Rattle.hw_model.specs.Limits.{IsFlat}
use Rattle.hw_model.specs.Problem.{Problem}
use Rattle.hw_cert_lines.specs.declared.check.Verdict.{Verdict}
use Rattle.hw_cert_lines.specs.declared.check.Verdict.TheVariants as verdicts
use Rattle.hw_cert_lines.specs.declared.line.Line.{Line}
use Rattle.hw_cert_lines.specs.Lines.{last_table}
use Rattle.hw_cert_lines.specs.Valid.{LineFits, Valid, verdict}
use Rattle.hw_cert_laws.proofs.Proved.{optimal, infeasible}
use Rattle.hw_command.specs.Verdicts.{Means}
use Rattle.hw_command.proofs.Told.{some_gives}

-- what a verdict of valid lines says
pub means : (f : Problem) (all : List Line) (v : Verdict) → IsFlat f → All (LineFits f) all → Valid f all → v ≡ verdict f all → Means f v
means f all (verdicts.Optimal c) flat fit valid e = some_gives (last_table all) (λ table best. (table, best)) (optimal f all c flat fit valid (sym e))
means f all verdicts.Infeasible flat fit valid e = infeasible f all flat fit valid (sym e)
means f all (verdicts.Unfinished best) flat fit valid e = tt
