-- What a certificate shows of its problem.
use Rattle.std.specs.Prelude.{◌≡◌, ℕ, List, All, ⊤}
use Rattle.hw_model.specs.Problem.{Problem}
use Rattle.hw_model.specs.Timetables.{IsBest, NonePermitted}
use Rattle.hw_cert_lines.specs.declared.check.Verdict.{Verdict}
use Rattle.hw_cert_lines.specs.declared.check.Verdict.TheVariants as verdicts
use Rattle.hw_cert_lines.specs.declared.line.Line.{Line}
use Rattle.hw_cert_lines.specs.Valid.{verdict, LineFits, Valid}
use Rattle.hw_command.specs.declared.outcome.CertOutcome.{CertOutcome}
use Rattle.hw_command.specs.declared.outcome.CertOutcome.TheVariants.{Shows}

-- what a verdict says of the problem
abbrev pub Means : Problem → Verdict → Type 0
Means f (verdicts.Optimal c) = (table : List ℕ) × IsBest f table c
Means f verdicts.Infeasible = NonePermitted f
Means f (verdicts.Unfinished best) = ⊤

-- valid lines of the problem have this verdict, and what it says of the problem is true
pub record IsShown (f : Problem) (v : Verdict) : Type 0 where
  pub lines : List Line
  pub fit : All (LineFits f) lines
  pub valid : Valid f lines
  pub verdict : v ≡ verdict f lines
  pub means : Means f v

-- what an outcome shows
abbrev pub ShownBy : Problem → CertOutcome → Type 0
ShownBy f (Shows v) = IsShown f v
ShownBy f outcome = ⊤
