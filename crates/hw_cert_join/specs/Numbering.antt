-- Lines of one certificate numbered among those of others.
use Rattle.std.specs.Prelude.{◌≡◌, None}
use Rattle.hw_model.specs.Problem.{Problem}
use Rattle.hw_cert_lines.specs.declared.line.Line.{Line}
use Rattle.hw_cert_lines.specs.Lines.{clause_of}
use Rattle.hw_cert_lines.specs.Valid.{LineFits}

-- the line is of the shape of each problem and has no clause, as a tariff
pub record IsAnyTariff (line : Line) : Type 0 where
  pub fits : (f : Problem) → LineFits f line
  pub none : clause_of line ≡ None
