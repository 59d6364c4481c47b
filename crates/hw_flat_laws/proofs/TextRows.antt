-- The rows, computed.
use Rattle.std.proofs.Common.{refl}
use Rattle.std.specs.Fmt.{digits}
use Rattle.hw_flat.specs.Demonstration.{generator, draw}
use Rattle.hw_flat.specs.Text.{row_at, rows_at, rules_at, problem_of_lines}
use Rattle.hw_flat_laws.specs.Texts.{ProblemRows}

pub rows : ProblemRows
unfolding digits generator draw row_at rows_at rules_at problem_of_lines
rows = record {
  one_ship_read = refl;
  one_ship_written = refl;
  two_apart_read = refl;
  two_apart_written = refl;
  limits_read = refl;
  limits_written = refl;
  three_holes_read = refl;
  three_holes_written = refl;
  stays_not_read = refl;
  stays_not_written = refl;
  by_hours_read = refl;
  by_hours_written = refl;
  great_fleet_read = refl;
  great_fleet_written = refl;
  repeated_read = refl;
  repeated_written = refl;
  demonstration_written = refl;
}
