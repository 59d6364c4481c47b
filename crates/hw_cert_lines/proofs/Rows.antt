-- The worked rows of refusals, computed.
use Rattle.std.proofs.Common.{refl}
use Rattle.hw_cert_lines.specs.Rows.{RefusalRows}

pub refusal_rows : RefusalRows
refusal_rows = record {
  the_last_line = refl;
  a_line_after_it = refl;
  sailing_too_near = refl;
  no_more_cargo = refl;
  a_goal_without_a_best = refl;
  a_later_hint = refl;
  two_open_at_the_first_hint = refl;
  hints_that_end_early = refl;
  a_dead_hint = refl;
  deleted_twice = refl;
}
