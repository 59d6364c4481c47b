-- The small texts, computed.
use Rattle.std.proofs.Common.{refl}
use Rattle.std.specs.Fmt.{digits}
use Rattle.hw_flat.specs.Text.{row_at, rows_at, rules_at, problem_of_lines}
use Rattle.hw_flat_laws.specs.Rows.{BadLineRows, BadHoursRows}

pub bad_line_rows : BadLineRows
unfolding row_at rows_at rules_at problem_of_lines
bad_line_rows = record { other_header = refl; no_slots = refl; silent_on_staying = refl; too_many_values = refl; after_itself = refl; end_not_ended = refl; one_line_more = refl }

pub bad_hours_rows : BadHoursRows
unfolding row_at rows_at rules_at problem_of_lines digits
bad_hours_rows = record {
  no_rule_at_all = refl;
  fleet_of_before = refl;
  hours_in_1 = refl;
  hours_in_2 = refl;
  great_fleet_in_1 = refl;
  step_at_0 = refl;
  step_at_stay = refl;
  steps_in_one_slot = refl;
  steps_descend = refl;
  no_step = refl;
  step_after_job = refl;
  no_job = refl;
  too_great_fleet = refl;
  too_great_first = refl;
  too_great_step = refl;
  line_after_hours = refl;
  most_steps = refl;
  too_many_steps = refl;
}
