use Rattle.std.proofs.Common.{refl}
use Rattle.std.specs.Fmt.{digits}
use Rattle.csv.specs.Writing.{escaped, fields_text, is_blank}
use Rattle.hw_port_dates.specs.Dates.{days_after}
use Rattle.hw_draft.specs.Passages.{leaves_just, passage_of}
use Rattle.hw_port_csv.proofs.laws.table_rows.Goals as goal

pub returns : goal.returns
unfolding digits days_after escaped fields_text is_blank leaves_just passage_of
returns c = record {
  plain = refl;
  comma = refl;
  quote = refl;
  formula = refl;
  tenth = refl;
  nothing = refl;
  not_passed = refl;
  passed_second = refl;
  in_order = refl;
  by_slot = refl;
  by_number = refl;
  stays = refl;
  too_shallow = refl;
  new_year = refl;
  no_plan = refl;
}
