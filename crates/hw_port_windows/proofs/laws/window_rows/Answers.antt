use Rattle.std.proofs.Common.{refl}
use Rattle.std.specs.Fmt.{digits}
use Rattle.hw_draft.specs.Passages.{leaves_just, passage_of}
use Rattle.hw_port_windows.specs.Lines.{closed_line, sails_line, shallow_line, window_ship_line, tides_line}
use Rattle.hw_port_windows.proofs.laws.window_rows.Goals as goal

pub returns : goal.returns
unfolding digits leaves_just passage_of closed_line sails_line shallow_line window_ship_line tides_line
returns c = record {
  first_slot = refl;
  full = refl;
  low_water = refl;
  ended = refl;
  four_runs = refl;
  from_the_second = refl;
  none = refl;
  greatest = refl;
  least = refl;
  of_the_last_two = refl;
  bar_limits = refl;
  berth_is_last = refl;
  aground = refl;
  report = refl;
  kept_back = refl;
  short_table = refl;
  bar_closed = refl;
  port_closed = refl;
  shut_report = refl;
  least_report = refl;
}
