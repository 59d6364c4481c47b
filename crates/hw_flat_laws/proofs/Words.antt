-- The rows, computed.
use Rattle.std.proofs.Common.{refl}
use Rattle.hw_flat_laws.specs.Words.{WordRows}

pub rows : WordRows
rows = record {
  first_line = refl;
  not_at_end = refl;
  empty_line = refl;
  no_line_left = refl;
  empty_text = refl;
  two_spaces = refl;
  one_word = refl;
  space_at_the_end = refl;
  parts_round_colons = refl;
  outgoing_found = refl;
  incoming_found = refl;
  empty_missed = refl;
  part_missed = refl;
  space_missed = refl;
  both_missed = refl;
  capital_missed = refl;
  first_word = refl;
  second_word = refl;
  none_of_none = refl;
  alone = refl;
}
