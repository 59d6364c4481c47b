use Rattle.std.proofs.Common.{refl}
use Rattle.hw_split_text.specs.Text.{split_of, nodes_at, node_at}
use Rattle.hw_split_text.proofs.laws.text_rows.Goals as goal

pub returns : goal.returns
unfolding split_of nodes_at node_at
returns c = record {
  one_part = refl;
  three = refl;
  no_byte = refl;
  other_header = refl;
  no_node = refl;
  no_slot_before = refl;
  last_slot = refl;
  no_such_slot = refl;
  no_such_ship = refl;
  cut_off_before = refl;
  same_slot_later = refl;
  later_slot_later = refl;
  two_spellings = refl;
  branch_missing = refl;
  branch_too_many = refl;
  text_cut_off = refl;
  no_end = refl;
  end_without_its_end = refl;
  a_byte_after = refl;
}
