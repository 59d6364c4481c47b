use Rattle.std.proofs.Common.{refl}
use Rattle.std.specs.Fmt.{digits}
use Rattle.hw_chart_svg.specs.Lettering.{text_begin}
use Rattle.hw_chart_svg.specs.Numbers.{clock, height_text, metres}
use Rattle.hw_chart_svg.specs.Widths.{advance}
use Rattle.hw_chart_waters.specs.Labels.{water_words}
use Rattle.hw_chart_waters.proofs.laws.water_rows.Goals as goal

pub returns : goal.returns
unfolding digits text_begin clock height_text metres advance water_words
returns c = record {
  flat_top = refl;
  ledge = refl;
  ledge_low = refl;
  at_the_edges = refl;
  between_them = refl;
  flat_to_the_end = refl;
  all_flat = refl;
  to_neaps = refl;
  low_waters = refl;
  below_zero = refl;
  label = refl;
  low_label = refl;
  measure = refl;
  half = refl;
  room = refl;
  moved = refl;
}
