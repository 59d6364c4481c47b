-- The legend of a flat problem's picture has two lines at most.
use Rattle.std.proofs.Common.{◌≡◌, ◌≤◌, ◌++◌, ℕ, List, Option, refl, arith}
use Rattle.hw_model.specs.Problem.{Problem}
use Rattle.hw_chart_svg.specs.Widths.{advance}
use Rattle.hw_chart.proofs.Lines.{two_lines}
use Rattle.hw_chart.specs.Legends.{LegendEntry, legend_begin, legend_width, place_after_all}
use Rattle.hw_chart_flat.specs.Legends.{all_flat_marks, flat_entries}

own_width : (f : Problem) (table : Option (List ℕ)) → legend_width (flat_entries f table all_flat_marks) ≡ 1064
unfolding advance
own_width f table = refl

pub legends_fit : (f : Problem) (table : Option (List ℕ)) (more : List LegendEntry) → legend_width more ≤ 1264 → (place_after_all legend_begin (flat_entries f table all_flat_marks ++ more)).y ≤ 85
legends_fit f table more fits =
    let own = own_width f table in
    two_lines (flat_entries f table all_flat_marks) more (omega (arith, own)) fits
