-- The entries of a repair's marks have room.
use Rattle.std.proofs.Common.{◌≡◌, ◌≤◌, ℕ, List, Option, refl, arith}
use Rattle.hw_model.specs.Problem.{Problem}
use Rattle.hw_chart_svg.specs.Widths.{advance}
use Rattle.hw_chart.specs.Legends.{legend_width}
use Rattle.hw_repair.specs.declared.plan.Wish.{Wish}
use Rattle.hw_chart_repair.specs.Legends.{repair_entries}

width_is : (f : Problem) (table : Option (List ℕ)) (wishes : List Wish) → legend_width (repair_entries f table wishes) ≡ 476
unfolding advance
width_is f table wishes = refl

pub entries_fit : (f : Problem) (table : Option (List ℕ)) (wishes : List Wish) → legend_width (repair_entries f table wishes) ≤ 495
entries_fit f table wishes = let is = width_is f table wishes in omega (arith, is)
