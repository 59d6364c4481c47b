-- What a picture has between its head and its end.
use Rattle.std.specs.Prelude.{ℕ, List, [], ◌∷◌, ◌++◌, Option}
use Rattle.std.specs.List.{concat}
use Rattle.hw_model.specs.Problem.{Problem, horizon}
use Rattle.hw_chart.specs.declared.grid.Scale.TheVariants.{Slots}
use Rattle.hw_chart.specs.Grids.{grid, span_end}
use Rattle.hw_chart.specs.Legends.{LegendEntry}
use Rattle.hw_chart_flat.specs.Fleets.{picture_span}
use Rattle.hw_chart_flat.specs.Legends.{flat_legend}
use Rattle.hw_chart_flat.specs.Pictures.{body, flat_picture_bottom}

-- the grid over this many slots
unfoldable pub lines_over : Problem → ℕ → List ℕ
lines_over f span = grid Slots span (flat_picture_bottom f) ++ span_end (horizon f) span (flat_picture_bottom f)

-- the legend with these entries after its own, rows, panels and grid
unfoldable pub flat_rest : Problem → Option (List ℕ) → List LegendEntry → List ℕ
flat_rest f table more = concat (flat_legend f table more ∷ body f table ∷ lines_over f (picture_span f table) ∷ [])
