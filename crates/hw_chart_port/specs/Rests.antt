-- What a picture of a port has between its head and its end.
use Rattle.std.specs.Prelude.{ℕ, List, [], ◌∷◌, Option}
use Rattle.std.specs.List.{concat}
use Rattle.hw_chart.specs.Legends.{LegendEntry}
use Rattle.hw_port.specs.Whole.{Parts}
use Rattle.hw_tide.specs.Levels.{TideParts}
use Rattle.hw_chart_port.specs.Charts.{ChartParts}
use Rattle.hw_chart_port.specs.Pictures.{chart_of, horizon_line, legend_of, panels, times}

-- the legend with these entries after its own, the panels, and the grid over them
unfoldable pub rest_of_picture : ChartParts → List LegendEntry → List ℕ
rest_of_picture chart more = concat (legend_of chart more ∷ panels chart ∷ times chart ∷ horizon_line chart ∷ [])

unfoldable pub port_rest : Parts → TideParts → Option (List ℕ) → List LegendEntry → List ℕ
port_rest p h table more = rest_of_picture (chart_of p h table) more
