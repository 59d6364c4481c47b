use Rattle.hw_chart_svg.specs.Names.{byte_text, escaped}
use Rattle.hw_chart_svg.specs.Shapes.{area_path}
use Rattle.hw_chart_svg.proofs.Nested.{titled_nested}
use Rattle.hw_chart_svg.proofs.laws.titled_are_elements.Goals as goal

pub returns : goal.returns
unfolding byte_text
returns c = λ class area title. titled_nested class (area_path area) (escaped title)
