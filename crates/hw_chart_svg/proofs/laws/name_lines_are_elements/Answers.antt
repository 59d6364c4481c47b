use Rattle.std.proofs.Common.{nat_lt}
use Rattle.hw_chart_svg.specs.Shortened.{shortened}
use Rattle.hw_chart_svg.specs.Widths.{width_of}
use Rattle.hw_chart_svg.proofs.Nested.{name_nested}
use Rattle.hw_chart_svg.proofs.laws.name_lines_are_elements.Goals as goal

pub returns : goal.returns
returns c = λ class x y name place. name_nested class x y name (shortened name place) (nat_lt place (width_of name))
