use Rattle.std.proofs.Common.{nat_lt}
use Rattle.hw_chart_svg.specs.Shortened.{shortened}
use Rattle.hw_chart_svg.specs.Widths.{width_of}
use Rattle.hw_chart_svg.proofs.Shortened.{name_of_line}
use Rattle.hw_chart_svg.proofs.laws.name_lines_read_back.Goals as goal

pub returns : goal.returns
returns c = λ class x y place name other e. name_of_line class x y name other (shortened name place) (shortened other place) (nat_lt place (width_of name)) (nat_lt place (width_of other)) e
