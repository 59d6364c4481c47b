use Rattle.std.proofs.Common.{ap, ◌∙◌}
use Rattle.hw_text.specs.Numbers.{number_up_to}
use Rattle.hw_text.proofs.Spelled.{reads_back, is_spelled}
use Rattle.hw_text.proofs.laws.number_spelled.Goals as goal

pub returns : goal.returns
returns c = λ most word n small. record {
  read = is_spelled most word n small;
  written = λ e le. ap (number_up_to most) e ∙ reads_back most n small le;
}
