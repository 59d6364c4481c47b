use Rattle.std.proofs.Common.{ap, ◌∙◌}
use Rattle.hw_text.specs.Numbers.{signed_up_to}
use Rattle.hw_text.proofs.Signs.{is_signed, signed_reads}
use Rattle.hw_text.proofs.laws.signed_spelled.Goals as goal

pub returns : goal.returns
returns c = λ most word z small. record {
  read = is_signed most word z small;
  written = λ e low high. ap (signed_up_to most) e ∙ signed_reads most z small low high;
}
