use Rattle.std.proofs.Common.{ap, ◌∙◌}
use Rattle.hw_text.specs.Parts.{parts_of}
use Rattle.hw_text.proofs.Joins.{is_ended_lines, cut_ended}
use Rattle.hw_text.proofs.laws.ended_lines_cut.Goals as goal

pub returns : goal.returns
returns c = λ lines bytes. record { ended = is_ended_lines lines bytes; cut = λ e h. ap (parts_of 10) e ∙ cut_ended lines h }
