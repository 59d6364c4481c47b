use Rattle.std.proofs.Common.{◌∙◌, ◌==◌}
use Rattle.hw_text.proofs.Splits.{is_ended}
use Rattle.hw_text.proofs.parts.is_end.Goals as goal

pub returns : goal.returns
returns c = c.is_empty.ensures ∙ is_ended (λ b. b == 10) c.args.bytes.now
