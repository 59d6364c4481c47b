use Rattle.std.proofs.Common.{◌∙◌}
use Rattle.hw_port_lint.proofs.Told.{text_told}
use Rattle.hw_port_lint.proofs.encoding.is_text.Goals as goal

pub returns : goal.returns
returns c = c.is_ok.ensures.value ∙ text_told _ _ c.from_utf8.result c.args.bytes.now c.from_utf8.ensures.cases
