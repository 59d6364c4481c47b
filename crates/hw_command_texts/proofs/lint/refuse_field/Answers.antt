use Rattle.hw_command_texts.proofs.Linting.{hinted_told}
use Rattle.hw_command_texts.proofs.lint.refuse_field.Goals as goal

pub returns : goal.returns
returns g c = hinted_told _ c.field_hints-hints.result c.field_hints-hints.ensures c.send_hinted.ensures
