use Rattle.hw_command_check.proofs.renewing.send_renewed.Goals as goal

pub returns : goal.returns
returns g c = rw c.version_for.ensures at c.send_lines.ensures
