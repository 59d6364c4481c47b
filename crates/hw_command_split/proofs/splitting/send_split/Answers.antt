use Rattle.hw_command.proofs.Sendings.{not_made, sends_to}
use Rattle.hw_command_split.proofs.splitting.send_split.Goals as goal

pub returns-in-Err : goal.returns-in-Err
returns-in-Err g c = not_made _ c.requires.some ((g.met.D.Desk.fresh c.args.desk.now).sent c.requires.unmade) c.in-Err.ensures.makes

pub returns-in-Ok : goal.returns-in-Ok
returns-in-Ok g c = sends_to _ c.write_all.result c.in-Ok.ensures.makes c.write_all.ensures
