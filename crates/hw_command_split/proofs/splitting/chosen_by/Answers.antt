use Rattle.hw_command_split.proofs.Splittings.{one_chosen}
use Rattle.hw_command_split.proofs.splitting.chosen_by.Goals as goal

pub returns-in-None : goal.returns-in-None
returns-in-None c = one_chosen c.args.flat.now c.args.outcome c.undivided.result c.requires.least c.undivided.ensures
