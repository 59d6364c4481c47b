use Rattle.hw_tugs.proofs.Loads.{forced_load}
use Rattle.hw_tugs.proofs.figures.Figures.of_room.Goals as goal

pub returns-clause-load : goal.returns-clause-load
returns-clause-load c = forced_load c.args.room.now c.args.jobs.now c.in_ok-seen.seen.items c.in_ok-load.load.items c.in_ok-seen.ensures.length c.in_ok-seen.ensures.sees c.in_ok-load.ensures.forced
