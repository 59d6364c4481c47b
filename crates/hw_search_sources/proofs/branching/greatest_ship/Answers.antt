use Rattle.hw_search_sources.proofs.Choosing.{best_more}
use Rattle.hw_search_sources.proofs.branching.greatest_ship.Goals as goal

pub loop-ship-preserved : goal.loop-ship-preserved
loop-ship-preserved c = best_more c.args.flat.now c.args.room.now c.loop-ship.ship c.better-best.result (c.better-best.ensures.best _ c.loop-ship.invariant)
