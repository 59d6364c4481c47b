use Rattle.hw_search.proofs.Advice.{memory_stops}
use Rattle.hw_search_advised.proofs.AdvisedTurns.{scene_seen}
use Rattle.hw_search_advised.proofs.bounding.ask_bound.Goals as goal

pub bound-requires : goal.bound-requires
bound-requires g c = scene_seen c.args.search.now c.scene.result c.scene.ensures.search c.scene.ensures.flat c.scene.ensures.room c.scene.ensures.tolls c.scene.ensures.tariff

pub returns-in-Err-clause-heeds : goal.returns-in-Err-clause-heeds
returns-in-Err-clause-heeds g c = memory_stops c.args.search.now (g.L.Log.state c.args.log.now) c.scene.ensures.search c.requires.fits
