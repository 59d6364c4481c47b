use Rattle.hw_search.proofs.Advice.{memory_stops}
use Rattle.hw_search_advised.proofs.AdvisedTurns.{scene_seen}
use Rattle.hw_search_advised.proofs.advising.consult.Goals as goal

pub advise-requires : goal.advise-requires
advise-requires g c = scene_seen c.args.search.now c.scene.result c.scene.ensures.search c.scene.ensures.flat c.scene.ensures.room c.scene.ensures.tolls c.scene.ensures.tariff

pub returns-in-Err-clause-meets : goal.returns-in-Err-clause-meets
returns-in-Err-clause-meets g c = memory_stops c.args.search.now (g.L.Log.state c.args.log.now) c.scene.ensures.search c.requires.fits
