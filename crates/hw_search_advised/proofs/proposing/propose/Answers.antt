use Rattle.hw_search_advised.proofs.AdvisedTurns.{scene_seen}
use Rattle.hw_search_advised.proofs.Proposals.{none_proposed}
use Rattle.hw_search_advised.proofs.proposing.propose.Goals as goal

pub propose-requires : goal.propose-requires
propose-requires g c = scene_seen c.args.search.now c.scene.result c.scene.ensures.search c.scene.ensures.flat c.scene.ensures.room c.scene.ensures.tolls c.scene.ensures.tariff

pub returns-in-Err-clause-meets : goal.returns-in-Err-clause-meets
returns-in-Err-clause-meets g c = none_proposed c.args.search.now c.halt-turn.new.self (g.L.Log.state c.args.log.now) c.scene.ensures.search c.requires.fits c.halt-turn.ensures.search
