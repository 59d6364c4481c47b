use Rattle.hw_search_advised.proofs.AdvisedTurns.{room_seen}
use Rattle.hw_search_advised.proofs.advising.preferred.Goals as goal

pub prefer-requires : goal.prefer-requires
prefer-requires g c = record { room = room_seen c.args.search.now c.scene.result.flat.now c.scene.result.room.now c.scene.ensures.search c.scene.ensures.flat c.scene.ensures.room }
