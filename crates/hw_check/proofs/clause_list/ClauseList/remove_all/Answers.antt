use Rattle.hw_check.proofs.Storing.{removed_none, removed_next}
use Rattle.hw_check.proofs.clause_list.ClauseList.remove_all.Goals as goal

pub loop-id-init : goal.loop-id-init
loop-id-init c = removed_none c.args.self.now

pub loop-id-preserved : goal.loop-id-preserved
loop-id-preserved c = removed_next c.args.self.now c.loop-id.self c.remove.new.self c.args.ids.now c.loop-id.id-index 0 c.loop-id-test.true c.loop-id.invariant c.remove.ensures.dead
