use Rattle.hw_port_named.proofs.Steps.{more_pairs}
use Rattle.hw_port_named.proofs.naming.push_pairs_with.Goals as goal

pub loop-i-preserved : goal.loop-i-preserved
loop-i-preserved c = rw c.in_ok-push_pair.ensures (more_pairs c.args.parts.now c.args.v c.args.ship.now c.args.first c.args.rest.now c.loop-i.list.items _ c.loop-i.i c.index-rest-i.result c.loop-i-test.true c.index-rest-i.is c.loop-i.invariant)
