use Rattle.std.proofs.Common.{pos}
use Rattle.hw_port_named.proofs.Steps.{more_shared}
use Rattle.hw_port_named.proofs.naming.shared.Goals as goal

pub loop-stretch-preserved : goal.loop-stretch-preserved
loop-stretch-preserved c = rw c.in_ok-push_section.ensures (more_shared c.args.channel.now c.args.others.now c.loop-stretch.places.items _ c.loop-stretch.stretch-index (record { section = pos 0; enter = pos 0; leave = pos 0 }) c.loop-stretch-test.true c.loop-stretch.invariant)
