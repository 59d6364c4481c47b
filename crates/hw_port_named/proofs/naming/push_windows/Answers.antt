use Rattle.std.proofs.Common.{◌∙◌}
use Rattle.hw_port_named.proofs.Steps.{more_windows}
use Rattle.hw_port_named.proofs.naming.push_windows.Goals as goal

pub loop-ship-preserved : goal.loop-ship-preserved
loop-ship-preserved c = c.in_ok-push.ensures.items ∙ more_windows c.args.list.now.items c.loop-ship.list.items c.loop-ship.ship c.loop-ship.invariant
