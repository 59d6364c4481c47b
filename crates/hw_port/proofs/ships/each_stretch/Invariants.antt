use Rattle.std.proofs.Common.{◌≡◌, drop, negsuc}
use Rattle.hw_port.specs.Ships.{stretches_fault}
use Rattle.hw_port.proofs.ships.each_stretch.Given as goal

abbrev pub invariant-loop-j : goal.invariant-loop-j
invariant-loop-j l = stretches_fault l.i l.sections l.j l.before (drop l.j l.channel) ≡ stretches_fault l.i l.sections 0 (negsuc 0) l.channel
