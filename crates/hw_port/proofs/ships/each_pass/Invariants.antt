use Rattle.std.proofs.Common.{◌≡◌, drop}
use Rattle.hw_port.specs.Faults.{each}
use Rattle.hw_port.specs.Ships.{pass_fault}
use Rattle.hw_port.proofs.ships.each_pass.Given as goal

abbrev pub invariant-loop-j : goal.invariant-loop-j
invariant-loop-j l = each (pass_fault l.i l.waypoints) l.j (drop l.j l.route) ≡ each (pass_fault l.i l.waypoints) 0 l.route
