use Rattle.std.proofs.Common.{◌≡◌, drop}
use Rattle.hw_port.specs.Faults.{each}
use Rattle.hw_port.specs.Meaning.{waypoint_fault}
use Rattle.hw_port.proofs.meaning.each_waypoint.Given as goal

abbrev pub invariant-loop-i : goal.invariant-loop-i
invariant-loop-i l = each (waypoint_fault l.all) l.i (drop l.i l.all) ≡ each (waypoint_fault l.all) 0 l.all
