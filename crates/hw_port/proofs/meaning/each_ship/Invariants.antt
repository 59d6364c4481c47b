use Rattle.std.proofs.Common.{◌≡◌, drop}
use Rattle.hw_port.specs.Faults.{each}
use Rattle.hw_port.specs.Ships.{ship_fault}
use Rattle.hw_port.proofs.meaning.each_ship.Given as goal

abbrev pub invariant-loop-i : goal.invariant-loop-i
invariant-loop-i l = each (ship_fault l.p) l.i (drop l.i l.p.ships) ≡ each (ship_fault l.p) 0 l.p.ships
