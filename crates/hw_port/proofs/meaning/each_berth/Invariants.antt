use Rattle.std.proofs.Common.{◌≡◌, drop}
use Rattle.hw_port.specs.Faults.{each}
use Rattle.hw_port.specs.Meaning.{berth_fault}
use Rattle.hw_port.proofs.meaning.each_berth.Given as goal

abbrev pub invariant-loop-i : goal.invariant-loop-i
invariant-loop-i l = each (berth_fault l.ships) l.i (drop l.i l.pairs) ≡ each (berth_fault l.ships) 0 l.pairs
