use Rattle.std.proofs.Common.{◌≡◌, drop}
use Rattle.hw_port.specs.Faults.{each}
use Rattle.hw_port.specs.Meaning.{section_fault}
use Rattle.hw_port.proofs.meaning.each_section.Given as goal

abbrev pub invariant-loop-i : goal.invariant-loop-i
invariant-loop-i l = each (section_fault l.all) l.i (drop l.i l.all) ≡ each (section_fault l.all) 0 l.all
