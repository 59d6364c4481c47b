use Rattle.std.proofs.Common.{◌≡◌, ◌++◌, map, drop}
use Rattle.hw_port_named.specs.Lines.{section_name, slashed}
use Rattle.hw_port_named.proofs.writing.put_sections.Given as goal

abbrev pub invariant-loop-section : goal.invariant-loop-section
invariant-loop-section l = l.out.items ++ slashed (map (section_name l.parts) (drop l.section-index l.sections)) ≡ l.fn.out.items ++ slashed (map (section_name l.parts) l.sections)
