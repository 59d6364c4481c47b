use Rattle.hw_port_named.proofs.Steps.{more_sections}
use Rattle.hw_port_named.proofs.writing.put_sections.Goals as goal

pub loop-section-preserved : goal.loop-section-preserved
loop-section-preserved c = rw (c.in_ok-extend_from_slice-2.ensures.items, c.in_ok-extend_from_slice.ensures.items, c.section_name.ensures) (more_sections c.args.parts.now c.args.sections.now c.loop-section.out.items _ c.loop-section.section-index c.loop-section-test.true c.loop-section.invariant)
