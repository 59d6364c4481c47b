use Rattle.std.proofs.Common.{◌≡◌, ap, ◌∙◌, arith}
use Rattle.hw_model.specs.declared.shape.Shape.{Shape}
use Rattle.hw_audit.proofs.Begun.{of_port}
use Rattle.hw_audit.proofs.PortRules.{tugs_last}
use Rattle.hw_audit.proofs.audit.Audit.new.Goals as goal

pub mend_marks-requires-clause-tugs_last : goal.mend_marks-requires-clause-tugs_last
mend_marks-requires-clause-tugs_last c = rw c.in_ok-flat.ensures.problem (tugs_last c.args.port.now)

pub invariant_of-result : goal.invariant_of-result
invariant_of-result c =
    let ships : c.shape-shape.result.ships ≡ c.in_ok-flat.flat.ships = ap (λ (s : Shape). s.ships) c.shape-shape.ensures.value in
    let slots : c.in_ok-slots.slots.items ≡ c.args.table = c.in_ok-slots.ensures.items ∙ c.as_slice.ensures.value in
    record {
      limits = c.shape-shape.ensures.limits;
      watched = record {
        listed = rw (c.in_ok-flat.ensures.problem, slots) (of_port c.args.port.now c.args.tide.now c.args.table c.requires.listed);
        each_ship = omega (arith, c.in_ok-sailed.ensures.len, ships);
        few = omega arith;
      };
      few = c.fleet_of-fleet.ensures.few;
      kept = record {
        tugs_last = rw c.in_ok-flat.ensures.problem (tugs_last c.args.port.now);
        marks = rw c.deref.ensures.value at c.mend_marks.ensures.marks;
        tugs = rw slots c.in_ok-held.ensures.held;
      };
      listed = rw (c.deref-3.ensures.value, c.deref-4.ensures.value) at c.list_broken-many.ensures.listed;
    }
