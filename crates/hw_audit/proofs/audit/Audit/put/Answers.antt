use Rattle.hw_audit.proofs.Keeping.{others_moved}
use Rattle.hw_audit.proofs.audit.Audit.put.Goals as goal

pub mend_marks-requires-clause-others : goal.mend_marks-requires-clause-others
mend_marks-requires-clause-others c =
    rw c.deref-2.ensures.value (others_moved c.self.inside.flat c.self.inside.table.items c.self.inside.withdrawn c.args.ship c.args.slot c.self.inside.holds.items c.self.invariant.kept.marks)
