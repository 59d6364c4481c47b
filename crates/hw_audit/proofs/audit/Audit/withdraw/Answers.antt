use Rattle.hw_audit.proofs.Keeping.{others_left}
use Rattle.hw_audit.proofs.audit.Audit.withdraw.Goals as goal

pub mend_marks-requires-clause-others : goal.mend_marks-requires-clause-others
mend_marks-requires-clause-others c =
    rw c.deref.ensures.value (others_left c.self.inside.flat c.self.inside.table.items c.self.inside.withdrawn c.args.withdrawn c.self.inside.holds.items c.self.invariant.kept.marks)
