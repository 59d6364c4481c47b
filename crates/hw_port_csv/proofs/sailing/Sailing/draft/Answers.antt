use Rattle.hw_port_csv.proofs.Bounds.{draft_within}
use Rattle.hw_port_csv.proofs.sailing.Sailing.draft.Goals as goal

pub returns-clause-kept : goal.returns-clause-kept
returns-clause-kept c = draft_within _ _ _ _ _ (rw c.parts-kept.ensures.parts at c.parts-kept.ensures.kept) c.sailing.ensures
