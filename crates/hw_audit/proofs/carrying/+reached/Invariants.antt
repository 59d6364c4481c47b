use Rattle.std.proofs.Common.{length}
use Rattle.hw_audit.proofs.carrying.+reached.Given as goal

abbrev pub decreases-reached : goal.decreases-reached
decreases-reached l = length l.sailed.now
