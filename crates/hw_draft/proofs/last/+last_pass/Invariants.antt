use Rattle.std.proofs.Common.{length}
use Rattle.hw_draft.proofs.last.+last_pass.Given as goal

abbrev pub decreases-last_pass : goal.decreases-last_pass
decreases-last_pass l = length l.route.now
