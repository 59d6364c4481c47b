use Rattle.std.proofs.Common.{length}
use Rattle.hw_app.proofs.words.+agreed.Given as goal

abbrev pub decreases-agreed : goal.decreases-agreed
decreases-agreed l = length l.wanted.now
