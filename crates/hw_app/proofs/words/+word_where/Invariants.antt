use Rattle.std.proofs.Common.{length}
use Rattle.hw_app.proofs.words.+word_where.Given as goal

abbrev pub decreases-word_where : goal.decreases-word_where
decreases-word_where l = length l.wanted.now
