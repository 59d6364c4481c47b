use Rattle.std.proofs.Common.{length}
use Rattle.hw_app.proofs.words.+furthest.Given as goal

abbrev pub decreases-furthest : goal.decreases-furthest
decreases-furthest l = length l.forms.now
