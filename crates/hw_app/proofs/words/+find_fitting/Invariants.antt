use Rattle.std.proofs.Common.{length}
use Rattle.hw_app.proofs.words.+find_fitting.Given as goal

abbrev pub decreases-find_fitting : goal.decreases-find_fitting
decreases-find_fitting l = length l.forms.now
