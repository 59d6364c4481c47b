use Rattle.std.proofs.Common.{length}
use Rattle.tidewise.proofs.help.+put_forms.Given as goal

abbrev pub decreases-put_forms : goal.decreases-put_forms
decreases-put_forms g l = length l.forms.now
