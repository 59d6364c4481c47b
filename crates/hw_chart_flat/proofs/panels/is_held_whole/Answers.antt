use Rattle.std.proofs.lemmas.Grind.{merely}
use Rattle.hw_chart_flat.proofs.panels.is_held_whole.Goals as goal

pub invariant_of-held : goal.invariant_of-held
invariant_of-held c = record { fits = merely c.requires.fits }
