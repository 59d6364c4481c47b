use Rattle.hw_clash.proofs.Reducing.{numbers_all, met_at_once}
use Rattle.hw_clash.proofs.clashing.clash.Goals as goal

pub ask-requires-clause-numbered : goal.ask-requires-clause-numbered
ask-requires-clause-numbered c = rw (c.deref.ensures.value, c.in-Ok.ensures) (numbers_all c.args.wished.now).numbered

pub ask-requires-clause-ascending : goal.ask-requires-clause-ascending
ask-requires-clause-ascending c = rw (c.deref.ensures.value, c.in-Ok.ensures) (numbers_all c.args.wished.now).ascending

pub returns-in-Fits : goal.returns-in-Fits
returns-in-Fits c = met_at_once c.args.wished.now c.in-Ok.all.items c.in-Fits.table c.in-Fits.proof c.in-Ok.ensures (rw c.deref.ensures.value at c.in-Fits.ensures)
