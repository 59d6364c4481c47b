use Rattle.hw_repair.proofs.Repairs.{repaired_fits}
use Rattle.hw_repair.proofs.repairing.assembled.Goals as goal

pub invariant_of-result : goal.invariant_of-result
invariant_of-result c = rw (c.shape-shape.ensures.value, c.may_stay.ensures, c.requires.values, c.requires.rules) (repaired_fits c.args.flat.now c.args.plan.now c.shape-shape.ensures.limits c.requires.writable c.requires.fits)
