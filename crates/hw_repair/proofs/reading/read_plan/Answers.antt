use Rattle.hw_text.specs.Parts.{parts_of}
use Rattle.hw_repair.proofs.Fitting.{plan_fits}
use Rattle.hw_repair.proofs.reading.read_plan.Goals as goal

pub returns-clause-fits : goal.returns-clause-fits
returns-clause-fits c =
    plan_fits c.args.flat.now c.in_ok-withdrawn.field-0.first (parts_of 10 c.in_ok-withdrawn.field-0.rest.now) (record { withdrawn = c.in_ok-withdrawn.field-0.withdrawn; wishes = c.in_ok-wishes.wishes.items }) (parts_of 10 c.in_ok-wishes.rest.now) c.shape.ensures.limits (rw c.shape.ensures.value at c.shape.ensures.fits).some_slot c.in_ok-wishes.ensures
