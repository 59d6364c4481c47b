use Rattle.std.proofs.Common.{◌≡◌, ◌+◌, ◌∷◌, ap, sym, ◌∙◌, arith, drop}
use Rattle.hw_price_laws.specs.Tolls.{job_charges}
use Rattle.hw_price_tests.proofs.Charged.{charge_left}
use Rattle.hw_price_tests.proofs.Steps.{charges_left}
use Rattle.hw_price_tests.proofs.costs.charge_each_job.Goals as goal

pub loop-place-preserved : goal.loop-place-preserved
loop-place-preserved c =
    let split : job_charges c.args.busy (drop c.loop-place.place c.args.weights.now) (drop c.loop-place.place c.args.jobs.now) ≡ c.charge_for.result ∷ job_charges c.args.busy (drop (c.loop-place.place + 1) c.args.weights.now) (drop (c.loop-place.place + 1) c.args.jobs.now) =
    charges_left c.args.busy c.args.weights.now c.args.jobs.now c.loop-place.place (record { ship = 0; tugs = 0; hold = 0 }) c.requires.each_job c.loop-place-test.true ∙ ap (λ x. x ∷ job_charges c.args.busy (drop (c.loop-place.place + 1) c.args.weights.now) (drop (c.loop-place.place + 1) c.args.jobs.now)) (sym c.charge_for.ensures.value)
    in
    record {
      each_slot = λ ship. c.charge_row.ensures.charged.each_slot ship ∙ c.loop-place.invariant.each_slot ship;
      told = λ ship slot.
          omega (
            arith,
            charge_left c.args.price ship slot c.charge_for.result (job_charges c.args.busy (drop (c.loop-place.place + 1) c.args.weights.now) (drop (c.loop-place.place + 1) c.args.jobs.now)) (job_charges c.args.busy (drop c.loop-place.place c.args.weights.now) (drop c.loop-place.place c.args.jobs.now)) split,
            c.charge_row.ensures.charged.paid ship slot,
            c.loop-place.invariant.told ship slot,
          );
    }
