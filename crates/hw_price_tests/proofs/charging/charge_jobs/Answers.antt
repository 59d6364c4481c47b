use Rattle.std.proofs.Common.{◌+◌, ◌∷◌, ap, sym, ◌∙◌, get_or, drop}
use Rattle.hw_price_laws.specs.Tolls.{job_charges}
use Rattle.hw_price_tests.proofs.Charged.{charge_step, costs_small, jobs_small, few_jobs}
use Rattle.hw_price_tests.proofs.Steps.{charges_left}
use Rattle.hw_price_tests.proofs.charging.charge_jobs.Goals as goal

pub charge_one-requires-clause-small : goal.charge_one-requires-clause-small
charge_one-requires-clause-small c = costs_small c.args.span.range.low c.args.span.range.high c.args.span.price c.args.span.range.ship (job_charges c.args.busy c.args.weights.now c.args.jobs.now) (job_charges c.args.busy (drop c.loop-place.place c.args.weights.now) (drop c.loop-place.place c.args.jobs.now)) c.args.costs.now c.loop-place.costs c.requires.small_price (few_jobs c.args.busy c.args.weights.now c.args.jobs.now c.requires.few) (jobs_small c.args.busy c.args.weights.now c.args.jobs.now c.requires.small_weights) c.loop-place.auto.costs c.requires.small c.loop-place.invariant

pub loop-place-preserved : goal.loop-place-preserved
loop-place-preserved c = λ k.
    charge_step c.args.span.range.low c.args.span.range.high c.args.span.price c.args.span.range.ship k (get_or c.loop-place.costs k 0) (get_or c.charge_one.new.costs k 0) _ c.charge_for.result (job_charges c.args.busy (drop (c.loop-place.place + 1) c.args.weights.now) (drop (c.loop-place.place + 1) c.args.jobs.now)) (job_charges c.args.busy (drop c.loop-place.place c.args.weights.now) (drop c.loop-place.place c.args.jobs.now))
    (charges_left c.args.busy c.args.weights.now c.args.jobs.now c.loop-place.place (record { ship = 0; tugs = 0; hold = 0 }) c.requires.each_job c.loop-place-test.true ∙ ap (λ x. x ∷ job_charges c.args.busy (drop (c.loop-place.place + 1) c.args.weights.now) (drop (c.loop-place.place + 1) c.args.jobs.now)) (sym c.charge_for.ensures.value))
    (c.charge_one.ensures.value k) (c.loop-place.invariant k)
