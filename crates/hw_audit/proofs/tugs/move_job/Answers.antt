use Rattle.std.proofs.Common.{◌≡◌, ◌<◌, ℕ, length, get_or, sum_by, ◌∙◌, arith}
use Rattle.hw_model.specs.declared.rule.Job.{Job}
use Rattle.hw_model.specs.Rules.{held_by}
use Rattle.hw_audit.specs.Keeping.{last_jobs}
use Rattle.hw_audit.proofs.Moving.{last_fit, there_to_take, few_on_the_way, moved_own, moved_other, moved_all}
use Rattle.hw_audit.proofs.tugs.move_job.Goals as goal
use Rattle.hw_audit.proofs.tugs.move_job.Goals.{then-job-ship, else-job-ship}

abbrev no_job : Job
no_job = record { ship = 0; tugs = 0; hold = 0 }

pub take_away-requires : goal.take_away-requires
take_away-requires c = record {
  there = λ k lt.
      let own : c.jobs_of-jobs.result.now ≡ last_jobs c.args.flat.now.rules = rw c.rules.ensures.value at c.jobs_of-jobs.ensures in
      let first : k < length c.args.held.now.items = omega (arith, lt, c.loop-job.invariant.size) in
      let was : get_or c.args.held.now.items k 0 ≡ sum_by (held_by c.args.table.now k) c.jobs_of-jobs.result.now = rw own (c.requires.held.told k (omega (arith, first, c.requires.held.each_slot))) in
      there_to_take c.args.table.now c.jobs_of-jobs.result.now c.args.ship c.args.slot c.loop-job.job-index k (get_or c.args.held.now.items k 0) (get_or c.loop-job.held.items k 0) no_job
      c.loop-job-test.true c.if-job-ship.true was (c.loop-job.invariant.told k first);
}

pub add-requires : goal.add-requires
add-requires c = record {
  small = λ k lt.
      let own : c.jobs_of-jobs.result.now ≡ last_jobs c.args.flat.now.rules = rw c.rules.ensures.value at c.jobs_of-jobs.ensures in
      let fit = last_fit c.args.flat.now c.rules.ensures.limits in
      let between : k < length c.loop-job.held.items = omega (arith, lt, c.take_away.ensures.each_slot) in
      let first : k < length c.args.held.now.items = omega (arith, between, c.loop-job.invariant.size) in
      let was : get_or c.args.held.now.items k 0 ≡ sum_by (held_by c.args.table.now k) c.jobs_of-jobs.result.now = rw own (c.requires.held.told k (omega (arith, first, c.requires.held.each_slot))) in
      let few = few_on_the_way c.args.table.now c.jobs_of-jobs.result.now c.args.flat.now.ships c.args.ship (get_or c.args.table.now c.args.ship 0) c.args.slot c.loop-job.job-index k
      (get_or c.args.held.now.items k 0) (get_or c.loop-job.held.items k 0) (rw own fit.0) (rw own fit.1) was (c.loop-job.invariant.told k first) in
      omega (arith, few, c.take_away.ensures.taken k between);
}

pub loop-job-preserved : goal.loop-job-preserved
loop-job-preserved c =
    let jobs = c.jobs_of-jobs.result.now in
    let old : ℕ = get_or c.args.table.now c.args.ship 0 in
    elim c.if-job-ship.branch [
      | then-job-ship w ↦
          rw w.held-is (record {
            size = w.add.ensures.each_slot ∙ (w.take_away.ensures.each_slot ∙ c.loop-job.invariant.size);
            told = λ k first.
                let inside : k < length c.loop-job.held.items = omega (arith, first, c.loop-job.invariant.size) in
                moved_own jobs c.args.ship old c.args.slot c.loop-job.job-index k (get_or c.args.held.now.items k 0) (get_or c.loop-job.held.items k 0) (get_or w.take_away.new.held.items k 0) (get_or w.add.new.held.items k 0) no_job
                c.loop-job-test.true w.if-job-ship.true (c.loop-job.invariant.told k first) (w.take_away.ensures.taken k inside) (w.add.ensures.added k (omega (arith, inside, w.take_away.ensures.each_slot)));
          })
      | else-job-ship w ↦
          rw w.held-is (record {
            size = c.loop-job.invariant.size;
            told = λ k first.
                moved_other jobs c.args.ship old c.args.slot c.loop-job.job-index k (get_or c.args.held.now.items k 0) (get_or c.loop-job.held.items k 0) no_job
                c.loop-job-test.true w.if-job-ship.false (c.loop-job.invariant.told k first);
          })
    ]

pub returns : goal.returns
returns c = record {
  held = record {
    each_slot = c.loop-job.invariant.size ∙ c.requires.held.each_slot;
    told = λ k lt.
        let own : c.jobs_of-jobs.result.now ≡ last_jobs c.args.flat.now.rules = rw c.rules.ensures.value at c.jobs_of-jobs.ensures in
        let first : k < length c.args.held.now.items = omega (arith, lt, c.requires.held.each_slot) in
        rw (← own)
        (moved_all c.args.table.now c.jobs_of-jobs.result.now c.args.ship c.args.slot c.loop-job.job-index k (get_or c.args.held.now.items k 0) (get_or c.loop-job.held.items k 0)
        (omega (arith, c.requires.ship_in, c.requires.listed.each_ship)) c.loop-job-test.false (rw own (c.requires.held.told k lt)) (c.loop-job.invariant.told k first));
  };
}
