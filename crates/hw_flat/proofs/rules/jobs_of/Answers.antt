use Rattle.std.proofs.Common.{◌≡◌, ◌<◌, ◌++◌, [], ◌∷◌, length, sym, arith}
use Rattle.hw_flat.specs.TextForms.{items_of, job_form}
use Rattle.hw_flat.proofs.Rows.{more_fit, items_go_on}
use Rattle.hw_flat.proofs.rules.jobs_of.Goals as goal

pub loop-word-preserved : goal.loop-word-preserved
loop-word-preserved c =
    let room : length c.loop-word.jobs.items < 40 = omega (arith, c.if-len-eq-MOST_JOBS.false, c.len.ensures, c.loop-word.invariant.few) in
    let grown : c.push.new.self.items ≡ c.loop-word.jobs.items ++ c.in-Some-job_of.job ∷ [] = c.in_ok-push.ensures.items in
    record {
      few = more_fit c.loop-word.jobs.items c.push.new.self.items c.in-Some-job_of.job 40 room grown;
      told = items_go_on (job_form c.args.ships) c.loop-word.jobs.items c.push.new.self.items c.in-Some-job_of.job 40 c.loop-word.words c.in-Some.word.now c.word.new.self (items_of (job_form c.args.ships) 40 c.args.words)
          room c.in-Some.ensures (sym c.in-Some-job_of.ensures.form) grown c.loop-word.invariant.told;
    }
