use Rattle.std.proofs.Common.{List, subst}
use Rattle.std.specs.Prelude.{All}
use Rattle.std.proofs.lemmas.List.{take_all}
use Rattle.std.proofs.lemmas.List.Elements.{All-more}
use Rattle.std.proofs.lemmas.Option.{slice_get-get_or}
use Rattle.hw_model.specs.declared.rule.Job.{Job}
use Rattle.hw_tugs.specs.Over.{IsCalm}
use Rattle.hw_tugs.proofs.Overs.{job_cuts, all_quiet, cut_slot}
use Rattle.hw_tugs.proofs.cutting.tug_cut.Goals as goal

pub returns-in-Some : goal.returns-in-Some
returns-in-Some c =
    let inside = cut_slot c.args.load.now c.args.fleets.now c.args.room.now _ c.in-Some.cut.reduction c.in-Some.cut.slot c.in-Some.ensures.found in
    record {
      found = record {
        inside = inside;
        refuted = job_cuts c.args.jobs.now c.args.load.now c.args.fleets.now c.args.room.now c.ships-ships.ensures.room c.requires.fit c.requires.ascends c.requires.forced c.loop-job.job-index _ c.in-Some.cut.reduction c.in-Some.cut.slot
            (slice_get-get_or c.args.jobs.now c.loop-job.job-index _ c.loop-job-test.true) inside c.in-Some.ensures.found;
      };
    }

pub loop-job-preserved : goal.loop-job-preserved
loop-job-preserved c =
    All-more (IsCalm c.args.load.now c.args.fleets.now c.args.room.now) c.args.jobs.now c.loop-job.job-index _ c.loop-job-test.true c.loop-job.invariant c.in_default.ensures.found

pub returns : goal.returns
returns c = record {
  found = all_quiet c.args.jobs.now c.args.load.now c.args.fleets.now c.args.room.now c.ships-ships.ensures.room c.requires.fit c.requires.ascends c.requires.forced
      (let P : List Job → Type 0 = All (IsCalm c.args.load.now c.args.fleets.now c.args.room.now) in subst P (take_all c.loop-job.job-index c.args.jobs.now c.loop-job-test.false) c.loop-job.invariant);
}
