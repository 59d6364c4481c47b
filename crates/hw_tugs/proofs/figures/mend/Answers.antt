use Rattle.std.proofs.Common.{◌<◌, length, arith, ◌∙◌}
use Rattle.std.proofs.lemmas.List.{length-set}
use Rattle.hw_model.specs.declared.rule.Job.{Job}
use Rattle.hw_tugs.proofs.Loads.{held_at, held_set, held_few}
use Rattle.hw_tugs.proofs.figures.mend.Goals as goal

abbrev no_job : Job
no_job = record { ship = 0; tugs = 0; hold = 0 }

pub take_away-requires : goal.take_away-requires
take_away-requires c = record {
  held = λ slot lt. omega (arith, held_at c.args.jobs.now c.args.seen.now c.args.place no_job slot c.requires.inside c.requires.load.each_job, c.requires.load.told slot lt);
}

pub add-requires : goal.add-requires
add-requires c = record {
  small = λ slot lt.
      let inside : slot < length c.args.load.now = omega (arith, lt, c.take_away.ensures.length) in
      omega (arith, c.take_away.ensures.taken slot inside, c.requires.load.told slot inside, c.requires.few, held_few c.args.jobs.now c.args.seen.now slot c.requires.few_tugs);
}

pub returns-clause-load : goal.returns-clause-load
returns-clause-load c = record {
  each_job = length-set c.args.seen.now c.args.place c.args.range ∙ c.requires.load.each_job;
  told = λ slot lt.
      let middle : slot < length c.take_away.new.load = omega (arith, lt, c.add.ensures.length) in
      let inside : slot < length c.args.load.now = omega (arith, middle, c.take_away.ensures.length) in
      omega (
        arith,
        c.add.ensures.added slot middle,
        c.take_away.ensures.taken slot inside,
        c.requires.load.told slot inside,
        held_set c.args.jobs.now c.args.seen.now c.args.place no_job c.args.range slot c.requires.inside c.requires.load.each_job,
      );
}
