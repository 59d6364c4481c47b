use Rattle.std.proofs.Common.{ℕ, subst}
use Rattle.hw_prop.specs.Reductions.{IsQuiet}
use Rattle.hw_tugs.specs.Over.{Exceeding}
use Rattle.hw_tugs.proofs.Sources.{quiet_source}
use Rattle.hw_tugs.proofs.explaining.tugs_step.Goals as goal

pub returns-in-None-clause-found : goal.returns-in-None-clause-found
returns-in-None-clause-found c =
    let P : ℕ → Type 0 = λ n. IsQuiet (Exceeding c.args.test.now.fleets.now c.args.test.now.rule.jobs.now n) c.args.room.now in
    quiet_source c.args.test.now.by.flat.now c.args.test.now.by.source c.args.test.now.by.best c.args.test.now.rule.fleet c.args.test.now.rule.later.now c.args.test.now.rule.jobs.now c.args.test.now.fleets.now c.args.room.now c.requires.room c.requires.rule c.requires.fleets.tells
    (subst P c.requires.each_slot c.in-None.ensures.found)
