use Rattle.std.proofs.Common.{ℕ, Option, Some, sym, subst}
use Rattle.hw_model.specs.declared.source.Source.TheVariants.{Goal}
use Rattle.hw_model.specs.Quiet.{QuietSource}
use Rattle.hw_prop.proofs.Laws.{quiet_of}
use Rattle.hw_goal.proofs.stepping.goal_step.Goals as goal

pub returns-in-None-goal_cut-clause-found : goal.returns-in-None-goal_cut-clause-found
returns-in-None-goal_cut-clause-found c =
    let f = c.args.known.now.flat.now in
    let P : Option ℕ → Type 0 = λ best. QuietSource f Goal best c.args.room.now in
    subst P (sym c.in-Some.is) (quiet_of f Goal (Some c.in-Some.best) c.args.room.now c.requires.room.same_ships c.in-None-goal_cut.ensures.found)
