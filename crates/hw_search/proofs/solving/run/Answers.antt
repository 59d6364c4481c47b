use Rattle.std.proofs.Common.{◌<◌, Option, List, ℕ, refl, sym, ◌∙◌, subst, IfSome, arith}
use Rattle.hw_model.specs.Problem.{Problem}
use Rattle.hw_model.specs.Timetables.{Permits}
use Rattle.hw_search_laws.specs.declared.outcome.Solved.TheVariants as answers
use Rattle.hw_search_laws.specs.Proving.{IsEndOf}
use Rattle.hw_search_laws.specs.Solving.{SolveMeets}
use Rattle.hw_search.specs.Going.{Going}
use Rattle.hw_search_laws.proofs.LastTurns.{goes}
use Rattle.hw_search.proofs.Counting.{nearer}
use Rattle.hw_search.proofs.Solutions.{begins, goes_on, ends_at, stopped, failed, spent, to_fit}
use Rattle.hw_search.proofs.Faults.{going_keeps, ended_keeps}
use Rattle.hw_search.proofs.solving.run.Goals as goal

pub turns-init : goal.turns-init
turns-init g c = record {
  going = subst (λ s. Going c.args.flat.now c.args.budget s (g.L.Log.state c.args.log.now) (g.L.Log.state c.args.log.now)) (sym c.requires.new) (begins c.args.flat.now c.args.budget (g.L.Log.state c.args.log.now) c.shape-shape.ensures.limits c.requires.empty);
  faults = refl;
  same = refl;
}

pub turn-requires-clause-fits : goal.turn-requires-clause-fits
turn-requires-clause-fits g c = to_fit c.args.flat.now c.args.budget c.turns.search (g.L.Log.state c.args.log.now) (g.L.Log.state c.turns.log) c.turns.invariant.going

pub turns-smaller : goal.turns-smaller
turns-smaller g c =
    let few : c.turns.search.lemmas < c.args.budget = omega (arith, c.turns-test.true, c.lemmas.ensures.value) in
    nearer c.turn.result c.args.budget c.turns.search c.turn.new.self (g.L.Log.state c.turns.log) (g.L.Log.state c.turn.new.log) (goes c.turn.result c.in-Decided.is) few c.turn.ensures.turns.same_problem c.turn.ensures.turns.does

pub turns-preserved : goal.turns-preserved
turns-preserved g c =
    let few : c.turns.search.lemmas < c.args.budget = omega (arith, c.turns-test.true, c.lemmas.ensures.value) in
    record {
      going = goes_on c.args.flat.now c.args.budget c.turns.search c.turn.new.self c.turn.result (g.L.Log.state c.args.log.now) (g.L.Log.state c.turns.log) (g.L.Log.state c.turn.new.log) c.turns.invariant.going few (goes c.turn.result c.in-Decided.is) c.turn.ensures.turns;
      faults = going_keeps c.turn.result (g.L.Log.state c.turns.log) (g.L.Log.state c.turn.new.log) (goes c.turn.result c.in-Decided.is) c.turn.ensures.kept ∙ c.turns.invariant.faults;
      same = c.turn.ensures.same_reference ∙ c.turns.invariant.same;
    }

pub proved-requires : goal.proved-requires
proved-requires g c =
    let same = c.in-Ended.ensures.turns.same_problem ∙ c.turns.invariant.going.same_problem in
    record { permitted = subst (λ (o : Option (List ℕ)). IfSome o (Permits c.args.flat.now)) (sym c.into_best.ensures.value) (subst (λ (p : Problem). IfSome c.turn.new.self.best (Permits p)) same c.into_best.ensures.search.permitted) }

pub returns-in-Ended : goal.returns-in-Ended
returns-in-Ended g c =
    let few : c.turns.search.lemmas < c.args.budget = omega (arith, c.turns-test.true, c.lemmas.ensures.value) in
    record {
      solves = ends_at c.args.flat.now c.args.budget c.turns.search c.turn.new.self c.proved.result (g.L.Log.state c.args.log.now) (g.L.Log.state c.turns.log) (g.L.Log.state c.turn.new.log) c.lemmas.ensures.search c.turns.invariant.going few c.in-Ended.ensures.turns (subst (λ (o : Option (List ℕ)). IsEndOf c.args.flat.now o c.proved.result) c.into_best.ensures.value c.proved.ensures.value);
      kept = ended_keeps c.args.flat.now c.into_best.result c.proved.result (g.L.Log.state c.args.log.now) (g.L.Log.state c.turn.new.log) c.proved.ensures.value (c.in-Ended.ensures.kept ∙ c.turns.invariant.faults);
      same_reference = c.in-Ended.ensures.same_reference ∙ c.turns.invariant.same;
    }

pub returns-in-NoMemory : goal.returns-in-NoMemory
returns-in-NoMemory g c =
    let few : c.turns.search.lemmas < c.args.budget = omega (arith, c.turns-test.true, c.lemmas.ensures.value) in
    record {
      solves = subst (λ (o : Option (List ℕ)). SolveMeets c.args.flat.now c.args.budget (g.L.Log.state c.args.log.now) (answers.NoMemory o) (g.L.Log.state c.turn.new.log)) (sym c.into_best-in-NoMemory.ensures.value)
          (stopped c.args.flat.now c.args.budget c.turns.search c.turn.new.self (g.L.Log.state c.args.log.now) (g.L.Log.state c.turns.log) (g.L.Log.state c.turn.new.log) c.lemmas.ensures.search c.turns.invariant.going few c.in-NoMemory.ensures.turns);
      kept = c.in-NoMemory.ensures.kept ∙ c.turns.invariant.faults;
      same_reference = c.in-NoMemory.ensures.same_reference ∙ c.turns.invariant.same;
    }

pub returns-in-LogFailed : goal.returns-in-LogFailed
returns-in-LogFailed g c =
    let few : c.turns.search.lemmas < c.args.budget = omega (arith, c.turns-test.true, c.lemmas.ensures.value) in
    record {
      solves = failed c.args.flat.now c.args.budget c.turns.search c.turn.new.self (g.L.Log.state c.args.log.now) (g.L.Log.state c.turns.log) (g.L.Log.state c.turn.new.log) c.turns.invariant.going few c.in-LogFailed.ensures.turns;
      kept = tt;
      same_reference = c.in-LogFailed.ensures.same_reference ∙ c.turns.invariant.same;
    }

pub returns : goal.returns
returns g c = record {
  solves = subst (λ (o : Option (List ℕ)). SolveMeets c.args.flat.now c.args.budget (g.L.Log.state c.args.log.now) (answers.Unfinished o) (g.L.Log.state c.turns.log)) (sym c.into_best-2.ensures.value)
      (spent c.args.flat.now c.args.budget c.turns.search (g.L.Log.state c.args.log.now) (g.L.Log.state c.turns.log) c.lemmas.ensures.search c.turns.invariant.going (omega (arith, c.turns-test.false, c.lemmas.ensures.value)));
  kept = c.turns.invariant.faults;
  same_reference = c.turns.invariant.same;
}
