use Rattle.std.proofs.Common.{◌≤◌, ◌+◌, Option, ℕ, refl, sym, ◌∙◌, subst, arith}
use Rattle.hw_search_laws.specs.declared.outcome.Branching.TheVariants.{Greatest}
use Rattle.hw_search_laws.specs.Proving.{ProveMeets, Proving}
use Rattle.hw_search_laws.proofs.Provings.{proving}
use Rattle.hw_search.proofs.Faults.{ended_keeps}
use Rattle.hw_search_advised.proofs.Provers.{ends, proves_as, keeps_as}
use Rattle.hw_search_advised.proofs.Stepped.{can_begin}
use Rattle.hw_search_advised.proofs.proving.run.Goals as goal

pub turns-init : goal.turns-init
turns-init g c = record {
  going = subst (λ s. Proving c.args.flat.now c.args.budget s (g.L.Log.state c.args.log.now) (g.L.Log.state c.args.log.now)) (sym c.requires.new) ((proving c.args.flat.now c.args.budget).0.begins Greatest (g.L.Log.state c.args.log.now) c.shape-shape.ensures.limits c.requires.empty);
  faults = refl;
  same = refl;
}

pub proceed-requires-clause-goes : goal.proceed-requires-clause-goes
proceed-requires-clause-goes g c = can_begin c.args.flat.now c.args.budget c.turns.search (g.L.Log.state c.args.log.now) (g.L.Log.state c.turns.log) c.requires.most c.lemmas.ensures.search c.turns.invariant.going

pub look-requires : goal.look-requires
look-requires g c = record { goes = can_begin c.args.flat.now c.args.budget c.turns.search (g.L.Log.state c.args.log.now) (g.L.Log.state c.turns.log) c.requires.most c.lemmas.ensures.search c.turns.invariant.going }

pub turns-smaller : goal.turns-smaller
turns-smaller g c =
    let few : c.turns.search.lemmas + 1 ≤ c.args.budget = omega (arith, c.turns-test.true, c.lemmas.ensures.value) in
    let on = c.in-GoesOn.ensures.step c.args.flat.now c.args.budget (g.L.Log.state c.args.log.now) c.turns.invariant.going few in
    omega (arith, on.left)

pub turns-preserved : goal.turns-preserved
turns-preserved g c =
    let few : c.turns.search.lemmas + 1 ≤ c.args.budget = omega (arith, c.turns-test.true, c.lemmas.ensures.value) in
    let on = c.in-GoesOn.ensures.step c.args.flat.now c.args.budget (g.L.Log.state c.args.log.now) c.turns.invariant.going few in
    record {
      going = on.going;
      faults = c.in-GoesOn.ensures.kept ∙ c.turns.invariant.faults;
      same = c.in-GoesOn.ensures.same_reference ∙ c.turns.invariant.same;
    }

pub returns-in-Ended : goal.returns-in-Ended
returns-in-Ended g c =
    let few : c.turns.search.lemmas + 1 ≤ c.args.budget = omega (arith, c.turns-test.true, c.lemmas.ensures.value) in
    record {
      proves = subst (λ (bound : Option ℕ). ProveMeets c.args.flat.now c.args.budget (g.L.Log.state c.args.log.now) c.ended.result.solved bound (g.L.Log.state c.proceed.new.log)) (sym c.ended.ensures.bound)
          ((c.in-Ended.ensures.step c.args.flat.now c.args.budget (g.L.Log.state c.args.log.now) c.turns.invariant.going few).1 c.ended.result.solved c.ended.ensures.solved);
      kept = ended_keeps c.args.flat.now c.proceed.new.search.best c.ended.result.solved (g.L.Log.state c.args.log.now) (g.L.Log.state c.proceed.new.log) c.ended.ensures.solved (c.in-Ended.ensures.kept ∙ c.turns.invariant.faults);
      same_reference = c.in-Ended.ensures.same_reference ∙ c.turns.invariant.same;
    }

pub returns-in-NoMemory : goal.returns-in-NoMemory
returns-in-NoMemory g c =
    let few : c.turns.search.lemmas + 1 ≤ c.args.budget = omega (arith, c.turns-test.true, c.lemmas.ensures.value) in
    record {
      proves = proves_as c.args.flat.now c.args.budget (g.L.Log.state c.args.log.now) (g.L.Log.state c.proceed.new.log) c.out_of_memory.result _ c.out_of_memory.ensures (c.in-NoMemory.ensures.step c.args.flat.now c.args.budget (g.L.Log.state c.args.log.now) c.turns.invariant.going few);
      kept = keeps_as (g.L.Log.state c.args.log.now) (g.L.Log.state c.proceed.new.log) c.out_of_memory.result _ c.out_of_memory.ensures (c.in-NoMemory.ensures.kept ∙ c.turns.invariant.faults);
      same_reference = c.in-NoMemory.ensures.same_reference ∙ c.turns.invariant.same;
    }

pub returns-in-LogFailed : goal.returns-in-LogFailed
returns-in-LogFailed g c =
    let few : c.turns.search.lemmas + 1 ≤ c.args.budget = omega (arith, c.turns-test.true, c.lemmas.ensures.value) in
    record {
      proves = proves_as c.args.flat.now c.args.budget (g.L.Log.state c.args.log.now) (g.L.Log.state c.proceed.new.log) c.log_failed.result _ c.log_failed.ensures (c.in-LogFailed.ensures.step c.args.flat.now c.args.budget (g.L.Log.state c.args.log.now) c.turns.invariant.going few);
      kept = keeps_as (g.L.Log.state c.args.log.now) (g.L.Log.state c.proceed.new.log) c.log_failed.result _ c.log_failed.ensures tt;
      same_reference = c.in-LogFailed.ensures.same_reference ∙ c.turns.invariant.same;
    }

pub returns-in-GoesOn-look : goal.returns-in-GoesOn-look
returns-in-GoesOn-look g c =
    let few : c.turns.search.lemmas + 0 ≤ c.args.budget = omega (arith, c.turns.invariant.going.within) in
    let on = c.in-GoesOn-look.ensures.step c.args.flat.now c.args.budget (g.L.Log.state c.args.log.now) c.turns.invariant.going few in
    record {
      proves = proves_as c.args.flat.now c.args.budget (g.L.Log.state c.args.log.now) (g.L.Log.state c.look.new.log) c.unfinished.result _ c.unfinished.ensures ((ends c.args.flat.now c.args.budget c.look.new.search (g.L.Log.state c.args.log.now) (g.L.Log.state c.look.new.log) on.kept on.going).spent (omega (arith, c.turns-test.false, c.lemmas.ensures.value, c.in-GoesOn-look.ensures.looked.1)) c.in-GoesOn-look.ensures.looked.0);
      kept = keeps_as (g.L.Log.state c.args.log.now) (g.L.Log.state c.look.new.log) c.unfinished.result _ c.unfinished.ensures (c.in-GoesOn-look.ensures.kept ∙ c.turns.invariant.faults);
      same_reference = c.look.ensures.same_reference ∙ c.turns.invariant.same;
    }

pub returns-in-Ended-look : goal.returns-in-Ended-look
returns-in-Ended-look g c =
    let few : c.turns.search.lemmas + 0 ≤ c.args.budget = omega (arith, c.turns.invariant.going.within) in
    record {
      proves = subst (λ (bound : Option ℕ). ProveMeets c.args.flat.now c.args.budget (g.L.Log.state c.args.log.now) c.ended-in-Ended-look.result.solved bound (g.L.Log.state c.look.new.log)) (sym c.ended-in-Ended-look.ensures.bound)
          ((c.in-Ended-look.ensures.step c.args.flat.now c.args.budget (g.L.Log.state c.args.log.now) c.turns.invariant.going few).1 c.ended-in-Ended-look.result.solved c.ended-in-Ended-look.ensures.solved);
      kept = ended_keeps c.args.flat.now c.look.new.search.best c.ended-in-Ended-look.result.solved (g.L.Log.state c.args.log.now) (g.L.Log.state c.look.new.log) c.ended-in-Ended-look.ensures.solved (c.in-Ended-look.ensures.kept ∙ c.turns.invariant.faults);
      same_reference = c.look.ensures.same_reference ∙ c.turns.invariant.same;
    }

pub returns-in-NoMemory-look : goal.returns-in-NoMemory-look
returns-in-NoMemory-look g c =
    let few : c.turns.search.lemmas + 0 ≤ c.args.budget = omega (arith, c.turns.invariant.going.within) in
    record {
      proves = proves_as c.args.flat.now c.args.budget (g.L.Log.state c.args.log.now) (g.L.Log.state c.look.new.log) c.out_of_memory-in-NoMemory-look.result _ c.out_of_memory-in-NoMemory-look.ensures (c.in-NoMemory-look.ensures.step c.args.flat.now c.args.budget (g.L.Log.state c.args.log.now) c.turns.invariant.going few);
      kept = keeps_as (g.L.Log.state c.args.log.now) (g.L.Log.state c.look.new.log) c.out_of_memory-in-NoMemory-look.result _ c.out_of_memory-in-NoMemory-look.ensures (c.in-NoMemory-look.ensures.kept ∙ c.turns.invariant.faults);
      same_reference = c.look.ensures.same_reference ∙ c.turns.invariant.same;
    }

pub returns-in-LogFailed-look : goal.returns-in-LogFailed-look
returns-in-LogFailed-look g c =
    let few : c.turns.search.lemmas + 0 ≤ c.args.budget = omega (arith, c.turns.invariant.going.within) in
    record {
      proves = proves_as c.args.flat.now c.args.budget (g.L.Log.state c.args.log.now) (g.L.Log.state c.look.new.log) c.log_failed-in-LogFailed-look.result _ c.log_failed-in-LogFailed-look.ensures (c.in-LogFailed-look.ensures.step c.args.flat.now c.args.budget (g.L.Log.state c.args.log.now) c.turns.invariant.going few);
      kept = keeps_as (g.L.Log.state c.args.log.now) (g.L.Log.state c.look.new.log) c.log_failed-in-LogFailed-look.result _ c.log_failed-in-LogFailed-look.ensures tt;
      same_reference = c.look.ensures.same_reference ∙ c.turns.invariant.same;
    }

pub ended-requires : goal.ended-requires
ended-requires g c =
    let few : c.turns.search.lemmas + 1 ≤ c.args.budget = omega (arith, c.turns-test.true, c.lemmas.ensures.value) in
    record { permitted = (c.in-Ended.ensures.step c.args.flat.now c.args.budget (g.L.Log.state c.args.log.now) c.turns.invariant.going few).0 }

pub ended-requires-in-Ended-look : goal.ended-requires-in-Ended-look
ended-requires-in-Ended-look g c =
    let few : c.turns.search.lemmas + 0 ≤ c.args.budget = omega (arith, c.turns.invariant.going.within) in
    record { permitted = (c.in-Ended-look.ensures.step c.args.flat.now c.args.budget (g.L.Log.state c.args.log.now) c.turns.invariant.going few).0 }
