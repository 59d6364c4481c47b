use Rattle.std.proofs.Common.{refl, arith, ◌≤◌, ◌+◌}
use Rattle.hw_search_laws.specs.declared.outcome.Turn.TheVariants as turns
use Rattle.hw_search_advised.proofs.Stepped.{fits_here, can_on, then_step, turn_on, turn_ends, turn_stops, turn_fails, kept_on}
use Rattle.hw_search_advised.proofs.stepping.take_turn.Goals as goal

pub turn-requires-clause-fits : goal.turn-requires-clause-fits
turn-requires-clause-fits g c = fits_here c.args.search.now (g.L.Log.state c.args.log.now) c.requires.goes

pub returns-in-Decided-clause-step : goal.returns-in-Decided-clause-step
returns-in-Decided-clause-step g c = turn_on turns.Decided c.args.search.now c.turn.new.self (g.L.Log.state c.args.log.now) (g.L.Log.state c.turn.new.log) refl c.in-Decided.ensures.turns

pub close-requires : goal.close-requires
close-requires g c =
    let s = c.args.search.now in
    let here = g.L.Log.state c.args.log.now in
    let few : s.lemmas + 1 ≤ 100000 = omega (arith, c.requires.few) in
    record { goes = can_on 1 s c.turn.new.self here (g.L.Log.state c.turn.new.log) c.requires.goes few (turn_on turns.Better s c.turn.new.self here (g.L.Log.state c.turn.new.log) refl c.in-Better.ensures.turns) }

pub returns-in-Better-clause-step : goal.returns-in-Better-clause-step
returns-in-Better-clause-step g c =
    let s = c.args.search.now in
    let here = g.L.Log.state c.args.log.now in
    let there = g.L.Log.state c.turn.new.log in
    then_step 1 s c.turn.new.self c.close.new.search here there (g.L.Log.state c.close.new.log) c.close.result (turn_on turns.Better s c.turn.new.self here there refl c.in-Better.ensures.turns) c.close.ensures.step

pub returns-in-Better-clause-kept : goal.returns-in-Better-clause-kept
returns-in-Better-clause-kept g c = kept_on c.close.result (g.L.Log.state c.args.log.now) (g.L.Log.state c.turn.new.log) (g.L.Log.state c.close.new.log) c.in-Better.ensures.kept c.close.ensures.kept

pub look-requires : goal.look-requires
look-requires g c =
    let s = c.args.search.now in
    let here = g.L.Log.state c.args.log.now in
    let few : s.lemmas + 1 ≤ 100000 = omega (arith, c.requires.few) in
    record { goes = can_on 1 s c.turn.new.self here (g.L.Log.state c.turn.new.log) c.requires.goes few (turn_on turns.Lemma s c.turn.new.self here (g.L.Log.state c.turn.new.log) refl c.in-Lemma.ensures.turns) }

pub returns-in-Lemma-clause-step : goal.returns-in-Lemma-clause-step
returns-in-Lemma-clause-step g c =
    let s = c.args.search.now in
    let here = g.L.Log.state c.args.log.now in
    let there = g.L.Log.state c.turn.new.log in
    then_step 1 s c.turn.new.self c.look.new.search here there (g.L.Log.state c.look.new.log) c.look.result (turn_on turns.Lemma s c.turn.new.self here there refl c.in-Lemma.ensures.turns) c.look.ensures.step

pub returns-in-Lemma-clause-kept : goal.returns-in-Lemma-clause-kept
returns-in-Lemma-clause-kept g c = kept_on c.look.result (g.L.Log.state c.args.log.now) (g.L.Log.state c.turn.new.log) (g.L.Log.state c.look.new.log) c.in-Lemma.ensures.kept c.look.ensures.kept

pub returns-in-Ended-clause-step : goal.returns-in-Ended-clause-step
returns-in-Ended-clause-step g c = turn_ends c.args.search.now c.turn.new.self (g.L.Log.state c.args.log.now) (g.L.Log.state c.turn.new.log) c.requires.goes.kept c.in-Ended.ensures.turns

pub returns-in-NoMemory-clause-step : goal.returns-in-NoMemory-clause-step
returns-in-NoMemory-clause-step g c = turn_stops c.args.search.now c.turn.new.self (g.L.Log.state c.args.log.now) (g.L.Log.state c.turn.new.log) c.requires.goes.kept c.in-NoMemory.ensures.turns

pub returns-in-LogFailed-clause-step : goal.returns-in-LogFailed-clause-step
returns-in-LogFailed-clause-step g c = turn_fails c.args.search.now c.turn.new.self (g.L.Log.state c.args.log.now) (g.L.Log.state c.turn.new.log) c.requires.goes.kept c.in-LogFailed.ensures.turns
