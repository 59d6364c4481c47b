use Rattle.hw_search_advised.proofs.Stepped.{fits_here, few_here, can_on, then_step, proposed_on, stays, stops, fails, kept_on}
use Rattle.hw_search_advised.proofs.stepping.ask_table.Goals as goal

pub propose-requires-clause-fits : goal.propose-requires-clause-fits
propose-requires-clause-fits g c = fits_here c.args.search.now (g.L.Log.state c.args.log.now) c.requires.goes

pub close-requires : goal.close-requires
close-requires g c =
    let s = c.args.search.now in
    let here = g.L.Log.state c.args.log.now in
    record { goes = can_on 0 s c.propose.new.self here (g.L.Log.state c.propose.new.log) c.requires.goes (few_here s here c.requires.goes) (proposed_on s c.propose.new.self here (g.L.Log.state c.propose.new.log) c.in-Better.ensures.proposes) }

pub returns-in-Better-clause-step : goal.returns-in-Better-clause-step
returns-in-Better-clause-step g c =
    let s = c.args.search.now in
    let here = g.L.Log.state c.args.log.now in
    let there = g.L.Log.state c.propose.new.log in
    then_step 0 s c.propose.new.self c.close.new.search here there (g.L.Log.state c.close.new.log) c.close.result (proposed_on s c.propose.new.self here there c.in-Better.ensures.proposes) c.close.ensures.step

pub returns-in-Better-clause-kept : goal.returns-in-Better-clause-kept
returns-in-Better-clause-kept g c = kept_on c.close.result (g.L.Log.state c.args.log.now) (g.L.Log.state c.propose.new.log) (g.L.Log.state c.close.new.log) c.in-Better.ensures.kept c.close.ensures.kept

pub returns-in-Same-clause-step : goal.returns-in-Same-clause-step
returns-in-Same-clause-step g c = stays c.args.search.now c.propose.new.self (g.L.Log.state c.args.log.now) (g.L.Log.state c.propose.new.log) c.requires.goes.kept c.in-Same.ensures.proposes.0 c.in-Same.ensures.proposes.1

pub returns-in-Same-clause-goes : goal.returns-in-Same-clause-goes
returns-in-Same-clause-goes g c = λ e.
    let s = c.args.search.now in
    let here = g.L.Log.state c.args.log.now in
    can_on 0 s c.propose.new.self here (g.L.Log.state c.propose.new.log) c.requires.goes (few_here s here c.requires.goes) (stays s c.propose.new.self here (g.L.Log.state c.propose.new.log) c.requires.goes.kept c.in-Same.ensures.proposes.0 c.in-Same.ensures.proposes.1)

pub returns-in-NoMemory-clause-step : goal.returns-in-NoMemory-clause-step
returns-in-NoMemory-clause-step g c = stops c.args.search.now c.propose.new.self (g.L.Log.state c.args.log.now) (g.L.Log.state c.propose.new.log) c.requires.goes.kept c.in-NoMemory.ensures.proposes

pub returns-in-LogFailed-clause-step : goal.returns-in-LogFailed-clause-step
returns-in-LogFailed-clause-step g c = fails c.args.search.now c.propose.new.self (g.L.Log.state c.args.log.now) (g.L.Log.state c.propose.new.log) c.requires.goes.kept c.in-LogFailed.ensures.proposes
