use Rattle.hw_search_advised.proofs.Stepped.{fits_here, few_here, can_on, stays, closes, stops, fails}
use Rattle.hw_search_advised.proofs.stepping.close.Goals as goal

pub close-requires-clause-fits : goal.close-requires-clause-fits
close-requires-clause-fits g c = fits_here c.args.search.now (g.L.Log.state c.args.log.now) c.requires.goes

pub returns-in-Open-clause-step : goal.returns-in-Open-clause-step
returns-in-Open-clause-step g c = stays c.args.search.now c.close.new.self (g.L.Log.state c.args.log.now) (g.L.Log.state c.close.new.log) c.requires.goes.kept c.in-Open.ensures.closes.0 c.in-Open.ensures.closes.1

pub returns-in-Open-clause-goes : goal.returns-in-Open-clause-goes
returns-in-Open-clause-goes g c = λ e.
    let s = c.args.search.now in
    let here = g.L.Log.state c.args.log.now in
    can_on 0 s c.close.new.self here (g.L.Log.state c.close.new.log) c.requires.goes (few_here s here c.requires.goes) (stays s c.close.new.self here (g.L.Log.state c.close.new.log) c.requires.goes.kept c.in-Open.ensures.closes.0 c.in-Open.ensures.closes.1)

pub returns-in-Ended-clause-step : goal.returns-in-Ended-clause-step
returns-in-Ended-clause-step g c = closes c.args.search.now c.close.new.self (g.L.Log.state c.args.log.now) (g.L.Log.state c.close.new.log) c.requires.goes.kept c.in-Ended.ensures.closes

pub returns-in-NoMemory-clause-step : goal.returns-in-NoMemory-clause-step
returns-in-NoMemory-clause-step g c = stops c.args.search.now c.close.new.self (g.L.Log.state c.args.log.now) (g.L.Log.state c.close.new.log) c.requires.goes.kept c.in-NoMemory.ensures.closes

pub returns-in-LogFailed-clause-step : goal.returns-in-LogFailed-clause-step
returns-in-LogFailed-clause-step g c = fails c.args.search.now c.close.new.self (g.L.Log.state c.args.log.now) (g.L.Log.state c.close.new.log) c.requires.goes.kept c.in-LogFailed.ensures.closes
