use Rattle.hw_search_advised.proofs.Stepped.{fits_here, few_here, can_on, then_step, bounds_on, stops, fails, bound_lemmas, bound_faults, looked_on, kept_on}
use Rattle.hw_search_advised.proofs.stepping.look.Goals as goal

pub bound-requires-clause-fits : goal.bound-requires-clause-fits
bound-requires-clause-fits g c = fits_here c.args.search.now (g.L.Log.state c.args.log.now) c.requires.goes

pub close-requires : goal.close-requires
close-requires g c =
    let s = c.args.search.now in
    let here = g.L.Log.state c.args.log.now in
    record { goes = can_on 0 s c.bound.new.self here (g.L.Log.state c.bound.new.log) c.requires.goes (few_here s here c.requires.goes) (bounds_on c.bound.result s c.bound.new.self here (g.L.Log.state c.bound.new.log) c.in-Lower.is c.requires.goes.kept c.bound.ensures.bounds c.bound.ensures.kept) }

pub returns-in-Lower-clause-step : goal.returns-in-Lower-clause-step
returns-in-Lower-clause-step g c =
    let s = c.args.search.now in
    let here = g.L.Log.state c.args.log.now in
    let there = g.L.Log.state c.bound.new.log in
    then_step 0 s c.bound.new.self c.close.new.search here there (g.L.Log.state c.close.new.log) c.close.result (bounds_on c.bound.result s c.bound.new.self here there c.in-Lower.is c.requires.goes.kept c.bound.ensures.bounds c.bound.ensures.kept) c.close.ensures.step

pub returns-in-NoMemory-clause-step : goal.returns-in-NoMemory-clause-step
returns-in-NoMemory-clause-step g c = stops c.args.search.now c.bound.new.self (g.L.Log.state c.args.log.now) (g.L.Log.state c.bound.new.log) c.requires.goes.kept c.in-NoMemory.ensures.bounds

pub returns-in-LogFailed-clause-step : goal.returns-in-LogFailed-clause-step
returns-in-LogFailed-clause-step g c = fails c.args.search.now c.bound.new.self (g.L.Log.state c.args.log.now) (g.L.Log.state c.bound.new.log) c.requires.goes.kept c.in-LogFailed.ensures.bounds

pub returns-in-Lower-clause-looked : goal.returns-in-Lower-clause-looked
returns-in-Lower-clause-looked g c = looked_on c.close.result c.args.search.now c.bound.new.self c.close.new.search (bound_lemmas c.bound.result c.args.search.now c.bound.new.self (g.L.Log.state c.args.log.now) (g.L.Log.state c.bound.new.log) c.in-Lower.is c.bound.ensures.bounds) c.close.ensures.looked

pub returns-in-Lower-clause-kept : goal.returns-in-Lower-clause-kept
returns-in-Lower-clause-kept g c = kept_on c.close.result (g.L.Log.state c.args.log.now) (g.L.Log.state c.bound.new.log) (g.L.Log.state c.close.new.log) (bound_faults c.bound.result (g.L.Log.state c.args.log.now) (g.L.Log.state c.bound.new.log) c.in-Lower.is c.bound.ensures.kept) c.close.ensures.kept
