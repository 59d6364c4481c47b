use Rattle.std.proofs.Common.{◌≡◌, arith}
use Rattle.hw_search_advised.specs.declared.stepping.Step.TheVariants as steps
use Rattle.hw_search_advised.proofs.Stepped.{few_here, after_step, wider, kept_on}
use Rattle.hw_search_advised.proofs.stepping.proceed.Goals as goal

pub take_turn-requires-clause-few : goal.take_turn-requires-clause-few
take_turn-requires-clause-few g c =
    let s = c.args.search.now in
    let here = g.L.Log.state c.args.log.now in
    let a = c.in-GoesOn.ensures.step s.problem 100000 here c.requires.goes.going (few_here s here c.requires.goes) in
    omega (arith, a.few, c.requires.few)

pub returns-in-GoesOn-clause-step : goal.returns-in-GoesOn-clause-step
returns-in-GoesOn-clause-step g c = after_step 1 c.args.search.now c.ask_table.new.search c.take_turn.new.search (g.L.Log.state c.args.log.now) (g.L.Log.state c.ask_table.new.log) (g.L.Log.state c.take_turn.new.log) c.take_turn.result c.in-GoesOn.ensures.step c.take_turn.ensures.step

pub returns-in-GoesOn-clause-kept : goal.returns-in-GoesOn-clause-kept
returns-in-GoesOn-clause-kept g c = kept_on c.take_turn.result (g.L.Log.state c.args.log.now) (g.L.Log.state c.ask_table.new.log) (g.L.Log.state c.take_turn.new.log) c.in-GoesOn.ensures.kept c.take_turn.ensures.kept

ended_no : steps.Ended ≡ steps.GoesOn → ⊥
ended_no e = cc

memory_no : steps.NoMemory ≡ steps.GoesOn → ⊥
memory_no e = cc

failed_no : steps.LogFailed ≡ steps.GoesOn → ⊥
failed_no e = cc

pub returns-in-Ended-clause-step : goal.returns-in-Ended-clause-step
returns-in-Ended-clause-step g c = wider c.args.search.now c.ask_table.new.search (g.L.Log.state c.args.log.now) (g.L.Log.state c.ask_table.new.log) steps.Ended ended_no c.in-Ended.ensures.step

pub returns-in-NoMemory-clause-step : goal.returns-in-NoMemory-clause-step
returns-in-NoMemory-clause-step g c = wider c.args.search.now c.ask_table.new.search (g.L.Log.state c.args.log.now) (g.L.Log.state c.ask_table.new.log) steps.NoMemory memory_no c.in-NoMemory.ensures.step

pub returns-in-LogFailed-clause-step : goal.returns-in-LogFailed-clause-step
returns-in-LogFailed-clause-step g c = wider c.args.search.now c.ask_table.new.search (g.L.Log.state c.args.log.now) (g.L.Log.state c.ask_table.new.log) steps.LogFailed failed_no c.in-LogFailed.ensures.step
