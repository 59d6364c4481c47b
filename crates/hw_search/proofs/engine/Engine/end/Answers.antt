use Rattle.std.proofs.Common.{refl, ap}
use Rattle.hw_search_laws.specs.declared.outcome.Turn.TheVariants as turns
use Rattle.hw_search.specs.Engines.{EngineModel}
use Rattle.hw_search.specs.Turning.{turn_of, halted}
use Rattle.hw_search.proofs.Ending.{turned, ends, ends_stopped}
use Rattle.hw_search.proofs.Faults.{stop_keeps}
use Rattle.hw_search.proofs.engine.Engine.end.Goals as goal

pub returns-in-Ok-clause-turns : goal.returns-in-Ok-clause-turns
returns-in-Ok-clause-turns g c = λ s b settles.
    let s0 = c.args.self.now.search in
    turned s (g.L.Log.state c.args.log.now) (g.L.Log.state c.hand_why.new.log) turns.Ended turns.Ended (halted s0 s0.written s0.clause_lines) c.finish.new.self.search refl c.finish.ensures.search
    (ends s s0 c.args.why.now c.self.inside.flat.now s0.written s0.clause_lines (g.L.Log.state c.args.log.now) (g.L.Log.state c.hand_why.new.log) b c.requires.none settles (ap (λ (e : EngineModel). e.search.problem) c.self.view_is) c.in-Ok.ensures.hands)

pub returns-in-Err-clause-turns : goal.returns-in-Err-clause-turns
returns-in-Err-clause-turns g c = λ s b settles.
    let s0 = c.args.self.now.search in
    turned s (g.L.Log.state c.args.log.now) (g.L.Log.state c.hand_why.new.log) (turn_of c.in-Err.stop) c.halt.result (halted s0 s0.written s0.clause_lines) c.halt.new.self.search c.halt.ensures.value c.halt.ensures.search
    (ends_stopped s s0 c.args.why.now c.self.inside.flat.now s0.written s0.clause_lines c.in-Err.stop (g.L.Log.state c.args.log.now) (g.L.Log.state c.hand_why.new.log) b c.requires.none settles (ap (λ (e : EngineModel). e.search.problem) c.self.view_is) c.in-Err.ensures.stops)

pub returns-in-Ok-clause-kept : goal.returns-in-Ok-clause-kept
returns-in-Ok-clause-kept g c = c.in-Ok.ensures.hands.faults

pub returns-in-Err-clause-kept : goal.returns-in-Err-clause-kept
returns-in-Err-clause-kept g c = stop_keeps c.in-Err.stop c.halt.result (g.L.Log.state c.args.log.now) (g.L.Log.state c.args.log.now) (g.L.Log.state c.hand_why.new.log) c.halt.ensures.value refl c.in-Err.ensures.stops.cause
