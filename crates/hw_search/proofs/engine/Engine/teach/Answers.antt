use Rattle.std.proofs.Common.{refl, subst}
use Rattle.hw_cert.specs.declared.log.LogStop.TheVariants as stops
use Rattle.hw_search_laws.specs.declared.outcome.Turn.TheVariants as turns
use Rattle.hw_search_laws.specs.Searches.{IsSearch}
use Rattle.hw_search.specs.Engines.{EngineModel}
use Rattle.hw_search.specs.Turning.{Teaches, halted}
use Rattle.hw_search.proofs.Answering.{stopped_early}
use Rattle.hw_search.proofs.Ending.{turned}
use Rattle.hw_search.proofs.Faults.{stop_keeps}
use Rattle.hw_search.proofs.Lessons.{teaches}
use Rattle.hw_search.proofs.engine.Engine.teach.Goals as goal

pub write_learnt-requires-clause-teaches : goal.write_learnt-requires-clause-teaches
write_learnt-requires-clause-teaches g c =
    let learnt = c.in-Ok.learnt in
    subst (λ (e : EngineModel). Teaches e.search c.args.why.now learnt.lemma learnt.back learnt.places.items) c.self.view_is
    (teaches _ _ c.args.why.now c.clause_of.result.now learnt.lemma learnt.back learnt.places.items learnt.places.items c.self.view_is c.self.invariant.0.search c.requires.going c.requires.conflict c.requires.some c.clause_of.ensures.value refl c.in-Ok.ensures.learnt)

pub returns-in-Err-clause-turns : goal.returns-in-Err-clause-turns
returns-in-Err-clause-turns g c = λ s b settles.
    let s0 = c.args.self.now.search in
    let log = g.L.Log.state c.args.log.now in
    let is : IsSearch s0 = subst (λ (e : EngineModel). IsSearch e.search) c.self.view_is c.self.invariant.0.search in
    turned s log log turns.NoMemory c.halt.result (halted s0 s0.written s0.clause_lines) c.halt.new.self.search c.halt.ensures.value c.halt.ensures.search (stopped_early s s0 s0.written s0.clause_lines log b settles.implies is)

pub returns-in-Err-clause-kept : goal.returns-in-Err-clause-kept
returns-in-Err-clause-kept g c = stop_keeps stops.NoMemory c.halt.result (g.L.Log.state c.args.log.now) (g.L.Log.state c.args.log.now) (g.L.Log.state c.args.log.now) c.halt.ensures.value refl refl
