use Rattle.std.proofs.Common.{◌≡◌, true, false, refl, subst, sym, ◌∙◌, ap}
use Rattle.hw_model.specs.Rooms.{IsPoint}
use Rattle.hw_search_laws.specs.declared.outcome.Settled.TheVariants.{Quiet}
use Rattle.hw_search_laws.specs.declared.outcome.Turn.TheVariants as turns
use Rattle.hw_search_laws.specs.Searches.{IsSearch, room_in}
use Rattle.hw_search_laws.specs.Settling.{Settles}
use Rattle.hw_search.specs.Engines.{EngineModel}
use Rattle.hw_search.specs.Turning.{TurnBegins, halted}
use Rattle.hw_search.proofs.Answering.{decides, decided_meets, stopped_early}
use Rattle.hw_search.proofs.Ending.{turned}
use Rattle.hw_search.proofs.engine.Engine.turn.Goals as goal

pub returns-then-is_point-clause-turns : goal.returns-then-is_point-clause-turns
returns-then-is_point-clause-turns g c =
    let s = c.args.self.now.search in
    let b : TurnBegins s (g.L.Log.state c.args.log.now) = record { kept = subst (λ (e : EngineModel). IsSearch e.search) c.self.view_is c.self.invariant.0.search; going = c.requires.going; few = c.requires.few; fits = c.requires.fits } in
    let mid = c.settle.new.self.search in
    c.improve.ensures.turns s b (subst (Settles s mid) c.in-Ok-Quiet.field-0-is c.in-Ok-Quiet.ensures.meets)

pub returns-else-is_point-clause-turns : goal.returns-else-is_point-clause-turns
returns-else-is_point-clause-turns g c =
    let s = c.args.self.now.search in
    let b : TurnBegins s (g.L.Log.state c.args.log.now) = record { kept = subst (λ (e : EngineModel). IsSearch e.search) c.self.view_is c.self.invariant.0.search; going = c.requires.going; few = c.requires.few; fits = c.requires.fits } in
    let mid = c.settle.new.self.search in
    let log = g.L.Log.state c.args.log.now in
    let settles : Settles s mid Quiet = subst (Settles s mid) c.in-Ok-Quiet.field-0-is c.in-Ok-Quiet.ensures.meets in
    let room : c.room.result.now ≡ room_in mid = c.room.ensures.value ∙ ap (λ (e : EngineModel). room_in e.search) c.self-in-Ok-Quiet.view_is in
    let wide : IsPoint (room_in mid) → ⊥ = λ p. let two : true ≡ false = sym (c.is_point.ensures.point.1 (subst IsPoint (sym room) p)) ∙ c.if-is_point.false in cc in
    let d = c.decide.ensures.decides in
    turned s log log turns.Decided turns.Decided (decides mid d.0) c.decide.new.self.search refl d.2 (decided_meets s mid d.0 log b settles wide d.1)

pub returns-in-Ok-Conflict-clause-turns : goal.returns-in-Ok-Conflict-clause-turns
returns-in-Ok-Conflict-clause-turns g c =
    let s = c.args.self.now.search in
    let b : TurnBegins s (g.L.Log.state c.args.log.now) = record { kept = subst (λ (e : EngineModel). IsSearch e.search) c.self.view_is c.self.invariant.0.search; going = c.requires.going; few = c.requires.few; fits = c.requires.fits } in
    let mid = c.settle.new.self.search in
    c.meet_conflict.ensures.turns s b (subst (Settles s mid) c.in-Ok-Conflict.field-0-is c.in-Ok-Conflict.ensures.meets)

pub returns-in-Err-clause-turns : goal.returns-in-Err-clause-turns
returns-in-Err-clause-turns g c =
    let s = c.args.self.now.search in
    let b : TurnBegins s (g.L.Log.state c.args.log.now) = record { kept = subst (λ (e : EngineModel). IsSearch e.search) c.self.view_is c.self.invariant.0.search; going = c.requires.going; few = c.requires.few; fits = c.requires.fits } in
    let mid = c.settle.new.self.search in
    let log = g.L.Log.state c.args.log.now in
    let is : IsSearch mid = subst (λ (e : EngineModel). IsSearch e.search) c.self-in-Err.view_is c.self-in-Err.invariant.0.search in
    turned s log log turns.NoMemory c.halt.result (halted mid mid.written mid.clause_lines) c.halt.new.self.search c.halt.ensures.value c.halt.ensures.search (stopped_early s mid mid.written mid.clause_lines log b c.in-Err.ensures.meets is)

pub returns-then-is_point-clause-kept : goal.returns-then-is_point-clause-kept
returns-then-is_point-clause-kept g c = c.improve.ensures.kept

pub returns-in-Ok-Conflict-clause-kept : goal.returns-in-Ok-Conflict-clause-kept
returns-in-Ok-Conflict-clause-kept g c = c.meet_conflict.ensures.kept
