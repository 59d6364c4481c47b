use Rattle.std.proofs.Common.{true, List, ℕ, Some, refl, subst, ap, ◌∙◌}
use Rattle.hw_search_laws.specs.declared.outcome.Turn.TheVariants as turns
use Rattle.hw_search_laws.specs.Searches.{IsSearch}
use Rattle.hw_search.specs.Engines.{EngineModel}
use Rattle.hw_search.specs.Turning.{turn_of}
use Rattle.hw_search.proofs.Offering.{offered, offer_taken, offer_stopped}
use Rattle.hw_search.proofs.engine.Engine.offer.Goals as goal

pub returns-clause-offers : goal.returns-clause-offers
returns-clause-offers g c =
    let s0 = c.args.self.now.search in
    let row = c.args.table.now in
    let is : IsSearch s0 = subst (λ (e : EngineModel). IsSearch e.search) c.self.view_is c.self.invariant.0.search in
    offered s0 row (g.L.Log.state c.args.log.now) (g.L.Log.state c.hand_copy.new.log) turns.Better turns.Better (record s0 { best = Some row }) c.take_best.new.self.search refl (c.take_best.ensures.search ∙ ap (λ (xs : List ℕ). record s0 { best = Some xs }) c.in-Ok.ensures.value)
    (offer_taken s0 row (g.L.Log.state c.args.log.now) (g.L.Log.state c.hand_copy.new.log) is c.requires.permitted c.requires.better c.requires.fits c.in-Ok.ensures.takes)

pub returns-in-Err-clause-offers : goal.returns-in-Err-clause-offers
returns-in-Err-clause-offers g c =
    let s0 = c.args.self.now.search in
    let row = c.args.table.now in
    let is : IsSearch s0 = subst (λ (e : EngineModel). IsSearch e.search) c.self.view_is c.self.invariant.0.search in
    offered s0 row (g.L.Log.state c.args.log.now) (g.L.Log.state c.hand_copy.new.log) (turn_of c.in-Err.stop) c.halt.result (record s0 { over = true }) c.halt.new.self.search c.halt.ensures.value c.halt.ensures.search
    (offer_stopped s0 row c.in-Err.stop (g.L.Log.state c.args.log.now) (g.L.Log.state c.hand_copy.new.log) is c.requires.permitted c.requires.better c.requires.fits c.in-Err.ensures.stops)
