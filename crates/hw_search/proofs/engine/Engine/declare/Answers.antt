use Rattle.std.proofs.Common.{sym, subst}
use Rattle.std.proofs.lemmas.Result.{err_from_is_err_and}
use Rattle.hw_cert.specs.declared.log.LogStop.TheVariants as stops
use Rattle.hw_search_laws.specs.Searches.{SearchModel, IsSearch}
use Rattle.hw_search_laws.specs.Advised.{Heeds}
use Rattle.hw_search.specs.Engines.{EngineModel}
use Rattle.hw_search.specs.Pricing.{HeedStops}
use Rattle.hw_search.proofs.Advice.{memory_stops}
use Rattle.hw_search.proofs.Heard.{kept_prices, IsNewToll, declared_kept, held_is, declared_is, declared_heeds, declared_stops}
use Rattle.hw_search.proofs.Kept.{of_view}
use Rattle.hw_search.proofs.engine.Engine.declare.Goals as goal

pub invariant_of-self-2 : goal.invariant_of-self-2
invariant_of-self-2 g c =
    let of = of_view _ _ (λ (e : EngineModel). IsNewToll e.search c.args.toll) c.self.view_is (record { toll = c.requires.toll; few = c.requires.few }) in (
      kept_prices _ _ _ _ _ _ c.self.invariant.0 (declared_kept _ c.args.toll _ _ c.self.invariant.0.search of c.reserve.ensures.items c.push_reserved.ensures.items),
      c.self.invariant.1,
      c.self.invariant.2,
      c.self.invariant.3,
    )

pub returns-in_default-clause-heeds : goal.returns-in_default-clause-heeds
returns-in_default-clause-heeds g c =
    let s = c.args.self.now.search in
    let log = g.L.Log.state c.args.log.now in
    let is : IsSearch s = subst (λ (e : EngineModel). IsSearch e.search) c.self.view_is c.self.invariant.0.search in
    subst (λ (x : SearchModel). HeedStops s x log stops.NoMemory log) (sym (held_is _ _ _ c.self.view_is c.reserve.ensures.items)) (memory_stops s log is c.requires.fits)

pub returns-in_err-hand_toll-clause-heeds : goal.returns-in_err-hand_toll-clause-heeds
returns-in_err-hand_toll-clause-heeds g c =
    let p = err_from_is_err_and c.from_residual.result c.from_residual.ensures.1 in
    let s = c.args.self.now.search in
    let old = g.L.Log.state c.args.log.now in
    let new = g.L.Log.state c.hand_toll.new.log in
    let stop = c.in_err-hand_toll.field-0.0 in
    let is : IsSearch s = subst (λ (e : EngineModel). IsSearch e.search) c.self.view_is c.self.invariant.0.search in
    let of : IsNewToll s c.args.toll = record { toll = c.requires.toll; few = c.requires.few } in
    rw (p.1, p.2) (subst (λ (x : SearchModel). HeedStops s x old stop new) (sym (held_is _ _ _ c.self.view_is c.reserve.ensures.items)) (declared_stops s c.args.toll stop old new is of c.requires.fits c.in_err-hand_toll.ensures.stops))

pub returns-clause-heeds : goal.returns-clause-heeds
returns-clause-heeds g c =
    let s = c.args.self.now.search in
    let old = g.L.Log.state c.args.log.now in
    let new = g.L.Log.state c.hand_toll.new.log in
    let is : IsSearch s = subst (λ (e : EngineModel). IsSearch e.search) c.self.view_is c.self.invariant.0.search in
    let of : IsNewToll s c.args.toll = record { toll = c.requires.toll; few = c.requires.few } in
    subst (λ (x : SearchModel). Heeds s x old new) (sym (declared_is _ _ c.args.toll _ _ c.self.view_is c.reserve.ensures.items c.push_reserved.ensures.items)) (declared_heeds s c.args.toll old new is of c.requires.fits c.in_ok-hand_toll.ensures.takes)
