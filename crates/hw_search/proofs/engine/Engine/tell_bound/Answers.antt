use Rattle.std.proofs.Common.{sym, subst}
use Rattle.std.proofs.lemmas.Result.{err_from_is_err_and}
use Rattle.hw_search_laws.specs.Searches.{SearchModel, IsSearch}
use Rattle.hw_search.specs.Engines.{EngineModel}
use Rattle.hw_search.specs.Pricing.{TellsBound}
use Rattle.hw_search.proofs.Heard.{IsNewBound, bound_is, bound_told, bound_stops, bound_kept, kept_prices}
use Rattle.hw_search.proofs.Kept.{of_view}
use Rattle.hw_search.proofs.engine.Engine.tell_bound.Goals as goal

pub invariant_of-self : goal.invariant_of-self
invariant_of-self g c =
    let of = of_view _ _ (λ (e : EngineModel). IsNewBound e.search c.args.bound) c.self.view_is (record { small = c.requires.small; below = c.requires.below; shows = c.requires.shows }) in (
      kept_prices _ _ _ _ _ _ c.self.invariant.0 (bound_kept _ _ c.args.bound c.self.invariant.0.search of c.lower_to.ensures.value),
      c.self.invariant.1,
      c.self.invariant.2,
      c.self.invariant.3,
    )

pub returns-in_err-hand_bound-clause-tells : goal.returns-in_err-hand_bound-clause-tells
returns-in_err-hand_bound-clause-tells g c =
    let p = err_from_is_err_and c.from_residual.result c.from_residual.ensures.1 in
    let s = c.args.self.now.search in
    let is : IsSearch s = subst (λ (e : EngineModel). IsSearch e.search) c.self.view_is c.self.invariant.0.search in
    let of : IsNewBound s c.args.bound = record { small = c.requires.small; below = c.requires.below; shows = c.requires.shows } in
    rw (p.1, p.2) (bound_stops s c.args.bound c.in_err-hand_bound.field-0.0 (g.L.Log.state c.args.log.now) (g.L.Log.state c.hand_bound.new.log) is of c.requires.fits c.in_err-hand_bound.ensures.stops)

pub returns-clause-tells : goal.returns-clause-tells
returns-clause-tells g c =
    let s = c.args.self.now.search in
    let old = g.L.Log.state c.args.log.now in
    let new = g.L.Log.state c.hand_bound.new.log in
    let is : IsSearch s = subst (λ (e : EngineModel). IsSearch e.search) c.self.view_is c.self.invariant.0.search in
    let of : IsNewBound s c.args.bound = record { small = c.requires.small; below = c.requires.below; shows = c.requires.shows } in
    subst (λ (x : SearchModel). TellsBound s c.args.bound x old new) (sym (bound_is _ _ _ c.args.bound c.self.view_is c.lower_to.ensures.value)) (bound_told s c.args.bound old new is of c.requires.fits c.in_ok-hand_bound.ensures.takes)
