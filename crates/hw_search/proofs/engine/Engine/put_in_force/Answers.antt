use Rattle.std.proofs.Common.{sym, subst}
use Rattle.std.proofs.lemmas.Result.{err_from_is_err_and}
use Rattle.hw_search_laws.specs.Searches.{SearchModel, IsSearch}
use Rattle.hw_search_laws.specs.Advised.{Heeds}
use Rattle.hw_search.specs.Engines.{EngineModel}
use Rattle.hw_search.proofs.Heard.{kept_prices, IsNewTariff, forced_is, forced_kept, forced_heeds, forced_stops}
use Rattle.hw_search.proofs.Kept.{of_view}
use Rattle.hw_search.proofs.engine.Engine.put_in_force.Goals as goal

pub invariant_of-self : goal.invariant_of-self
invariant_of-self g c =
    let of = of_view _ _ (λ (e : EngineModel). IsNewTariff e.search c.args.tariff) c.self.view_is (record { fits = c.requires.tariff; ascend = c.requires.ascend }) in (
      kept_prices _ _ _ _ _ _ c.self.invariant.0 (forced_kept _ _ c.args.tariff c.self.invariant.0.search of c.change_to.ensures.value),
      c.self.invariant.1,
      c.self.invariant.2,
      c.self.invariant.3,
    )

pub returns-in_err-hand_tariff-clause-heeds : goal.returns-in_err-hand_tariff-clause-heeds
returns-in_err-hand_tariff-clause-heeds g c =
    let p = err_from_is_err_and c.from_residual.result c.from_residual.ensures.1 in
    let s = c.args.self.now.search in
    let is : IsSearch s = subst (λ (e : EngineModel). IsSearch e.search) c.self.view_is c.self.invariant.0.search in
    let of : IsNewTariff s c.args.tariff = record { fits = c.requires.tariff; ascend = c.requires.ascend } in
    rw (p.1, p.2) (forced_stops s c.args.tariff c.in_err-hand_tariff.field-0.0 (g.L.Log.state c.args.log.now) (g.L.Log.state c.hand_tariff.new.log) is of c.requires.fits c.in_err-hand_tariff.ensures.stops)

pub returns-clause-heeds : goal.returns-clause-heeds
returns-clause-heeds g c =
    let s = c.args.self.now.search in
    let old = g.L.Log.state c.args.log.now in
    let new = g.L.Log.state c.hand_tariff.new.log in
    let is : IsSearch s = subst (λ (e : EngineModel). IsSearch e.search) c.self.view_is c.self.invariant.0.search in
    let of : IsNewTariff s c.args.tariff = record { fits = c.requires.tariff; ascend = c.requires.ascend } in
    subst (λ (x : SearchModel). Heeds s x old new) (sym (forced_is _ _ _ c.args.tariff c.self.view_is c.change_to.ensures.value)) (forced_heeds s c.args.tariff old new is of c.requires.fits c.in_ok-hand_tariff.ensures.takes)
