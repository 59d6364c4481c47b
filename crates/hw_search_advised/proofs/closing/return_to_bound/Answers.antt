use Rattle.std.proofs.Common.{◌≡◌, None, Some, sym, ap, ◌∙◌, subst}
use Rattle.std.specs.Option.{option_copied}
use Rattle.std.proofs.lemmas.Result.{err_from_is_err_and}
use Rattle.hw_search_laws.specs.Searches.{IsSearch}
use Rattle.hw_search_laws.proofs.Heeded.{heeds_none}
use Rattle.hw_search.specs.Pricing.{HeedStops}
use Rattle.hw_search.proofs.Advice.{memory_stops}
use Rattle.hw_search_advised.proofs.Closings.{none_older, older_meets}
use Rattle.hw_search_advised.proofs.closing.return_to_bound.Goals as goal

pub returns-in-None-clause-shows : goal.returns-in-None-clause-shows
returns-in-None-clause-shows g c =
    let s = c.args.search.now in
    let is : IsSearch s = c.older_tariff.ensures.search in
    let older : s.prices.older ≡ None = sym c.older_tariff.ensures.value ∙ ap option_copied c.in-None.is in
    none_older s is c.requires.reached older

pub returns-in-None-clause-heeds : goal.returns-in-None-clause-heeds
returns-in-None-clause-heeds g c =
    let s = c.args.search.now in
    let is : IsSearch s = c.older_tariff.ensures.search in
    heeds_none s (g.L.Log.state c.args.log.now) is c.requires.fits

pub returns-in_err-tariff-in-Some-clause-heeds : goal.returns-in_err-tariff-in-Some-clause-heeds
returns-in_err-tariff-in-Some-clause-heeds g c =
    let p = err_from_is_err_and c.from_residual.result c.from_residual.ensures.1 in
    let s = c.args.search.now in
    let log = g.L.Log.state c.args.log.now in
    let is : IsSearch s = c.older_tariff.ensures.search in
    rw (p.1, p.2) (subst (λ stop. HeedStops s s log stop log) (sym c.in_err-tariff-in-Some.ensures.stop) (memory_stops s log is c.requires.fits))

pub returns-in_ok-tariff-in-Some-clause-shows : goal.returns-in_ok-tariff-in-Some-clause-shows
returns-in_ok-tariff-in-Some-clause-shows g c =
    let s = c.args.search.now in
    let older : s.prices.older ≡ Some c.in_ok-tariff-in-Some.tariff = sym c.older_tariff.ensures.value ∙ ap option_copied c.in-Some.is ∙ ap (λ t. Some t) (sym c.in_ok-tariff-in-Some.ensures.value) in
    older_meets s c.put_in_force.new.self c.in_ok-tariff-in-Some.tariff (g.L.Log.state c.args.log.now) (g.L.Log.state c.put_in_force.new.log) c.put_in_force.result c.requires.reached older c.put_in_force.ensures.search c.put_in_force.ensures.heeds
