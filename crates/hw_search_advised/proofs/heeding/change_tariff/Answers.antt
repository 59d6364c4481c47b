use Rattle.std.proofs.Common.{◌≡◌, sym, subst}
use Rattle.std.specs.Prelude.{OnOk}
use Rattle.hw_search_laws.specs.Searches.{IsSearch}
use Rattle.hw_search_laws.proofs.Heeded.{heeds_none}
use Rattle.hw_search.specs.Pricing.{with_other_prices}
use Rattle.hw_search_advised.specs.Heeding.{with_given}
use Rattle.hw_search_advised.proofs.heeding.change_tariff.Goals as goal

pub returns-in-None-clause-heeds : goal.returns-in-None-clause-heeds
returns-in-None-clause-heeds g c =
    let s = c.args.search.now in
    let is : IsSearch s = c.lemmas-lemmas.ensures.search in
    heeds_none s (g.L.Log.state c.args.log.now) is c.requires.fits

pub returns-in-Some-clause-search : goal.returns-in-Some-clause-search
returns-in-Some-clause-search g c =
    let s = c.args.search.now in
    subst (λ o. OnOk c.put_in_force.result (c.put_in_force.new.self ≡ with_other_prices s (with_given s.prices o))) (sym c.in-Some.is) c.put_in_force.ensures.search
