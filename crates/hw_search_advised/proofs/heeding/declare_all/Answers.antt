use Rattle.std.proofs.Common.{List, refl, rules, sym, ap, ◌∙◌, append-nil, map-id}
use Rattle.std.proofs.lemmas.Iterator.Consumers.{YieldsList-turn, YieldsList-end}
use Rattle.std.proofs.lemmas.Iterator.Adapters.{YieldsList-from_vec}
use Rattle.std.proofs.lemmas.Result.{err_from_is_err_and}
use Rattle.hw_price_laws.specs.declared.toll.Toll.{Toll}
use Rattle.hw_search_laws.specs.Searches.{IsSearch}
use Rattle.hw_search_laws.proofs.Heeded.{heeds_none, heeds_both}
use Rattle.hw_search.specs.Pricing.{with_other_prices}
use Rattle.hw_search_advised.specs.Heeding.{with_tolls}
use Rattle.hw_search_advised.proofs.Heedings.{heeds_fit, stops_on, next_toll, next_few, tolls_then}
use Rattle.hw_search_advised.proofs.heeding.declare_all.Goals as goal

pub loop-toll-init : goal.loop-toll-init
loop-toll-init g c =
    let s = c.args.search.now in
    let is : IsSearch s = c.lemmas-lemmas.ensures.search in
    record {
      search = ap (λ ts. with_other_prices s (record s.prices { tolls = ts })) (sym (append-nil s.prices.tolls));
      heeds = heeds_none s (g.L.Log.state c.args.log.now) is c.requires.fits;
      same_reference = refl;
    }

pub declare-requires-clause-toll : goal.declare-requires-clause-toll
declare-requires-clause-toll g c =
    let at = YieldsList-turn (YieldsList-from_vec {s = c.into_iter-toll-iterator.result} c.args.tolls.items (search rules) (search rules)) c.loop-toll.yielded c.loop-toll.toll-iterator c.loop-toll.yielded_by c.next.result c.next.new.self c.in-Some.toll c.in-Some.is c.next.ensures.steps in
    next_toll c.args.search.now c.loop-toll.search c.args.tolls.items c.loop-toll.yielded c.in-Some.toll c.loop-toll.invariant.search c.requires.tolls at

pub declare-requires-clause-few : goal.declare-requires-clause-few
declare-requires-clause-few g c =
    let at = YieldsList-turn (YieldsList-from_vec {s = c.into_iter-toll-iterator.result} c.args.tolls.items (search rules) (search rules)) c.loop-toll.yielded c.loop-toll.toll-iterator c.loop-toll.yielded_by c.next.result c.next.new.self c.in-Some.toll c.in-Some.is c.next.ensures.steps in
    next_few c.args.search.now c.loop-toll.search c.args.tolls.items c.loop-toll.yielded c.loop-toll.invariant.search c.requires.few at.0

pub declare-requires-clause-fits : goal.declare-requires-clause-fits
declare-requires-clause-fits g c = heeds_fit c.args.search.now c.loop-toll.search (g.L.Log.state c.args.log.now) (g.L.Log.state c.loop-toll.log) c.loop-toll.invariant.heeds

pub loop-toll-preserved : goal.loop-toll-preserved
loop-toll-preserved g c =
    let s = c.args.search.now in
    let mid = c.loop-toll.search in
    record {
      search = tolls_then s mid c.declare.new.self c.loop-toll.yielded c.in-Some.toll c.loop-toll.invariant.search c.in_ok-declare.ensures.search;
      heeds = heeds_both s mid c.declare.new.self (g.L.Log.state c.args.log.now) (g.L.Log.state c.loop-toll.log) (g.L.Log.state c.declare.new.log) c.loop-toll.invariant.heeds c.in_ok-declare.ensures.heeds;
      same_reference = c.in_ok-declare.ensures.same_reference ∙ c.loop-toll.invariant.same_reference;
    }

pub returns-in_err-declare-clause-heeds : goal.returns-in_err-declare-clause-heeds
returns-in_err-declare-clause-heeds g c =
    let p = err_from_is_err_and c.from_residual.result c.from_residual.ensures.1 in
    let s = c.args.search.now in
    rw (p.1, p.2) (stops_on s c.loop-toll.search c.declare.new.self c.in_err-declare.field-0.0 (g.L.Log.state c.args.log.now) (g.L.Log.state c.loop-toll.log) (g.L.Log.state c.declare.new.log) c.loop-toll.invariant.heeds c.in_err-declare.ensures.heeds)

pub returns-clause-search : goal.returns-clause-search
returns-clause-search g c =
    let s = c.args.search.now in
    let end = YieldsList-end (YieldsList-from_vec {s = c.into_iter-toll-iterator.result} c.args.tolls.items (search rules) (search rules)) c.loop-toll.yielded c.loop-toll.toll-iterator c.loop-toll.yielded_by c.next.result c.next.new.self c.in-None.is c.next.ensures.steps in
    c.loop-toll.invariant.search ∙ ap (λ (ts : List Toll). with_other_prices s (with_tolls s.prices ts)) (sym (map-id c.loop-toll.yielded) ∙ end.0)

pub returns-clause-heeds : goal.returns-clause-heeds
returns-clause-heeds g c = c.loop-toll.invariant.heeds
