use Rattle.std.proofs.lemmas.Result.{err_from_is_err_and}
use Rattle.hw_search_laws.proofs.Heeded.{heeds_both}
use Rattle.hw_search_advised.proofs.Heedings.{stops_on}
use Rattle.hw_search_advised.proofs.ToldBounds.{advice_shows, bounded}
use Rattle.hw_search_advised.proofs.bounding.take_bound.Goals as goal

pub returns-in_err-change_tariff-clause-heeds : goal.returns-in_err-change_tariff-clause-heeds
returns-in_err-change_tariff-clause-heeds g c =
    let p = err_from_is_err_and c.from_residual-in_err-change_tariff.result c.from_residual-in_err-change_tariff.ensures.1 in
    rw (p.1, p.2) (stops_on c.args.search.now c.declare_all.new.search c.change_tariff.new.search c.in_err-change_tariff.field-0.0 (g.L.Log.state c.args.log.now) (g.L.Log.state c.declare_all.new.log) (g.L.Log.state c.change_tariff.new.log) c.in_ok-declare_all.ensures.heeds c.in_err-change_tariff.ensures.heeds)

pub returns-in_err-tell_bound-clause-heeds : goal.returns-in_err-tell_bound-clause-heeds
returns-in_err-tell_bound-clause-heeds g c =
    let p = err_from_is_err_and c.from_residual-in_err-tell_bound.result c.from_residual-in_err-tell_bound.ensures.1 in
    let s = c.args.search.now in
    let mid = c.change_tariff.new.search in
    let old = g.L.Log.state c.args.log.now in
    let here = g.L.Log.state c.change_tariff.new.log in
    let a = heeds_both s c.declare_all.new.search mid old (g.L.Log.state c.declare_all.new.log) here c.in_ok-declare_all.ensures.heeds c.in_ok-change_tariff.ensures.heeds in
    rw (p.1, p.2) (stops_on s mid c.tell_bound.new.self c.in_err-tell_bound.field-0.0 old here (g.L.Log.state c.tell_bound.new.log) a c.in_err-tell_bound.ensures.tells)

pub returns-clause-heeds : goal.returns-clause-heeds
returns-clause-heeds g c =
    let s = c.args.search.now in
    let mid = c.change_tariff.new.search in
    let old = g.L.Log.state c.args.log.now in
    let here = g.L.Log.state c.change_tariff.new.log in
    let a = heeds_both s c.declare_all.new.search mid old (g.L.Log.state c.declare_all.new.log) here c.in_ok-declare_all.ensures.heeds c.in_ok-change_tariff.ensures.heeds in
    let shows = advice_shows s c.declare_all.new.search mid c.args.bounding.tolls.items c.args.bounding.tariff c.args.bounding.bound c.requires.advice c.in_ok-declare_all.ensures.search c.in_ok-change_tariff.ensures.search in
    bounded s mid c.tell_bound.new.self c.args.bounding.bound old here (g.L.Log.state c.tell_bound.new.log) c.requires.below shows a c.in_ok-tell_bound.ensures.tells
