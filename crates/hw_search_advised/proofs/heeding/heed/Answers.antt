use Rattle.std.proofs.Common.{◌≡◌, sym, ap, ◌∙◌, subst}
use Rattle.std.proofs.lemmas.Result.{err_from_is_err_and}
use Rattle.hw_model.specs.Rooms.{RoomModel}
use Rattle.hw_lits.specs.Active.{IsActive}
use Rattle.hw_search_laws.specs.Searches.{SearchModel, room_in}
use Rattle.hw_search_laws.proofs.Heeded.{heeds_both}
use Rattle.hw_search_advised.proofs.Heedings.{stops_on, consult_on}
use Rattle.hw_search_advised.proofs.heeding.heed.Goals as goal

pub returns-in_err-change_tariff-clause-meets : goal.returns-in_err-change_tariff-clause-meets
returns-in_err-change_tariff-clause-meets g c =
    let p = err_from_is_err_and c.from_residual-in_err-change_tariff.result c.from_residual-in_err-change_tariff.ensures.1 in
    rw (p.1, p.2) (stops_on c.args.search.now c.declare_all.new.search c.change_tariff.new.search c.in_err-change_tariff.field-0.0 (g.L.Log.state c.args.log.now) (g.L.Log.state c.declare_all.new.log) (g.L.Log.state c.change_tariff.new.log) c.in_ok-declare_all.ensures.heeds c.in_err-change_tariff.ensures.heeds)

pub obey-requires-clause-active : goal.obey-requires-clause-active
obey-requires-clause-active g c =
    let same : room_in c.change_tariff.new.search ≡ room_in c.args.search.now = ap (λ (x : SearchModel). room_in x) c.in_ok-change_tariff.ensures.search ∙ ap (λ (x : SearchModel). room_in x) c.in_ok-declare_all.ensures.search in
    let P : RoomModel → Type 0 = IsActive c.args.advice.clause in
    subst P (sym same) c.requires.advice.active

pub returns-clause-meets : goal.returns-clause-meets
returns-clause-meets g c =
    let s = c.args.search.now in
    let old = g.L.Log.state c.args.log.now in
    let here = g.L.Log.state c.change_tariff.new.log in
    let a = heeds_both s c.declare_all.new.search c.change_tariff.new.search old (g.L.Log.state c.declare_all.new.log) here c.in_ok-declare_all.ensures.heeds c.in_ok-change_tariff.ensures.heeds in
    consult_on s c.change_tariff.new.search c.obey.new.search old here (g.L.Log.state c.obey.new.log) c.obey.result a c.obey.ensures.meets
