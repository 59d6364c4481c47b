use Rattle.std.proofs.lemmas.Result.{err_from_is_err_and}
use Rattle.hw_search_advised.proofs.Heedings.{stops_on}
use Rattle.hw_search_advised.proofs.closing.close_reached.Goals as goal

pub returns-in_err-write_last-clause-closes : goal.returns-in_err-write_last-clause-closes
returns-in_err-write_last-clause-closes g c =
    let p = err_from_is_err_and c.from_residual-in_err-write_last.result c.from_residual-in_err-write_last.ensures.1 in
    let mid = c.return_to_bound.new.search in
    rw (p.1, p.2) (stops_on c.args.search.now mid mid c.in_err-write_last.field-0.0 (g.L.Log.state c.args.log.now) (g.L.Log.state c.return_to_bound.new.log) (g.L.Log.state c.write_last.new.log) c.in_ok-return_to_bound.ensures.heeds c.in_err-write_last.ensures.writes)
