use Rattle.std.proofs.Common.{sym}
use Rattle.hw_search_ledger.proofs.Dropping.{none_stored, some_stored}
use Rattle.hw_search_ledger.proofs.dropped.is_stored.Goals as goal

pub returns-in-None : goal.returns-in-None
returns-in-None g c = record { value = sym (none_stored (g.S.Store.clauses c.args.store.now) c.args.number c.in-None.ensures.tells) }

pub returns-in-Some : goal.returns-in-Some
returns-in-Some g c = record { value = sym (some_stored (g.S.Store.clauses c.args.store.now) c.args.number _ c.in-Some.ensures.tells.0) }
