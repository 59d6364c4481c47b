use Rattle.std.proofs.Common.{◌≡◌}
use Rattle.hw_search_tests.proofs.stores.rounds.Given as goal

abbrev pub invariant-loop-count : goal.invariant-loop-count
invariant-loop-count g l = (g.S.Store.ships l.store ≡ g.S.Store.ships l.fn.store) × (g.S.Store.ships l.store ≡ l.room.ships) × g.S.Store.ready l.store l.room × (g.S.Store.clauses l.store ≡ g.S.Store.clauses l.fn.store)
