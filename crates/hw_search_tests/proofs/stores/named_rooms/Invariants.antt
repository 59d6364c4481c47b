use Rattle.std.proofs.Common.{◌≡◌, ◌<◌, ◌+◌, All}
use Rattle.hw_store.specs.declared.store.Stored.{Stored}
use Rattle.hw_search_tests.proofs.stores.named_rooms.Given as goal

abbrev pub invariant-loop-at : goal.invariant-loop-at
invariant-loop-at g l = (g.S.Store.ships l.store ≡ l.flat.ships) × (g.S.Store.ships l.store ≡ l.room.ships) × g.S.Store.ready l.store l.room × All (λ (one : Stored). one.number < l.at + 1) (g.S.Store.clauses l.store)
