use Rattle.std.proofs.Common.{◌≡◌, ◌++◌, ℕ, not, filter, map, take}
use Rattle.std.specs.Prelude.{◌==◌}
use Rattle.std.specs.List.{list_any}
use Rattle.hw_store.specs.declared.store.Stored.{Stored}
use Rattle.hw_search_ledger.proofs.dropped.unkept_of.Given as goal

abbrev pub invariant-loop-number : goal.invariant-loop-number
invariant-loop-number g l = l.ids.items ≡ filter (λ (n : ℕ). not (list_any (λ (k : ℕ). k == n) (map (λ (one : Stored). one.number) (g.S.Store.clauses l.store) ++ l.earlier))) (take l.number-index l.numbers)
