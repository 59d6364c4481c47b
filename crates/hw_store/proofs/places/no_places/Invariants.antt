use Rattle.std.proofs.Common.{◌≡◌, All, length, List, ℕ, []}
use Rattle.hw_store.proofs.places.no_places.Given as goal

abbrev pub invariant-loop-count : goal.invariant-loop-count
invariant-loop-count l = (length l.all.items ≡ l._count) × All (λ (places : List ℕ). places ≡ []) l.all.items
