use Rattle.std.proofs.Common.{◌≡◌, ◌⊎◌, ◌<◌, ℕ}
use Rattle.hw_model.specs.declared.order.Order.TheVariants.{Unset}
use Rattle.hw_model.specs.Rooms.{order_of}
use Rattle.hw_store.proofs.within.orders_within_of.Given as goal

abbrev pub invariant-loop-v : goal.invariant-loop-v
invariant-loop-v l = (v : ℕ) → v < l.v → (order_of l.outer v l.w ≡ Unset) ⊎ (order_of l.inner v l.w ≡ order_of l.outer v l.w)
