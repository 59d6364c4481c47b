use Rattle.std.proofs.Common.{◌≡◌, ◌⊎◌, ◌<◌, ℕ}
use Rattle.hw_model.specs.declared.order.Order.TheVariants.{Unset}
use Rattle.hw_model.specs.Rooms.{order_of}
use Rattle.hw_store.proofs.within.orders_within.Given as goal

abbrev pub invariant-loop-w : goal.invariant-loop-w
invariant-loop-w l = (v w : ℕ) → v < w → w < l.w → (order_of l.outer v w ≡ Unset) ⊎ (order_of l.inner v w ≡ order_of l.outer v w)
