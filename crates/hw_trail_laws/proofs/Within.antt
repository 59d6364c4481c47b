-- A room inside another knows all that the other one knows.
use Rattle.std.proofs.Common.{◌≡◌, Bool, true, false, ap, ◌∙◌, arith, inl, inr, le_trans}
use Rattle.hw_model.specs.declared.lit.Lit.TheVariants.{AtOrAfter, Before, First, NotFirst}
use Rattle.hw_model.specs.declared.order.Order.{Order}
use Rattle.hw_model.specs.declared.order.Order.TheVariants as orders
use Rattle.hw_model.specs.Rooms.{RoomModel, RoomWithin, low_of, high_of}
use Rattle.hw_model.specs.RefutingComputed.{is_first, is_not_first}
use Rattle.hw_trail_laws.specs.Replays.{Narrower}
use Rattle.hw_trail_laws.specs.Knowing.{knows}
use Rattle.hw_trail_laws.proofs.Knowing.{after_true, after_from, before_true, before_from, pair_true, pair_from}

no_first : (o : Order) → is_first o ≡ true → o ≡ orders.Unset → ⊥
no_first o y e = clash (is_first o) y (ap is_first e)
  where
    clash : (b : Bool) → b ≡ true → b ≡ false → ⊥
    clash b y n = cc

no_not_first : (o : Order) → is_not_first o ≡ true → o ≡ orders.Unset → ⊥
no_not_first o y e = clash (is_not_first o) y (ap is_not_first e)
  where
    clash : (b : Bool) → b ≡ true → b ≡ false → ⊥
    clash b y n = cc

pub within_narrower : (inner outer : RoomModel) → inner.ships ≡ outer.ships → RoomWithin inner outer → Narrower (knows inner) (knows outer)
within_narrower inner outer ships h (AtOrAfter v k) y =
    let a = after_true outer.ships v k (low_of outer v) y in
    after_from inner.ships v k _ (omega (arith, a.0, ships)) (le_trans a.1 (h.lows v a.0))
within_narrower inner outer ships h (Before v k) y =
    let a = before_true outer.ships v k (high_of outer v) y in
    before_from inner.ships v k _ (omega (arith, a.0, ships)) (omega (arith, a.1, h.highs v a.0))
within_narrower inner outer ships h (First v w) y =
    let a = pair_true outer.ships v w _ y in
    elim (h.orders v w a.0 a.1) [
      | inl unset ↦ absurd (no_first _ a.2 unset)
      | inr same ↦ pair_from inner.ships v w _ a.0 (omega (arith, a.1, ships)) (ap is_first same ∙ a.2)
    ]
within_narrower inner outer ships h (NotFirst v w) y =
    let a = pair_true outer.ships v w _ y in
    elim (h.orders v w a.0 a.1) [
      | inl unset ↦ absurd (no_not_first _ a.2 unset)
      | inr same ↦ pair_from inner.ships v w _ a.0 (omega (arith, a.1, ships)) (ap is_not_first same ∙ a.2)
    ]
