-- What a room knows is what it makes True, and what it makes False is what it knows the negation of.
use Rattle.std.proofs.Common.{◌≡◌, Bool, true, false, cond, refl, sym, ◌∙◌, arith, inl, inr, nat_le, nat_lt}
use Rattle.std.proofs.lemmas.Bool.{and_parts, and_from, le-leb, lt-ltb, lt-leb, le-ltb, cases_Bool}
use Rattle.hw_lemmas.proofs.Truths.{clash}
use Rattle.hw_model.specs.declared.lit.Lit.{Lit}
use Rattle.hw_model.specs.declared.lit.Lit.TheVariants.{AtOrAfter, Before, First, NotFirst}
use Rattle.hw_model.specs.declared.lit.LitTruth.{LitTruth}
use Rattle.hw_model.specs.declared.lit.LitTruth.TheVariants.{True, False, Free}
use Rattle.hw_model.specs.declared.order.Order.{Order}
use Rattle.hw_model.specs.declared.order.Order.TheVariants as orders
use Rattle.hw_model.specs.Lits.{negation}
use Rattle.hw_model.specs.Rooms.{RoomModel, IsRoom, low_of, high_of, order_of}
use Rattle.hw_model.specs.Narrowing.{truth, first_truth, not_first_truth}
use Rattle.hw_model.specs.RefutingComputed.{is_first, is_not_first}
use Rattle.hw_model.specs.Lits.{IsLitOf}
use Rattle.hw_model_laws.proofs.Truths.{test_true, test_false}
use Rattle.hw_trail_laws.specs.Knowing.{knows}
use Rattle.hw_trail_laws.proofs.Knowing.{after_true, before_true, pair_true, pair_from, low_high}

first_is : (o : Order) → is_first o ≡ true → first_truth o ≡ True
first_is orders.Unset e = absurd cc
first_is orders.First e = refl
first_is orders.NotFirst e = absurd cc

is_first_of : (o : Order) → first_truth o ≡ True → is_first o ≡ true
is_first_of orders.Unset e = absurd cc
is_first_of orders.First e = refl
is_first_of orders.NotFirst e = absurd cc

first_isnt : (o : Order) → is_not_first o ≡ true → first_truth o ≡ False
first_isnt orders.Unset e = absurd cc
first_isnt orders.First e = absurd cc
first_isnt orders.NotFirst e = refl

isnt_first_of : (o : Order) → first_truth o ≡ False → is_not_first o ≡ true
isnt_first_of orders.Unset e = absurd cc
isnt_first_of orders.First e = absurd cc
isnt_first_of orders.NotFirst e = refl

not_first_is : (o : Order) → is_not_first o ≡ true → not_first_truth o ≡ True
not_first_is orders.Unset e = absurd cc
not_first_is orders.First e = absurd cc
not_first_is orders.NotFirst e = refl

is_not_first_of : (o : Order) → not_first_truth o ≡ True → is_not_first o ≡ true
is_not_first_of orders.Unset e = absurd cc
is_not_first_of orders.First e = absurd cc
is_not_first_of orders.NotFirst e = refl

not_first_isnt : (o : Order) → is_first o ≡ true → not_first_truth o ≡ False
not_first_isnt orders.Unset e = absurd cc
not_first_isnt orders.First e = refl
not_first_isnt orders.NotFirst e = absurd cc

isnt_not_first_of : (o : Order) → not_first_truth o ≡ False → is_first o ≡ true
isnt_not_first_of orders.Unset e = absurd cc
isnt_not_first_of orders.First e = refl
isnt_not_first_of orders.NotFirst e = absurd cc

-- the tests of a bound: the first decides True, the second False where the first fails
by_first : (a b : Bool) → a ≡ true → cond a True (cond b False Free) ≡ True
by_first true b e = refl
by_first false b e = absurd cc

by_second : (a b : Bool) → a ≡ false → b ≡ true → cond a True (cond b False Free) ≡ False
by_second true b e f = absurd cc
by_second false true e f = refl
by_second false false e f = absurd cc

pub known_true : (room : RoomModel) (lit : Lit) → knows room lit ≡ true → truth room lit ≡ True
known_true room (AtOrAfter v k) h = by_first _ _ (and_parts (nat_lt v room.ships) (nat_le k (low_of room v)) h).1
known_true room (Before v k) h = by_first _ _ (and_parts (nat_lt v room.ships) (nat_lt (high_of room v) k) h).1
known_true room (First v w) h = first_is (order_of room v w) (pair_true room.ships v w _ h).2
known_true room (NotFirst v w) h = not_first_is (order_of room v w) (pair_true room.ships v w _ h).2

pub true_known : (room : RoomModel) (lit : Lit) → IsLitOf room.ships lit → truth room lit ≡ True → knows room lit ≡ true
true_known room (AtOrAfter v k) f e = and_from _ _ (lt-ltb _ _ f.0) (test_true _ _ e)
true_known room (Before v k) f e = and_from _ _ (lt-ltb _ _ f.0) (test_true _ _ e)
true_known room (First v w) f e = pair_from room.ships v w _ f.0 f.1 (is_first_of (order_of room v w) e)
true_known room (NotFirst v w) f e = pair_from room.ships v w _ f.0 f.1 (is_not_first_of (order_of room v w) e)

pub known_false : (room : RoomModel) → IsRoom room → (lit : Lit) → knows room (negation lit) ≡ true → truth room lit ≡ False
known_false room i (AtOrAfter v k) h =
    let a = before_true room.ships v k (high_of room v) h in
    let le = low_high room i v a.0 in
    by_second _ _ (lt-leb _ _ (omega (arith, le, a.1))) (lt-ltb _ _ a.1)
known_false room i (Before v k) h =
    let a = after_true room.ships v k (low_of room v) h in
    let le = low_high room i v a.0 in
    by_second _ _ (le-ltb _ _ (omega (arith, le, a.1))) (le-leb _ _ a.1)
known_false room i (First v w) h = first_isnt (order_of room v w) (pair_true room.ships v w _ h).2
known_false room i (NotFirst v w) h = not_first_isnt (order_of room v w) (pair_true room.ships v w _ h).2

pub false_known : (room : RoomModel) (lit : Lit) → IsLitOf room.ships lit → truth room lit ≡ False → knows room (negation lit) ≡ true
false_known room (AtOrAfter v k) f e = and_from _ _ (lt-ltb _ _ f.0) (test_false _ _ e)
false_known room (Before v k) f e = and_from _ _ (lt-ltb _ _ f.0) (test_false _ _ e)
false_known room (First v w) f e = pair_from room.ships v w _ f.0 f.1 (isnt_first_of (order_of room v w) e)
false_known room (NotFirst v w) f e = pair_from room.ships v w _ f.0 f.1 (isnt_not_first_of (order_of room v w) e)

-- a free literal isn't known, nor is its negation
true_isnt_free : True ≡ Free → ⊥
true_isnt_free e = cc

false_isnt_free : False ≡ Free → ⊥
false_isnt_free e = cc

pub free_unknown : (room : RoomModel) → IsRoom room → (lit : Lit) → truth room lit ≡ Free → (knows room lit ≡ false) × (knows room (negation lit) ≡ false)
free_unknown room i lit e = (
  elim (cases_Bool (knows room lit)) [ inl y ↦ absurd (true_isnt_free (sym (known_true room lit y) ∙ e)) | inr n ↦ n ],
  elim (cases_Bool (knows room (negation lit))) [ inl y ↦ absurd (false_isnt_free (sym (known_false room i lit y) ∙ e)) | inr n ↦ n ],
)

pub unknown_free : (room : RoomModel) (lit : Lit) → IsLitOf room.ships lit → knows room lit ≡ false → knows room (negation lit) ≡ false → truth room lit ≡ Free
unknown_free room lit f y n = by (truth room lit) refl
  where
    by : (t : LitTruth) → truth room lit ≡ t → t ≡ Free
    by True e = absurd (clash _ (true_known room lit f e) y)
    by False e = absurd (clash _ (false_known room lit f e) n)
    by Free e = refl
