-- What refutes two ships, said of a room.
use Rattle.std.proofs.Common.{◌≡◌, ◌≢◌, ℕ, ◌+◌, ◌<◌, Bool, true, false, not, nat_le, nat_lt, ◌&&◌, ◌||◌, List, [], ◌∷◌, IsTrue, ◌↔◌, refl, sym, ap, ◌∙◌, arith, None}
use Rattle.std.proofs.lemmas.Int.{ints}
use Rattle.std.proofs.lemmas.Bool.{ltb-true, ltb-false, lt-ltb, le-ltb, leb-true, le-leb}
use Rattle.std.proofs.lemmas.Bool.Decides.{nat_tests}
use Rattle.hw_model.specs.declared.order.Order.{Order}
use Rattle.hw_model.specs.declared.order.Order.TheVariants.{Unset, First, NotFirst}
use Rattle.hw_model.specs.declared.rule.Hole.{Hole}
use Rattle.hw_model.specs.declared.rule.Rule.{Rule}
use Rattle.hw_model.specs.declared.rule.Rule.TheVariants.{Pair, After}
use Rattle.hw_model.specs.declared.source.Source.TheVariants as sources
use Rattle.hw_model.specs.Problem.{Problem, horizon}
use Rattle.hw_model.specs.Rules.{pair_holds}
use Rattle.hw_model.specs.Rooms.{RoomModel, agrees, order_of}
use Rattle.hw_model.specs.Refuting.{NoneMeets, fits_order}
use Rattle.hw_model.specs.RefutingComputed.{none_meets}
use Rattle.hw_model_laws.proofs.Tested.{tested, tests}
use Rattle.hw_rules.specs.declared.spacing.Freeing.TheVariants.{Either, Lesser, Greater}
use Rattle.hw_rules.specs.OneHole.{one_hole_by, one_hole}
use Rattle.hw_rules.specs.Differences.{HasSlots, Agrees, NonePasses, passes, clears, two_at, hole_above, hole_below}

agrees_from : (o : Order) (x y : ℕ) → agrees o x y ≡ true → Agrees o x y
agrees_from Unset x y e = tt
agrees_from First x y e = ltb-true x y e
agrees_from NotFirst x y e = leb-true y x e

from_agrees : (o : Order) (x y : ℕ) → Agrees o x y → agrees o x y ≡ true
from_agrees Unset x y h = refl
from_agrees First x y h = lt-ltb x y h
from_agrees NotFirst x y h = le-leb y x h

-- which of the two is the lesser decides what agrees with their order
fits_up : (room : RoomModel) (v w x y : ℕ) → v < w → fits_order room v w x y ≡ agrees (order_of room v w) x y
fits_up room v w x y lt = let t : nat_lt v w ≡ true = lt-ltb v w lt in rw t refl

fits_down : (room : RoomModel) (v w x y : ℕ) → w < v → fits_order room v w x y ≡ agrees (order_of room w v) y x
fits_down room v w x y lt = let t : nat_lt v w ≡ false = le-ltb v w (omega (arith, lt)) in rw t refl

-- a test of the two ships that is the rule at all their slots
pub meets_up : (f : Problem) (room : RoomModel) (rule : Rule) (v w : ℕ) (test : ℕ → ℕ → Bool) → v < w → HasSlots (two_at room v w) → ((x y : ℕ) → x < 1023 → y < 1023 → test x y ≡ pair_holds f rule x y) → (NonePasses test (two_at room v w) ↔ NoneMeets f room rule v w)
meets_up f room rule v w test lt slots same = (
  λ none x y hx hy fits.
      let a : agrees (order_of room v w) x y ≡ true = sym (fits_up room v w x y lt) ∙ fits in
      sym (same x y (omega (arith, hx.1, slots.few_v)) (omega (arith, hy.1, slots.few_w))) ∙ none x y (record { above_v = hx.0; below_v = hx.1; above_w = hy.0; below_w = hy.1; agrees = agrees_from (order_of room v w) x y a }),
  λ none x y i.
      same x y (omega (arith, i.below_v, slots.few_v)) (omega (arith, i.below_w, slots.few_w)) ∙ none x y (i.above_v, i.below_v) (i.above_w, i.below_w) (fits_up room v w x y lt ∙ from_agrees (order_of room v w) x y i.agrees),
)

pub meets_down : (f : Problem) (room : RoomModel) (rule : Rule) (v w : ℕ) (test : ℕ → ℕ → Bool) → w < v → HasSlots (two_at room w v) → ((x y : ℕ) → x < 1023 → y < 1023 → test y x ≡ pair_holds f rule x y) → (NonePasses test (two_at room w v) ↔ NoneMeets f room rule v w)
meets_down f room rule v w test lt slots same = (
  λ none x y hx hy fits.
      let a : agrees (order_of room w v) y x ≡ true = sym (fits_down room v w x y lt) ∙ fits in
      sym (same x y (omega (arith, hx.1, slots.few_w)) (omega (arith, hy.1, slots.few_v))) ∙ none y x (record { above_v = hy.0; below_v = hy.1; above_w = hx.0; below_w = hx.1; agrees = agrees_from (order_of room w v) y x a }),
  λ none y x i.
      same x y (omega (arith, i.below_w, slots.few_w)) (omega (arith, i.below_v, slots.few_v)) ∙ none x y (i.above_w, i.below_w) (i.above_v, i.below_v) (fits_down room v w x y lt ∙ from_agrees (order_of room w v) y x i.agrees),
)

-- a gap is a hole of differences
gap_up : (gap x y : ℕ) → x < 1023 → y < 1023 → clears (hole_above gap ∷ []) x y ≡ nat_le (x + gap) y
gap_up gap x y p q = grind (arith, ints)

gap_down : (gap x y : ℕ) → x < 1023 → y < 1023 → clears (hole_below gap ∷ []) y x ≡ nat_le (x + gap) y
gap_down gap x y p q = grind (arith, ints)

-- where the second ship sails, the first can't be in the last slot and have the gap
first_sails : (last gap x y : ℕ) → (nat_le last y || nat_le (x + gap) y) ≡ (nat_le last y || (not (nat_le last x) && nat_le (x + gap) y))
first_sails last gap x y = grind (arith, nat_tests)

pub above_holds : (f : Problem) (v w gap x y : ℕ) → x < 1023 → y < 1023 → passes (horizon f) Greater (hole_above gap ∷ []) x y ≡ pair_holds f (After v w gap) x y
above_holds f v w gap x y p q = ap (λ b. nat_le (horizon f) y || b) (gap_up gap x y p q) ∙ first_sails (horizon f) gap x y

pub below_holds : (f : Problem) (v w gap x y : ℕ) → x < 1023 → y < 1023 → passes (horizon f) Lesser (hole_below gap ∷ []) y x ≡ pair_holds f (After v w gap) x y
below_holds f v w gap x y p q = ap (λ b. nat_le (horizon f) y || b) (gap_down gap x y p q) ∙ first_sails (horizon f) gap x y

-- two tests of one fact are one
same_test : {P : Type 0} (a b : Bool) → (IsTrue a ↔ P) → (IsTrue b ↔ P) → a ≡ b
same_test true true p q = refl
same_test true false p q = absurd (let t : false ≡ true = q.1 (p.0 refl) in cc)
same_test false true p q = p.1 (q.0 refl)
same_test false false p q = refl

-- the tests of the two kinds of rule, from the law of refutation
pair_tested : (f : Problem) (room : RoomModel) (v w : ℕ) (holes : List Hole) → (IsTrue (none_meets f room (Pair v w holes) v w) ↔ NoneMeets f room (Pair v w holes) v w)
pair_tested f room v w holes = (tested (record f { rules = Pair v w holes ∷ [] }) (sources.Rule 0) None room, tests (record f { rules = Pair v w holes ∷ [] }) (sources.Rule 0) None room)

after_tested : (f : Problem) (room : RoomModel) (v w gap : ℕ) → (IsTrue (none_meets f room (After v w gap) v w) ↔ NoneMeets f room (After v w gap) v w)
after_tested f room v w gap = (tested (record f { rules = After v w gap ∷ [] }) (sources.Rule 0) None room, tests (record f { rules = After v w gap ∷ [] }) (sources.Rule 0) None room)

both_ways : {P Q : Type 0} (b : Bool) → (IsTrue b ↔ P) → (P ↔ Q) → (IsTrue b ↔ Q)
both_ways b p q = (λ t. q.0 (p.0 t), λ h. p.1 (q.1 h))

pub pair_answer : (f : Problem) (room : RoomModel) (v w : ℕ) (holes : List Hole) (b : Bool) → v < w → HasSlots (two_at room v w) → (IsTrue b ↔ NonePasses (passes (horizon f) Either holes) (two_at room v w)) → b ≡ none_meets f room (Pair v w holes) v w
pair_answer f room v w holes b lt slots is =
    same_test b _ (both_ways b is (meets_up f room (Pair v w holes) v w (passes (horizon f) Either holes) lt slots (λ x y p q. refl))) (pair_tested f room v w holes)

pub above_answer : (f : Problem) (room : RoomModel) (v w gap : ℕ) (b : Bool) → v < w → HasSlots (two_at room v w) → (IsTrue b ↔ NonePasses (passes (horizon f) Greater (hole_above gap ∷ [])) (two_at room v w)) → b ≡ none_meets f room (After v w gap) v w
above_answer f room v w gap b lt slots is =
    same_test b _ (both_ways b is (meets_up f room (After v w gap) v w _ lt slots (above_holds f v w gap))) (after_tested f room v w gap)

pub below_answer : (f : Problem) (room : RoomModel) (v w gap : ℕ) (b : Bool) → w < v → HasSlots (two_at room w v) → (IsTrue b ↔ NonePasses (passes (horizon f) Lesser (hole_below gap ∷ [])) (two_at room w v)) → b ≡ none_meets f room (After v w gap) v w
below_answer f room v w gap b lt slots is =
    same_test b _ (both_ways b is (meets_down f room (After v w gap) v w _ lt slots (below_holds f v w gap))) (after_tested f room v w gap)

-- by which ship is the lesser one
by_side : (f : Problem) (room : RoomModel) (v w gap : ℕ) (b t : Bool) → nat_lt v w ≡ t → v ≢ w → HasSlots (two_at room (one_hole_by t v w gap).lesser (one_hole_by t v w gap).greater) → (IsTrue b ↔ NonePasses (passes (horizon f) (one_hole_by t v w gap).freeing ((one_hole_by t v w gap).hole ∷ [])) (two_at room (one_hole_by t v w gap).lesser (one_hole_by t v w gap).greater)) → b ≡ none_meets f room (After v w gap) v w
by_side f room v w gap b true e apart slots is = above_answer f room v w gap b (ltb-true v w e) slots is
by_side f room v w gap b false e apart slots is =
    let less : w < v = grind (arith, ltb-false v w e, apart) in
    below_answer f room v w gap b less slots is

pub precedence_answer : (f : Problem) (room : RoomModel) (v w gap : ℕ) (b : Bool) → v ≢ w → HasSlots (two_at room (one_hole v w gap).lesser (one_hole v w gap).greater) → (IsTrue b ↔ NonePasses (passes (horizon f) (one_hole v w gap).freeing ((one_hole v w gap).hole ∷ [])) (two_at room (one_hole v w gap).lesser (one_hole v w gap).greater)) → b ≡ none_meets f room (After v w gap) v w
precedence_answer f room v w gap b apart slots is = by_side f room v w gap b (nat_lt v w) refl apart slots is
