-- The literals that a room says, side by side, deny just the room.
use Rattle.std.proofs.Common.{◌≡◌, ◌≢◌, ◌⊎◌, ℕ, ◌+◌, ◌-◌, ◌<◌, ◌≤◌, min, max, Bool, true, false, not, cond, ◌==◌, ◌&&◌, nat_lt, nat_le, List, [], ◌∷◌, ◌++◌, Option, Some, None, All, length, get_or, refl, sym, ap, ◌∙◌, subst, arith, inl, inr}
use Rattle.std.proofs.lemmas.Bool.{and_from, or_left, or_right, ltb-true, ltb-false, lt-ltb, le-leb, eqb-true, cases_Bool, cases_eq, cases_lt}
use Rattle.std.proofs.lemmas.List.Elements.{All-push, All-weaker, All-head, All-tail, All-get_or, All-from_get_or}
use Rattle.hw_model.specs.declared.lit.Lit.{Lit}
use Rattle.hw_model.specs.declared.lit.Lit.TheVariants as lits
use Rattle.hw_model.specs.declared.order.Order.{Order}
use Rattle.hw_model.specs.declared.order.Order.TheVariants.{Unset, First, NotFirst}
use Rattle.hw_model.specs.declared.shape.Shape.{Shape}
use Rattle.hw_model.specs.Lits.{negation, lit_fits, place_of, is_earlier, leaves_some, may_follow, keeps_form, BadLit, first_bad_from, IsClause}
use Rattle.hw_model.specs.Rooms.{RoomModel, IsRoom, low_of, high_of, order_of, whole_room}
use Rattle.hw_model.specs.Narrowing.{cut, with_range, with_order, denied_from, denied}
use Rattle.hw_model.proofs.Kept.{with_order_no_pair}
use Rattle.hw_flat.specs.Opened.{shape_in}
use Rattle.hw_model_laws.proofs.Bounds.{low_new, high_new, low_other, high_other}
use Rattle.hw_model_laws.proofs.Cuts.{full_cut, same_ships}
use Rattle.hw_model_laws.proofs.Denials.{no_bad}
use Rattle.hw_model_laws.proofs.Places.{from_earlier, earlier_trans}
use Rattle.hw_model_laws.proofs.Ranges.{IsFull, new_order, other_order, cases_pair}
use Rattle.hw_model_laws.proofs.Same.{same_room}
use Rattle.hw_lits.specs.Said.{above_said, below_said, turned, turned_said, one_or_none}

-- ---- lists with one more literal

append_none : (xs : List Lit) → xs ++ [] ≡ xs
append_none [] = refl
append_none (x ∷ xs) = ap (λ ys. x ∷ ys) (append_none xs)

denied_more : (room : RoomModel) (clause : List Lit) (lit : Lit) → denied_from room (clause ++ lit ∷ []) ≡ cut (negation lit) (denied_from room clause)
denied_more room [] lit = refl
denied_more room (l ∷ clause) lit = denied_more (cut (negation l) room) clause lit

pub good_from : (a b : Bool) (x y : BadLit) (z : Option BadLit) → a ≡ true → b ≡ true → z ≡ None → cond (not a) (Some x) (cond (not b) (Some y) z) ≡ None
good_from true true x y z e f h = h
good_from true false x y z e f h = absurd cc
good_from false b x y z e f h = absurd cc

normal_more : (shape : Shape) (clause : List Lit) (place : ℕ) (before : Option Lit) (lit : Lit) → first_bad_from shape place before clause ≡ None → lit_fits shape lit ≡ true → keeps_form before lit ≡ true
    → All (λ l. may_follow l lit ≡ true) clause → first_bad_from shape place before (clause ++ lit ∷ []) ≡ None
normal_more shape [] place before lit e fits keeps all = good_from (lit_fits shape lit) (keeps_form before lit) _ _ _ fits keeps refl
normal_more shape (l ∷ clause) place before lit e fits keeps all =
    let good = no_bad (lit_fits shape l) (keeps_form before l) _ _ _ e in
    good_from (lit_fits shape l) (keeps_form before l) _ _ _ good.0 good.1
    (normal_more shape clause (place + 1) (Some l) lit good.2 fits (All-head (λ m. may_follow m lit ≡ true) l clause all) (All-tail (λ m. may_follow m lit ≡ true) l clause all))

-- ---- which literal may follow

follows : (p q : Lit) → is_earlier (place_of p) (place_of q) ≡ true → leaves_some p q ≡ true → may_follow p q ≡ true
follows p q e l = and_from (is_earlier (place_of p) (place_of q)) _ e l

by_lower : (l : Lit) (v k : ℕ) → leaves_some l (lits.AtOrAfter v k) ≡ true
by_lower (lits.AtOrAfter w j) v k = refl
by_lower (lits.Before w j) v k = refl
by_lower (lits.First w j) v k = refl
by_lower (lits.NotFirst w j) v k = refl

by_order : (l : Lit) (v w : ℕ) → (leaves_some l (lits.First v w) ≡ true) × (leaves_some l (lits.NotFirst v w) ≡ true)
by_order (lits.AtOrAfter a b) v w = (refl, refl)
by_order (lits.Before a b) v w = (refl, refl)
by_order (lits.First a b) v w = (refl, refl)
by_order (lits.NotFirst a b) v w = (refl, refl)

-- the room leaves the ship of a lower bound no slot from that bound on
abbrev AboveRoom : RoomModel → Lit → Type 0
AboveRoom room (lits.AtOrAfter v k) = k ≡ high_of room v + 1
AboveRoom room (lits.Before v k) = Unit {0}
AboveRoom room (lits.First v w) = Unit {0}
AboveRoom room (lits.NotFirst v w) = Unit {0}

by_upper : (room : RoomModel) (l : Lit) (v : ℕ) → low_of room v ≤ high_of room v → AboveRoom room l → leaves_some l (lits.Before v (low_of room v)) ≡ true
by_upper room (lits.AtOrAfter w k) v le above = elim (cases_Bool (w == v)) [
  | inl same ↦
      let e : high_of room w ≡ high_of room v = ap (high_of room) (eqb-true w v same) in
      or_right (not (w == v)) _ (lt-ltb _ _ (omega (arith, above, e, le)))
  | inr other ↦ or_left _ _ (ap not other)
]
by_upper room (lits.Before w k) v le above = refl
by_upper room (lits.First w k) v le above = refl
by_upper room (lits.NotFirst w k) v le above = refl

-- ---- what was said so far

-- the pair comes before another one, or from it on
abbrev Passed : ℕ → ℕ → ℕ → ℕ → Type 0
Passed a b v w = (a < v) ⊎ ((a ≡ v) × (b < w))

abbrev Open : ℕ → ℕ → ℕ → ℕ → Type 0
Open a b v w = (v < a) ⊎ ((a ≡ v) × (w ≤ b))

-- one end of the ranges: the room's for the ships before `count`, the first one for the others
pub record Ends (bound : RoomModel → ℕ → ℕ) (first : ℕ) (room left : RoomModel) (count : ℕ) : Type 0 where
  pub said : (s : ℕ) → s < room.ships → s < count → bound left s ≡ bound room s
  pub rest : (s : ℕ) → s < room.ships → count ≤ s → bound left s ≡ first

-- the orders: the room's for the pairs before (v, w), none for the others
pub record Pairs (room left : RoomModel) (v w : ℕ) : Type 0 where
  pub said : (a b : ℕ) → a < b → b < room.ships → Passed a b v w → order_of left a b ≡ order_of room a b
  pub rest : (a b : ℕ) → a < b → b < room.ships → Open a b v w → order_of left a b ≡ Unset

-- a clause in normal form whose denied room is this one
pub record Leaves (room left : RoomModel) (out : List Lit) : Type 0 where
  pub normal : IsClause (shape_in room) out
  pub above : All (AboveRoom room) out
  pub denies : denied (shape_in room) out ≡ left
  pub full : IsFull left
  pub ships : left.ships ≡ room.ships
  pub slots : left.slots ≡ room.slots
  pub no_pair : (a b : ℕ) → b ≤ a → a < room.ships → order_of left a b ≡ Unset

-- of the ships before `highs` the highest slots were said, of those before `lows` the lowest, and the orders of the pairs before (v, w);
-- what was said stands before a place of the normal form
pub record Said (room : RoomModel) (highs lows v w : ℕ) (place : ℕ × ℕ × ℕ) (out : List Lit) : Type 0 where
  pub before : All (λ l. is_earlier (place_of l) place ≡ true) out
  pub left : RoomModel
  pub leaves : Leaves room left out
  pub high : Ends high_of (room.slots - 1) room left highs
  pub low : Ends low_of 0 room left lows
  pub pairs : Pairs room left v w

-- what stands before a place stands before a later one
later : (p q : ℕ × ℕ × ℕ) (out : List Lit) → is_earlier p q ≡ true → All (λ l. is_earlier (place_of l) p ≡ true) out → All (λ l. is_earlier (place_of l) q ≡ true) out
later p q out lt all = All-weaker (λ l. is_earlier (place_of l) p ≡ true) (λ l. is_earlier (place_of l) q ≡ true) (λ l e. earlier_trans (place_of l) p q e lt) out all

-- a later place of one ship or of one row, and a place of the next one
up_in : (k v w x : ℕ) → w < x → is_earlier (k, v, w) (k, v, x) ≡ true
up_in k v w x lt = from_earlier (k, v, w) (k, v, x) (inr (refl, inr (refl, lt)))

up_past : (k v w : ℕ) → is_earlier (k, v, w) (k, v + 1, 0) ≡ true
up_past k v w = from_earlier (k, v, w) (k, v + 1, 0) (inr (refl, inl (omega arith)))

-- nothing is said, and the same room is seen from a later place
said_on : (p q : ℕ × ℕ × ℕ) {room : RoomModel} {h l v w h' l' v' w' : ℕ} {out : List Lit} → is_earlier p q ≡ true → (s : Said room h l v w p out)
    → Ends high_of (room.slots - 1) room s.left h' → Ends low_of 0 room s.left l' → Pairs room s.left v' w' → Said room h' l' v' w' q out
said_on p q up s high low pairs = record { before = later p q _ up s.before; left = s.left; leaves = s.leaves; high = high; low = low; pairs = pairs }

-- one more literal is said, which leaves another room
said_add : (p q : ℕ × ℕ × ℕ) (room next : RoomModel) {h l v w h' l' v' w' : ℕ} (out : List Lit) (lit : Lit) → place_of lit ≡ p → is_earlier p q ≡ true → lit_fits (shape_in room) lit ≡ true → ((m : Lit) → AboveRoom room m → leaves_some m lit ≡ true) → AboveRoom room lit
    → (s : Said room h l v w p out) → cut (negation lit) s.left ≡ next → next.slots ≡ s.left.slots → ((a b : ℕ) → b ≤ a → a < room.ships → order_of next a b ≡ Unset)
    → Ends high_of (room.slots - 1) room next h' → Ends low_of 0 room next l' → Pairs room next v' w' → Said room h' l' v' w' q (out ++ lit ∷ [])
said_add p q room next out lit place up fits leaves above s cuts slots no_pair high low pairs = record {
  before = All-push (λ m. is_earlier (place_of m) q ≡ true) out lit (later p q out up s.before) (subst (λ r. is_earlier r q ≡ true) (sym place) up);
  left = next;
  leaves = record {
    normal = normal_more (shape_in room) out 0 None lit s.leaves.normal fits refl (λ i d at.
        let m = get_or out i d in
        follows m lit (subst (λ r. is_earlier (place_of m) r ≡ true) (sym place) (s.before i d at)) (leaves m (s.leaves.above i d at)));
    above = All-push (AboveRoom room) out lit s.leaves.above above;
    denies = denied_more (whole_room (shape_in room)) out lit ∙ ap (cut (negation lit)) s.leaves.denies ∙ cuts;
    full = subst IsFull cuts (full_cut s.left (negation lit) s.leaves.full);
    ships = sym (ap (λ (r : RoomModel). r.ships) cuts) ∙ same_ships s.left (negation lit) ∙ s.leaves.ships;
    slots = slots ∙ s.leaves.slots;
    no_pair = no_pair;
  };
  high = high;
  low = low;
  pairs = pairs;
}

-- ---- bounds

in_ranges : (room left : RoomModel) (v : ℕ) → IsFull left → left.ships ≡ room.ships → v < room.ships → v < length left.ranges
in_ranges room left v full ships lt = omega (arith, full.each_ship, ships, lt)

-- one more ship has the end that the room has
one_more : (bound : RoomModel → ℕ → ℕ) (first : ℕ) (room left next : RoomModel) (v : ℕ) → Ends bound first room left v → bound next v ≡ bound room v → ((q : ℕ) → q ≢ v → bound next q ≡ bound left q) → Ends bound first room next (v + 1)
one_more bound first room left next v e here other = record {
  said = λ q inq less. elim (cases_eq q v) [
    | inl same ↦ subst (λ k. bound next k ≡ bound room k) (sym same) here
    | inr ne ↦ other q ne ∙ e.said q inq (omega (arith, less, ne))
  ];
  rest = λ q inq le. other q (omega (arith, le)) ∙ e.rest q inq (omega (arith, le));
}

-- every ship keeps its end
same_ends : (bound : RoomModel → ℕ → ℕ) (first : ℕ) (room left next : RoomModel) (v count : ℕ) → Ends bound first room left count → bound next v ≡ bound left v → ((q : ℕ) → q ≢ v → bound next q ≡ bound left q) → Ends bound first room next count
same_ends bound first room left next v count e here other = record { said = λ q inq less. same q ∙ e.said q inq less; rest = λ q inq le. same q ∙ e.rest q inq le }
  where
    same : (q : ℕ) → bound next q ≡ bound left q
    same q = elim (cases_eq q v) [ inl eq ↦ subst (λ k. bound next k ≡ bound left k) (sym eq) here | inr ne ↦ other q ne ]

-- the highest slot is the last one, and nothing is said
above_skip : (room : RoomModel) (v : ℕ) (out : List Lit) → v < room.ships → high_of room v < room.slots → nat_lt (high_of room v + 1) room.slots ≡ false → Said room v v 0 0 (0, v, 0) out → Said room (v + 1) v 0 0 (0, v, 1) out
above_skip room v out lt inside none s =
    let last : room.slots ≤ high_of room v + 1 = ltb-false _ _ none in
    said_on (0, v, 0) (0, v, 1) (up_in 0 v 0 1 (omega arith)) s (one_more high_of (room.slots - 1) room s.left s.left v s.high (s.high.rest v lt (omega arith) ∙ omega (arith, last, inside)) (λ q ne. refl)) s.low s.pairs

above_add : (room : RoomModel) (v : ℕ) (out : List Lit) → v < room.ships → nat_lt (high_of room v + 1) room.slots ≡ true → Said room v v 0 0 (0, v, 0) out → Said room (v + 1) v 0 0 (0, v, 1) (out ++ lits.AtOrAfter v (high_of room v + 1) ∷ [])
above_add room v out lt some s =
    let more : high_of room v + 1 < room.slots = ltb-true _ _ some in
    let in' : v < length s.left.ranges = in_ranges room s.left v s.leaves.full s.leaves.ships lt in
    let next : RoomModel = with_range s.left v (low_of s.left v) (min (high_of s.left v) (high_of room v + 1 - 1)) in
    let at : min (high_of s.left v) (high_of room v + 1 - 1) ≡ high_of room v = omega (arith, s.high.rest v lt (omega arith), more) in
    said_add (0, v, 0) (0, v, 1) room next out (lits.AtOrAfter v (high_of room v + 1)) refl (up_in 0 v 0 1 (omega arith)) (and_from (nat_lt v room.ships) _ (lt-ltb _ _ lt) (and_from (nat_le 1 (high_of room v + 1)) _ (le-leb _ _ (omega arith)) (lt-ltb _ _ more)))
    (λ m a. by_lower m v _) refl s refl refl s.leaves.no_pair
    (one_more high_of (room.slots - 1) room s.left next v s.high (high_new s.left v _ _ in' ∙ at) (λ q ne. high_other s.left v _ _ q ne))
    (same_ends low_of 0 room s.left next v v s.low (low_new s.left v _ _ in') (λ q ne. low_other s.left v _ _ q ne))
    (record { said = s.pairs.said; rest = s.pairs.rest })

-- the lowest slot is the first one, and nothing is said
below_skip : (room : RoomModel) (v : ℕ) (out : List Lit) → v < room.ships → nat_lt 0 (low_of room v) ≡ false → Said room (v + 1) v 0 0 (0, v, 1) out → Said room (v + 1) (v + 1) 0 0 (0, v + 1, 0) out
below_skip room v out lt none s =
    let first : low_of room v ≤ 0 = ltb-false _ _ none in
    said_on (0, v, 1) (0, v + 1, 0) (up_past 0 v 1) s s.high (one_more low_of 0 room s.left s.left v s.low (s.low.rest v lt (omega arith) ∙ omega (arith, first)) (λ q ne. refl)) s.pairs

below_add : (room : RoomModel) (v : ℕ) (out : List Lit) → v < room.ships → low_of room v ≤ high_of room v → high_of room v < room.slots → nat_lt 0 (low_of room v) ≡ true → Said room (v + 1) v 0 0 (0, v, 1) out → Said room (v + 1) (v + 1) 0 0 (0, v + 1, 0) (out ++ lits.Before v (low_of room v) ∷ [])
below_add room v out lt le inside some s =
    let more : 0 < low_of room v = ltb-true _ _ some in
    let in' : v < length s.left.ranges = in_ranges room s.left v s.leaves.full s.leaves.ships lt in
    let next : RoomModel = with_range s.left v (max (low_of s.left v) (low_of room v)) (high_of s.left v) in
    let at : max (low_of s.left v) (low_of room v) ≡ low_of room v = omega (arith, s.low.rest v lt (omega arith)) in
    said_add (0, v, 1) (0, v + 1, 0) room next out (lits.Before v (low_of room v)) refl (up_past 0 v 1) (and_from (nat_lt v room.ships) _ (lt-ltb _ _ lt) (and_from (nat_le 1 (low_of room v)) _ (le-leb _ _ (omega (arith, more))) (lt-ltb _ _ (omega (arith, le, inside)))))
    (λ m a. by_upper room m v le a) tt s refl refl s.leaves.no_pair
    (same_ends high_of (room.slots - 1) room s.left next v (v + 1) s.high (high_new s.left v _ _ in') (λ q ne. high_other s.left v _ _ q ne))
    (one_more low_of 0 room s.left next v s.low (low_new s.left v _ _ in' ∙ at) (λ q ne. low_other s.left v _ _ q ne))
    (record { said = s.pairs.said; rest = s.pairs.rest })

-- what a test decides, of both answers
said_if : (b : Bool) (lit : Lit) (out : List Lit) (P : List Lit → Type 0) → (b ≡ true → P (out ++ lit ∷ [])) → (b ≡ false → P out) → P (out ++ one_or_none (cond b (Some lit) None))
said_if true lit out P some none = some refl
said_if false lit out P some none = subst P (sym (append_none out)) (none refl)

pub said_ship : (room : RoomModel) (v : ℕ) (out : List Lit) → IsRoom room → v < room.ships → Said room v v 0 0 (0, v, 0) out
    → Said room (v + 1) (v + 1) 0 0 (0, v + 1, 0) ((out ++ one_or_none (above_said room v)) ++ one_or_none (below_said room v))
said_ship room v out is lt s =
    let le : low_of room v ≤ high_of room v = All-get_or (λ range. range.0 ≤ range.1) room.ranges v (0, 0) (omega (arith, is.each_ship, lt)) is.ordered in
    let inside : high_of room v < room.slots = All-get_or (λ range. range.1 < room.slots) room.ranges v (0, 0) (omega (arith, is.each_ship, lt)) is.in_slots in
    let half : Said room (v + 1) v 0 0 (0, v, 1) (out ++ one_or_none (above_said room v)) =
    said_if (nat_lt (high_of room v + 1) room.slots) _ out (Said room (v + 1) v 0 0 (0, v, 1)) (λ t. above_add room v out lt t s) (λ t. above_skip room v out lt inside t s) in
    said_if (nat_lt 0 (low_of room v)) _ _ (Said room (v + 1) (v + 1) 0 0 (0, v + 1, 0)) (λ t. below_add room v _ lt le inside t half) (λ t. below_skip room v _ lt t half)

-- ---- orders

still : (a b v w : ℕ) → ((a ≡ v) × (b ≡ w) → ⊥) → Passed a b v (w + 1) → Passed a b v w
still a b v w other p = elim p [
  | inl less ↦ inl less
  | inr q ↦ elim (cases_lt b w) [ inl less ↦ inr (q.0, less) | inr ge ↦ absurd (other (q.0, omega (arith, ge, q.1))) ]
]

fewer : (a b v w : ℕ) → Open a b v (w + 1) → Open a b v w
fewer a b v w p = elim p [ inl less ↦ inl less | inr q ↦ inr (q.0, omega (arith, q.1)) ]

not_open : (a b v w : ℕ) → Open a b v (w + 1) → (a ≡ v) × (b ≡ w) → ⊥
not_open a b v w p same = elim p [ inl less ↦ omega (arith, less, same.0) | inr q ↦ omega (arith, q.1, same.1) ]

-- one more pair has the order that the room has
one_more_pair : (room left next : RoomModel) (v w : ℕ) → Pairs room left v w → order_of next v w ≡ order_of room v w → ((a b : ℕ) → b < room.ships → ((a ≡ v) × (b ≡ w) → ⊥) → order_of next a b ≡ order_of left a b) → Pairs room next v (w + 1)
one_more_pair room left next v w s here other = record {
  said = λ a b ab inb p. elim (cases_pair a b v w) [
    | inl same ↦ rw (same.0, same.1) here
    | inr ne ↦ other a b inb ne ∙ s.said a b ab inb (still a b v w ne p)
  ];
  rest = λ a b ab inb p. other a b inb (not_open a b v w p) ∙ s.rest a b ab inb (fewer a b v w p);
}

-- the order of a pair that is none yet
order_skip : (room : RoomModel) (k v w : ℕ) (out : List Lit) → v < w → w < room.ships → order_of room v w ≡ Unset → Said room k k v w (1, v, w) out → Said room k k v (w + 1) (1, v, w + 1) out
order_skip room k v w out vw lt e s =
    said_on (1, v, w) (1, v, w + 1) (up_in 1 v w (w + 1) (omega arith)) s s.high s.low (one_more_pair room s.left s.left v w s.pairs (s.pairs.rest v w vw lt (inr (refl, omega arith)) ∙ sym e) (λ a b inb ne. refl))

-- a literal that reverses the order of a pair
order_add : (room : RoomModel) (k v w : ℕ) (out : List Lit) (lit : Lit) (order : Order) → v < w → w < room.ships → order_of room v w ≡ order → place_of lit ≡ (1, v, w) → lit_fits (shape_in room) lit ≡ true → ((l : Lit) → leaves_some l lit ≡ true) → AboveRoom room lit
    → ((r : RoomModel) → cut (negation lit) r ≡ with_order r v w order) → Said room k k v w (1, v, w) out → Said room k k v (w + 1) (1, v, w + 1) (out ++ lit ∷ [])
order_add room k v w out lit order vw lt e place fits leaves above cuts s =
    let wl : w < s.left.ships = omega (arith, s.leaves.ships, lt) in
    let next : RoomModel = with_order s.left v w order in
    said_add (1, v, w) (1, v, w + 1) room next out lit place (up_in 1 v w (w + 1) (omega arith)) fits (λ m a. leaves m) above s (cuts s.left) refl
    (λ a b ba ina. with_order_no_pair s.left v w order a b vw wl ba (omega (arith, s.leaves.ships, ina)) (s.leaves.no_pair a b ba ina))
    (record { said = s.high.said; rest = s.high.rest }) (record { said = s.low.said; rest = s.low.rest })
    (one_more_pair room s.left next v w s.pairs (new_order s.left v w order s.leaves.full (omega (arith, vw, wl)) wl ∙ sym e) (λ a b inb ne. other_order s.left v w a b order wl (omega (arith, s.leaves.ships, inb)) ne))

pub said_pair : (room : RoomModel) (k v w : ℕ) (out : List Lit) → v < w → w < room.ships → Said room k k v w (1, v, w) out → Said room k k v (w + 1) (1, v, w + 1) (out ++ one_or_none (turned_said room v w))
said_pair room k v w out vw lt s = by (order_of room v w) refl
  where
    fits : (nat_lt v w && nat_lt w room.ships) ≡ true
    fits = and_from (nat_lt v w) _ (lt-ltb _ _ vw) (lt-ltb _ _ lt)

    by : (o : Order) → order_of room v w ≡ o → Said room k k v (w + 1) (1, v, w + 1) (out ++ one_or_none (turned o v w))
    by Unset e = subst (Said room k k v (w + 1) (1, v, w + 1)) (sym (append_none out)) (order_skip room k v w out vw lt e s)
    by First e = order_add room k v w out (lits.NotFirst v w) First vw lt e refl fits (λ l. (by_order l v w).1) tt (λ r. refl) s
    by NotFirst e = order_add room k v w out (lits.First v w) NotFirst vw lt e refl fits (λ l. (by_order l v w).0) tt (λ r. refl) s

-- ---- all was said

pub said_all : (room : RoomModel) (v : ℕ) (out : List Lit) → IsRoom room → v ≡ room.ships → Said room room.ships room.ships v 0 (1, v, 0) out → denied (shape_in room) out ≡ room
said_all room v out is e s =
    let ranges : (ship : ℕ) → ship < s.left.ships → (low_of s.left ship ≡ low_of room ship) × (high_of s.left ship ≡ high_of room ship) = λ ship lt.
    let in' : ship < room.ships = omega (arith, s.leaves.ships, lt) in
    (s.low.said ship in' in', s.high.said ship in' in') in
    s.leaves.denies ∙ same_room s.left room (left_is ranges) is s.leaves.ships s.leaves.slots ranges (λ a b ab lt. s.pairs.said a b ab (omega (arith, s.leaves.ships, lt)) (inl (omega (arith, e, s.leaves.ships, ab, lt))))
  where
    left_is : ((ship : ℕ) → ship < s.left.ships → (low_of s.left ship ≡ low_of room ship) × (high_of s.left ship ≡ high_of room ship)) → IsRoom s.left
    left_is ranges = record {
      few = omega (arith, is.few, s.leaves.ships);
      few_slots = omega (arith, is.few_slots, s.leaves.slots);
      each_ship = s.leaves.full.each_ship;
      each_pair = s.leaves.full.each_pair;
      ordered = All-from_get_or (λ range. range.0 ≤ range.1) s.left.ranges (0, 0) (λ i lt.
          let r = ranges i (omega (arith, s.leaves.full.each_ship, lt)) in
          let le : low_of room i ≤ high_of room i = All-get_or (λ range. range.0 ≤ range.1) room.ranges i (0, 0) (omega (arith, is.each_ship, s.leaves.full.each_ship, s.leaves.ships, lt)) is.ordered in
          omega (arith, r.0, r.1, le));
      in_slots = All-from_get_or (λ range. range.1 < s.left.slots) s.left.ranges (0, 0) (λ i lt.
          let r = ranges i (omega (arith, s.leaves.full.each_ship, lt)) in
          let le : high_of room i < room.slots = All-get_or (λ range. range.1 < room.slots) room.ranges i (0, 0) (omega (arith, is.each_ship, s.leaves.full.each_ship, s.leaves.ships, lt)) is.in_slots in
          omega (arith, r.1, le, s.leaves.slots));
      no_pair = λ a b le lt. s.leaves.no_pair a b le (omega (arith, s.leaves.ships, lt));
    }
