-- A refuted room holds no permitted timetable that beats the best.
use Rattle.std.proofs.Common.{◌≡◌, ◌≢◌, ℕ, ◌+◌, ◌-◌, ◌<◌, ◌≤◌, true, cond, ◌&&◌, leb, ltb, nat_le, nat_lt, List, Option, Some, None, length, get_or, slice_get, slice_index, sum_by, IsSome, IfSome, IsSomeAnd, IsTrue, All, sym, ◌∙◌, subst, arith, inl, inr, ◌⊎◌}
use Rattle.std.proofs.lemmas.Bool.{leb-true, ltb-true, ltb-false, both_ways, cond_both, cases_lt}
use Rattle.std.proofs.lemmas.Bool.Decides.{nat_tests}
use Rattle.std.proofs.lemmas.List.{get_or_past}
use Rattle.std.specs.List.{range_with_len}
use Rattle.hw_model.specs.declared.order.Order.{Order}
use Rattle.hw_model.specs.declared.order.Order.TheVariants.{First, NotFirst}
use Rattle.hw_model.specs.declared.rule.Job.{Job}
use Rattle.hw_model.specs.declared.rule.Rule.{Rule}
use Rattle.hw_model.specs.declared.rule.Rule.TheVariants.{Pair, After, Tugs}
use Rattle.hw_model.specs.declared.source.Source.{Source}
use Rattle.hw_model.specs.declared.source.Source.TheVariants as sources
use Rattle.hw_model.specs.Problem.{Problem, horizon}
use Rattle.hw_model.specs.Limits.{RuleFits}
use Rattle.hw_model.specs.Rules.{pair_holds, rule_holds, held_by, fleet_in}
use Rattle.hw_model.specs.Timetables.{Permits, cargo}
use Rattle.hw_model.specs.Rooms.{RoomModel, Inside, InRange, agrees, low_of, high_of}
use Rattle.hw_model.specs.Refuting.{Refutes, RuleRefutes, NoneMeets, IsSourceOf, fits_order, forced_by, greatest_value, greatest_sum}
use Rattle.hw_model_laws.proofs.Counting.{all_of_range, most_at, sum_le, at_place}
use Rattle.hw_model_laws.proofs.Cargoes.{worth, cargo_below}

-- ---- two ships

fits_inside : (room : RoomModel) (table : List ℕ) (v w : ℕ) → Inside table room → v < room.ships → w < room.ships → v ≢ w → IsTrue (fits_order room v w (slice_index table v) (slice_index table w))
fits_inside room table v w h a b ne = cond_both (nat_lt v w) _ _ (λ t. t ≡ true) (λ e. h.orders v w (ltb-true _ _ e) b) (λ e. h.orders w v (below v w ne (ltb-false v w e)) a)
  where
    below : (v w : ℕ) → v ≢ w → w ≤ v → w < v
    below v w ne le = grind arith

two_ships : (f : Problem) (room : RoomModel) (table : List ℕ) (rule : Rule) (v w : ℕ) → Inside table room → v < room.ships → w < room.ships → v ≢ w → NoneMeets f room rule v w → pair_holds f rule (slice_index table v) (slice_index table w) ≡ true → ⊥
two_ships f room table rule v w h a b ne none holds = both_ways _ (none _ _ (h.ranges v a) (h.ranges w b) (fits_inside room table v w h a b ne)) holds

-- ---- tugs

-- every ship is in its range, those past the last one too
pub in_range : (room : RoomModel) (table : List ℕ) (ship : ℕ) → length room.ranges ≡ room.ships → Inside table room → InRange room ship (slice_index table ship)
in_range room table ship full h = elim (cases_lt ship room.ships) [
  | inl lt ↦ h.ranges ship lt
  | inr past ↦
      let e : get_or room.ranges ship (0, 0) ≡ (0, 0) = get_or_past room.ranges ship (0, 0) (omega (arith, past, full)) in
      let t : slice_index table ship ≡ 0 = get_or_past table ship 0 (omega (arith, past, h.each_ship)) in
      subst (λ (p : ℕ × ℕ). (p.0 ≤ slice_index table ship) × (slice_index table ship ≤ p.1)) (sym e) (omega arith, omega (arith, t))
]

within : (low high t slot hold tugs : ℕ) → low ≤ t → t ≤ high → cond (leb high slot && ltb slot (low + hold)) tugs 0 ≤ cond (leb t slot && ltb slot (t + hold)) tugs 0
within low high t slot hold tugs a b = grind (arith, nat_tests)

-- what must be held is held
pub forced_le : (room : RoomModel) (table : List ℕ) (slot : ℕ) (jobs : List Job) → length room.ranges ≡ room.ships → Inside table room → sum_by (forced_by room slot) jobs ≤ sum_by (held_by table slot) jobs
forced_le room table slot jobs full h = sum_le (forced_by room slot) (held_by table slot) jobs (λ i d lt. one (get_or jobs i d))
  where
    one : (job : Job) → forced_by room slot job ≤ held_by table slot job
    one job =
        let r = in_range room table job.ship full h in
        within (low_of room job.ship) (high_of room job.ship) (slice_index table job.ship) slot job.hold job.tugs r.0 r.1

-- ---- rules

rule_sound : (f : Problem) (room : RoomModel) (table : List ℕ) (rule : Rule) → room.ships ≡ f.ships → length room.ranges ≡ room.ships → Inside table room → RuleFits f.ships rule → RuleRefutes f room rule → rule_holds f table rule ≡ true → ⊥
rule_sound f room table (Pair v w holes) ships full h fits none holds = two_ships f room table (Pair v w holes) v w h (omega (arith, ships, fits.ascends, fits.ship_in)) (omega (arith, ships, fits.ship_in)) (λ e. less v w fits.ascends e) none holds
  where
    less : (v w : ℕ) → v < w → v ≡ w → ⊥
    less v w lt e = omega (arith, lt, e)
rule_sound f room table (After v w gap) ships full h fits none holds = two_ships f room table (After v w gap) v w h (omega (arith, ships, fits.first_in)) (omega (arith, ships, fits.second_in)) fits.two_ships none holds
rule_sound f room table (Tugs fleet later jobs) ships full h fits over holds =
    let kept : nat_le (sum_by (held_by table over.0) jobs) (fleet_in fleet later over.0) ≡ true = all_of_range (λ slot. nat_le (sum_by (held_by table slot) jobs) (fleet_in fleet later slot)) 0 (horizon f) holds over.0 (omega arith) (omega (arith, over.1)) in
    let le : sum_by (held_by table over.0) jobs ≤ fleet_in fleet later over.0 = leb-true _ _ kept in
    let forced : sum_by (forced_by room over.0) jobs ≤ sum_by (held_by table over.0) jobs = forced_le room table over.0 jobs full h in
    let more : fleet_in fleet later over.0 < sum_by (forced_by room over.0) jobs = over.2 in
    omega (arith, le, forced, more)

rule_at : (f : Problem) (room : RoomModel) (table : List ℕ) (o : Option Rule) → room.ships ≡ f.ships → length room.ranges ≡ room.ships → Inside table room → IfSome o (RuleFits f.ships) → IsSomeAnd o (RuleRefutes f room) → IfSome o (λ rule. IsTrue (rule_holds f table rule)) → ⊥
rule_at f room table None ships full h fits none holds = absurd none
rule_at f room table (Some rule) ships full h fits none holds = rule_sound f room table rule ships full h fits none holds

-- ---- orders

clash : (a b c : Order) (x y z : ℕ) → IsTrue (agrees a x y) → IsTrue (agrees b y z) → IsTrue (agrees c x z) → (((a ≡ First) × (b ≡ First) × (c ≡ NotFirst)) ⊎ ((a ≡ NotFirst) × (b ≡ NotFirst) × (c ≡ First))) → ⊥
clash a b c x y z p q r h = elim h [
  | inl e ↦
      let xy : x < y = ltb-true _ _ (subst (λ o. agrees o x y ≡ true) e.0 p) in
      let yz : y < z = ltb-true _ _ (subst (λ o. agrees o y z ≡ true) e.1 q) in
      let zx : z ≤ x = leb-true _ _ (subst (λ o. agrees o x z ≡ true) e.2 r) in
      omega (arith, xy, yz, zx)
  | inr e ↦
      let yx : y ≤ x = leb-true _ _ (subst (λ o. agrees o x y ≡ true) e.0 p) in
      let zy : z ≤ y = leb-true _ _ (subst (λ o. agrees o y z ≡ true) e.1 q) in
      let xz : x < z = ltb-true _ _ (subst (λ o. agrees o x z ≡ true) e.2 r) in
      omega (arith, yx, zy, xz)
]

-- ---- the goal

-- a slot's value is at most the greatest of a range that has the slot
pub value_le : (f : Problem) (ship low high slot : ℕ) → low ≤ slot → slot ≤ high → worth f ship slot ≤ greatest_value f ship low high
value_le f ship low high slot a b = most_at (worth f ship) low (high + 1 - low) 0 slot a (omega (arith, a, b))

pub cargo_le : (f : Problem) (room : RoomModel) (table : List ℕ) (c : ℕ) → room.ships ≡ f.ships → Inside table room → cargo f table ≡ Some c → c ≤ greatest_sum f room
cargo_le f room table c ships h e =
    let g : ℕ → ℕ = λ ship. greatest_value f ship (low_of room ship) (high_of room ship) in
    let each : (s k : ℕ) → s ≡ 0 + k → k < length table → worth f s (get_or table k 0) ≤ greatest_value f s (low_of room s) (high_of room s) = λ s k at lt.
    let same : s ≡ k = omega (arith, at) in
    let r = h.ranges k (omega (arith, lt, h.each_ship)) in
    subst (λ i. worth f i (get_or table k 0) ≤ greatest_value f i (low_of room i) (high_of room i)) (sym same) (value_le f k _ _ (slice_index table k) r.0 r.1) in
    let below = cargo_below f (λ ship. greatest_value f ship (low_of room ship) (high_of room ship)) table 0 c e each in
    let many : length table ≡ f.ships = h.each_ship ∙ ships in
    subst (λ n. c ≤ sum_by (λ ship. greatest_value f ship (low_of room ship) (high_of room ship)) (range_with_len 0 n)) many below

goal_sound : (best : Option ℕ) (sum c : ℕ) → c ≤ sum → IsSomeAnd best (λ b. sum ≤ b) → IsSomeAnd best (λ b. c ≤ b)
goal_sound None sum c le h = absurd h
goal_sound (Some b) sum c le h =
    let most : sum ≤ b = h in
    omega (arith, le, most)

no_value : (o : Option ℕ) → o ≡ None → IsSome o → ⊥
no_value None e some = absurd cc
no_value (Some x) e some = absurd cc

pub sound : (f : Problem) (source : Source) (best : Option ℕ) (room : RoomModel) (table : List ℕ) (c : ℕ) → All (RuleFits f.ships) f.rules → room.ships ≡ f.ships → length room.ranges ≡ room.ships → IsSourceOf f source → Refutes f source best room → Inside table room → Permits f table → cargo f table ≡ Some c → IsSomeAnd best (λ b. c ≤ b)
sound f (sources.Window ship) best room table c rules ships full of refutes h permits e = absurd (no_value _ (refutes _ (h.ranges ship (omega (arith, of, ships)))) (permits.sails ship of))
sound f (sources.Rule place) best room table c rules ships full of refutes h permits e = absurd (rule_at f room table (slice_get f.rules place) ships full h (at_place (RuleFits f.ships) f.rules place rules) refutes (permits.keeps place))
sound f (sources.Order v w x) best room table c rules ships full of refutes h permits e =
    let x_in : x < room.ships = omega (arith, of.2, ships) in
    let vx : v < x = omega (arith, of.0, of.1) in
    absurd (clash _ _ _ (slice_index table v) (slice_index table w) (slice_index table x) (h.orders v w of.0 (omega (arith, of.1, x_in))) (h.orders w x of.1 x_in) (h.orders v x vx x_in) refutes)
sound f sources.Goal best room table c rules ships full of refutes h permits e = goal_sound best (greatest_sum f room) c (cargo_le f room table c ships h e) refutes
