-- A point room that nothing refutes holds a permitted timetable that beats the best.
use Rattle.std.proofs.Common.{◌≡◌, ℕ, zero, suc, ◌+◌, ◌-◌, ◌<◌, ◌≤◌, max, false, cond, ◌&&◌, leb, ltb, nat_le, List, [], ◌∷◌, Option, Some, None, length, map, fold, get_or, slice_get, slice_index, sum_by, IsSome, IfSome, IsSomeAnd, IsTrue, refl, sym, ap, ◌∙◌, subst, arith, inl, inr}
use Rattle.std.proofs.lemmas.Bool.{leb-false, lt-ltb, cases_lt, true_from_ne_false}
use Rattle.std.proofs.lemmas.Bool.Decides.{nat_tests}
use Rattle.std.proofs.lemmas.List.{get_or_past, length-map}
use Rattle.std.proofs.lemmas.List.Elements.{All-map}
use Rattle.std.specs.List.{range_with_len}
use Rattle.hw_model.specs.declared.rule.Job.{Job}
use Rattle.hw_model.specs.declared.rule.Rule.{Rule}
use Rattle.hw_model.specs.declared.rule.Rule.TheVariants.{Pair, After, Tugs}
use Rattle.hw_model.specs.Problem.{Problem, IsTimetable, horizon, value_at}
use Rattle.hw_model.specs.Rules.{pair_holds, rule_holds, held_by, fleet_in}
use Rattle.hw_model.specs.Timetables.{Permits, cargo, beats}
use Rattle.hw_model.specs.Rooms.{RoomModel, RoomFits, InRange, IsPoint, point_of, low_of, high_of}
use Rattle.hw_model.specs.Refuting.{RuleRefutes, NothingRefutes, forced_by, greatest_value, greatest_sum}
use Rattle.hw_model_laws.proofs.Counting.{not_all_of_range, sum_le}
use Rattle.hw_model_laws.proofs.Cargoes.{worth, cargo_above}

-- ---- the timetable of a point room

lows_at : (ranges : List (ℕ × ℕ)) (i : ℕ) → get_or (map (λ range. range.0) ranges) i 0 ≡ (get_or ranges i (0, 0)).0
lows_at [] i = refl
lows_at (x ∷ xs) zero = refl
lows_at (x ∷ xs) (suc i) = lows_at xs i

at_point : (room : RoomModel) (ship : ℕ) → slice_index (point_of room) ship ≡ low_of room ship
at_point room ship = lows_at room.ranges ship

same_ends : (room : RoomModel) (ship : ℕ) → length room.ranges ≡ room.ships → IsPoint room → low_of room ship ≡ high_of room ship
same_ends room ship full point = elim (cases_lt ship room.ships) [
  | inl lt ↦ point ship lt
  | inr past ↦
      let e : get_or room.ranges ship (0, 0) ≡ (0, 0) = get_or_past room.ranges ship (0, 0) (omega (arith, past, full)) in
      ap (λ (p : ℕ × ℕ). p.0) e ∙ sym (ap (λ (p : ℕ × ℕ). p.1) e)
]

-- the one slot of a range is the timetable's
only_slot : (room : RoomModel) (ship slot : ℕ) → length room.ranges ≡ room.ships → IsPoint room → InRange room ship slot → slice_index (point_of room) ship ≡ slot
only_slot room ship slot full point h = omega (arith, at_point room ship, same_ends room ship full point, h.0, h.1)

listed : (f : Problem) (room : RoomModel) → RoomFits f room → IsTimetable f (point_of room)
listed f room fits = record {
  each_ship = length-map room.ranges _ ∙ fits.is_room.each_ship ∙ fits.same_ships;
  each_slot = All-map (λ slot. slot < f.slots) (λ range. range.0) room.ranges (λ k d lt.
      let a : (get_or room.ranges k d).0 ≤ (get_or room.ranges k d).1 = fits.is_room.ordered k d lt in
      let b : (get_or room.ranges k d).1 < room.slots = fits.is_room.in_slots k d lt in
      omega (arith, a, b, fits.same_slots));
}

-- ---- values

some_of : (o : Option ℕ) → (o ≡ None → ⊥) → IsSome o
some_of None h = absurd (h refl)
some_of (Some x) h = refl

sails : (f : Problem) (best : Option ℕ) (room : RoomModel) → RoomFits f room → IsPoint room → NothingRefutes f best room → (ship : ℕ) → ship < f.ships → IsSome (value_at f ship (slice_index (point_of room) ship))
sails f best room fits point nothing ship lt = some_of _ (λ e. nothing.no_window ship lt (λ slot h. subst (λ s. value_at f ship s ≡ None) (only_slot room ship slot fits.is_room.each_ship point h) e))

-- ---- rules

two_slots : (f : Problem) (room : RoomModel) (rule : Rule) (v w x y : ℕ) → length room.ranges ≡ room.ships → IsPoint room → pair_holds f rule (slice_index (point_of room) v) (slice_index (point_of room) w) ≡ false → InRange room v x → InRange room w y → pair_holds f rule x y ≡ false
two_slots f room rule v w x y full point e h k =
    let first : pair_holds f rule x (slice_index (point_of room) w) ≡ false = subst (λ s. pair_holds f rule s (slice_index (point_of room) w) ≡ false) (only_slot room v x full point h) e in
    subst (λ s. pair_holds f rule x s ≡ false) (only_slot room w y full point k) first

exactly : (low high t slot hold tugs : ℕ) → t ≡ low → low ≡ high → cond (leb t slot && ltb slot (t + hold)) tugs 0 ≤ cond (leb high slot && ltb slot (low + hold)) tugs 0
exactly low high t slot hold tugs a b = grind (arith, nat_tests)

held_le : (room : RoomModel) (slot : ℕ) (jobs : List Job) → length room.ranges ≡ room.ships → IsPoint room → sum_by (held_by (point_of room) slot) jobs ≤ sum_by (forced_by room slot) jobs
held_le room slot jobs full point = sum_le (held_by (point_of room) slot) (forced_by room slot) jobs (λ i d lt. one (get_or jobs i d))
  where
    one : (job : Job) → held_by (point_of room) slot job ≤ forced_by room slot job
    one job = exactly (low_of room job.ship) (high_of room job.ship) (slice_index (point_of room) job.ship) slot job.hold job.tugs (at_point room job.ship) (same_ends room job.ship full point)

rule_kept : (f : Problem) (room : RoomModel) (rule : Rule) → length room.ranges ≡ room.ships → IsPoint room → (RuleRefutes f room rule → ⊥) → IsTrue (rule_holds f (point_of room) rule)
rule_kept f room (Pair v w holes) full point never = true_from_ne_false _ (λ e. never (λ x y h k agrees. two_slots f room (Pair v w holes) v w x y full point e h k))
rule_kept f room (After v w gap) full point never = true_from_ne_false _ (λ e. never (λ x y h k agrees. two_slots f room (After v w gap) v w x y full point e h k))
rule_kept f room (Tugs fleet later jobs) full point never = true_from_ne_false _ (λ e.
    let r = not_all_of_range (λ slot. nat_le (sum_by (held_by (point_of room) slot) jobs) (fleet_in fleet later slot)) 0 (horizon f) e in
    let over : fleet_in fleet later r.0 < sum_by (held_by (point_of room) r.0) jobs = leb-false _ _ r.3 in
    never (r.0, omega (arith, r.2), omega (arith, over, held_le room r.0 jobs full point)))

kept_at : (f : Problem) (room : RoomModel) (o : Option Rule) → length room.ranges ≡ room.ships → IsPoint room → (IsSomeAnd o (RuleRefutes f room) → ⊥) → IfSome o (λ rule. IsTrue (rule_holds f (point_of room) rule))
kept_at f room None full point never = tt
kept_at f room (Some rule) full point never = rule_kept f room rule full point never

within : {X : Type 0} (P : X → Type 0) (xs : List X) (i : ℕ) → IsSomeAnd (slice_get xs i) P → i < length xs
within P [] i h = absurd h
within P (x ∷ xs) zero h = omega arith
within P (x ∷ xs) (suc i) h = omega (arith, within P xs i h)

pub permitted : (f : Problem) (best : Option ℕ) (room : RoomModel) → RoomFits f room → IsPoint room → NothingRefutes f best room → Permits f (point_of room)
permitted f best room fits point nothing = record {
  listed = listed f room fits;
  sails = sails f best room fits point nothing;
  keeps = λ place. kept_at f room (slice_get f.rules place) fits.is_room.each_ship point (λ h. nothing.no_rule place (within (RuleRefutes f room) f.rules place h) h);
}

-- ---- cargo

one_value : (f : Problem) (ship low : ℕ) → greatest_value f ship low low ≤ worth f ship low
one_value f ship low =
    let e : suc zero ≡ low + 1 - low = omega arith in
    let one : max 0 (worth f ship low) ≤ worth f ship low = omega arith in
    subst (λ n. fold (λ most slot. max most (worth f ship slot)) 0 (range_with_len low n) ≤ worth f ship low) e one

value_reached : (f : Problem) (room : RoomModel) (ship : ℕ) → length room.ranges ≡ room.ships → IsPoint room → greatest_value f ship (low_of room ship) (high_of room ship) ≤ worth f ship (slice_index (point_of room) ship)
value_reached f room ship full point =
    let low : greatest_value f ship (low_of room ship) (high_of room ship) ≤ worth f ship (low_of room ship) = subst (λ high. greatest_value f ship (low_of room ship) high ≤ worth f ship (low_of room ship)) (same_ends room ship full point) (one_value f ship (low_of room ship)) in
    subst (λ slot. greatest_value f ship (low_of room ship) (high_of room ship) ≤ worth f ship slot) (sym (at_point room ship)) low

beats_from : (best : Option ℕ) (sum : ℕ) (o : Option ℕ) → (IsSomeAnd best (λ b. sum ≤ b) → ⊥) → IsSomeAnd o (λ c. sum ≤ c) → IsSomeAnd o (λ c. IsTrue (beats c best))
beats_from best sum None never h = absurd h
beats_from None sum (Some c) never h = refl
beats_from (Some b) sum (Some c) never h = elim (cases_lt b sum) [
  | inl lt ↦
      let le : sum ≤ c = h in
      lt-ltb _ _ (omega (arith, lt, le))
  | inr ge ↦ absurd (never ge)
]

pub worth_it : (f : Problem) (best : Option ℕ) (room : RoomModel) → RoomFits f room → IsPoint room → NothingRefutes f best room → IsSomeAnd (cargo f (point_of room)) (λ c. IsTrue (beats c best))
worth_it f best room fits point nothing =
    let g : ℕ → ℕ = λ ship. greatest_value f ship (low_of room ship) (high_of room ship) in
    let many : length (point_of room) ≡ f.ships = (listed f room fits).each_ship in
    let each : (s k : ℕ) → s ≡ 0 + k → k < length (point_of room) → IsSome (value_at f s (get_or (point_of room) k 0)) × (greatest_value f s (low_of room s) (high_of room s) ≤ worth f s (get_or (point_of room) k 0)) = λ s k at lt.
    let same : k ≡ s = omega (arith, at) in
    subst (λ i. IsSome (value_at f i (get_or (point_of room) k 0)) × (greatest_value f i (low_of room i) (high_of room i) ≤ worth f i (get_or (point_of room) k 0))) same (sails f best room fits point nothing k (omega (arith, lt, many)), value_reached f room k fits.is_room.each_ship point) in
    let above = cargo_above f (λ ship. greatest_value f ship (low_of room ship) (high_of room ship)) (point_of room) 0 each in
    let sum : IsSomeAnd (cargo f (point_of room)) (λ c. greatest_sum f room ≤ c) = subst (λ n. IsSomeAnd (cargo f (point_of room)) (λ c. sum_by (λ ship. greatest_value f ship (low_of room ship) (high_of room ship)) (range_with_len 0 n) ≤ c)) many above in
    beats_from best (greatest_sum f room) (cargo f (point_of room)) nothing.not_goal sum
