-- What a window and a pair of ships say of timetables.
use Rattle.std.proofs.Common.{◌≡◌, ℕ, zero, suc, ◌<◌, pos, ◌-ℤ◌, Bool, true, false, cond, slice_index_or, List, [], ◌∷◌, map, filter, Some, slice_get, slice_index, length, IsSome, IsTrue, Contains, refl, sym, ap, ◌∙◌, subst, inl, inr, arith}
use Rattle.std.proofs.lemmas.Bool.{cases_Bool, and_parts, and_from, or_left, or_right}
use Rattle.std.proofs.lemmas.Bool.Decides.{Decides-int_eq}
use Rattle.std.proofs.lemmas.Option.{same_Some}
use Rattle.std.specs.List.{list_all, list_any}
use Rattle.std.specs.Ordering.{int_eq}
use Rattle.hw_lemmas.proofs.Lists.{has_get, stands_at}
use Rattle.hw_model.specs.declared.rule.Hole.{Hole}
use Rattle.hw_model.specs.declared.rule.Rule.TheVariants as rules
use Rattle.hw_model.specs.Problem.{horizon, value_at}
use Rattle.hw_model.specs.Rules.{misses, rule_holds}
use Rattle.hw_port.specs.declared.parts.Stretch.{Stretch}
use Rattle.hw_port.specs.Kept.{PortKept}
use Rattle.hw_port.specs.Parts.{ShipParts}
use Rattle.hw_port.specs.Whole.{Parts}
use Rattle.hw_tide.specs.Levels.{TideParts}
use Rattle.hw_port_model.specs.Numbers.{whole, horizon_of, some_may_stay, separation_of}
use Rattle.hw_port_model.specs.Timetables.{IsPortTimetable, SailsIn}
use Rattle.hw_port_model.specs.Permitted.{Occupies}
use Rattle.hw_port_model.specs.Flattened.{separation_hole, section_hole, shared_holes, flattened}
use Rattle.hw_port_laws.proofs.Meeting.{meet_is_hit, hit_meets}
use Rattle.hw_port_laws.proofs.Rows.{horizon_is, value_sails, value_stays}
use Rattle.hw_port_laws.proofs.Holes.{both_sail, one_stays, apart_misses, misses_apart, each_shared, shared_each}
use Rattle.hw_port_laws.proofs.Ships.{ship_kept, stretch_kept, given_is, slot_kind, value_in_horizon, stay_may, may_value, some_by}
use Rattle.hw_port_laws.proofs.Wholes.{is_whole}
use Rattle.hw_port_laws.proofs.Permits.{sails_in}
use Rattle.hw_port_named.specs.Restrictions.{uses, shared_sections}
use Rattle.hw_port_named.specs.Meaning.{WindowHolds, SailApart, NeverMeet}

-- ---- windows

pub value_there : (p : Parts) (h : TideParts) (table : List ℕ) (v : ℕ) → PortKept p → IsPortTimetable p table → v < length p.ships → WindowHolds p h table v → IsSome (value_at (flattened p h) v (slice_index table v))
value_there p h table v kept listed lt holds =
    let ship = has_get p.ships v lt in
    let many : length table ≡ length p.ships = listed.each_ship in
    let given : slice_get table v ≡ Some (slice_index table v) = stands_at table v (omega (arith, lt, many)) in
    elim (holds ship.0 (slice_index table v) (record { ship = ship.1; given = given })) [
      | inl some ↦ some_by _ _ (value_sails p h v (slice_index table v) ship.0 ship.1 (value_in_horizon p h ship.0 (slice_index table v) (ship_kept p v ship.0 kept ship.1) some)) some
      | inr stays ↦
          let some : IsTrue (some_may_stay p) = elim (slot_kind p table v (slice_index table v) listed given) [
            | inl below ↦ absurd (omega (arith, below, stays.0))
            | inr last ↦ last.1
          ] in
          some_by _ (Some 0) (subst (λ k. value_at (flattened p h) v k ≡ Some 0) (sym stays.0) (value_stays p h v ship.0 ship.1 some ∙ may_value ship.0 stays.1)) refl
    ]

pub window_holds : (p : Parts) (h : TideParts) (table : List ℕ) (v : ℕ) → IsPortTimetable p table → IsSome (value_at (flattened p h) v (slice_index table v)) → WindowHolds p h table v
window_holds p h table v listed some s x given =
    let there : IsSome (value_at (flattened p h) v x) = subst (λ k. IsSome (value_at (flattened p h) v k)) (given_is table v x given.given) some in
    elim (slot_kind p table v x listed given.given) [
      | inl below ↦ inl (some_by _ _ (sym (value_sails p h v x s given.ship below)) there)
      | inr last ↦
          let at_last : IsSome (value_at (flattened p h) v (horizon_of p)) = subst (λ k. IsSome (value_at (flattened p h) v k)) last.0 there in
          inr (last.0, stay_may s (some_by _ _ (sym (value_stays p h v s given.ship last.1)) at_last))
    ]

-- ---- two ships

one_ship : (p : Parts) (table : List ℕ) (v x : ℕ) (s r : ShipParts) → slice_get p.ships v ≡ Some s → SailsIn p table v r x → s ≡ r
one_ship p table v x s r e sails = same_Some s r (sym e ∙ sails.ship)

-- for ships that sail, the holes of their pair say as much as its rule
pub missed : (p : Parts) (h : TideParts) (table : List ℕ) (v w : ℕ) (s r : ShipParts) (x y : ℕ) (holes : List Hole) → rule_holds (flattened p h) table (rules.Pair v w holes) ≡ true → SailsIn p table v s x → SailsIn p table w r y → list_all (misses (pos y -ℤ pos x)) holes ≡ true
missed p h table v w s r x y holes holds sv sw =
    let ex : slice_index table v ≡ x = given_is table v x sv.given in
    let ey : slice_index table w ≡ y = given_is table w y sw.given in
    let lx : slice_index table v < horizon (flattened p h) = omega (arith, ex, sv.sails, horizon_is p h) in
    let ly : slice_index table w < horizon (flattened p h) = omega (arith, ey, sw.sails, horizon_is p h) in
    let both : list_all (misses (pos (slice_index table w) -ℤ pos (slice_index table v))) holes ≡ true = both_sail (horizon (flattened p h)) (slice_index table v) (slice_index table w) _ holds lx ly in
    subst (λ k. list_all (misses (pos y -ℤ pos k)) holes ≡ true) ex (subst (λ k. list_all (misses (pos k -ℤ pos (slice_index table v))) holes ≡ true) ey both)

pub pair_holds : (p : Parts) (h : TideParts) (table : List ℕ) (v w : ℕ) (s r : ShipParts) (holes : List Hole) → IsPortTimetable p table → slice_get p.ships v ≡ Some s → slice_get p.ships w ≡ Some r
    → ((x y : ℕ) → SailsIn p table v s x → SailsIn p table w r y → list_all (misses (pos y -ℤ pos x)) holes ≡ true) → rule_holds (flattened p h) table (rules.Pair v w holes) ≡ true
pair_holds p h table v w s r holes listed e d each = one_stays (horizon (flattened p h)) (slice_index table v) (slice_index table w) (list_all (misses (pos (slice_index table w) -ℤ pos (slice_index table v))) holes) (λ x y.
    each _ _ (sails_in p table v s listed.each_ship e (omega (arith, x, horizon_is p h))) (sails_in p table w r listed.each_ship d (omega (arith, y, horizon_is p h))))

-- ---- of the same direction

pub sail_apart : (p : Parts) (h : TideParts) (table : List ℕ) (v w : ℕ) (s r : ShipParts) → PortKept p → slice_get p.ships v ≡ Some s → slice_get p.ships w ≡ Some r
    → rule_holds (flattened p h) table (rules.Pair v w (separation_hole p s r ∷ [])) ≡ true → SailApart p table v w (whole (separation_of p s r)) (whole (separation_of p r s))
sail_apart p h table v w s r kept e d holds s' r' x y sv sw =
    let first : SailsIn p table v s x = record { ship = e; given = sv.given; sails = sv.sails } in
    let second : SailsIn p table w r y = record { ship = d; given = sw.given; sails = sw.sails } in
    let all = and_parts (misses (pos y -ℤ pos x) (separation_hole p s r)) true (missed p h table v w s r x y (separation_hole p s r ∷ []) holds first second) in
    misses_apart p s r x y kept (ship_kept p v s kept e) (ship_kept p w r kept d) all.0

pub apart_holds : (p : Parts) (h : TideParts) (table : List ℕ) (v w : ℕ) (s r : ShipParts) → PortKept p → IsPortTimetable p table → slice_get p.ships v ≡ Some s → slice_get p.ships w ≡ Some r
    → SailApart p table v w (whole (separation_of p s r)) (whole (separation_of p r s)) → rule_holds (flattened p h) table (rules.Pair v w (separation_hole p s r ∷ [])) ≡ true
apart_holds p h table v w s r kept listed e d apart = pair_holds p h table v w s r (separation_hole p s r ∷ []) listed e d (λ x y sv sw.
    and_from (misses (pos y -ℤ pos x) (separation_hole p s r)) true (apart_misses p s r x y kept (ship_kept p v s kept e) (ship_kept p w r kept d) (apart s r x y sv sw)) refl)

-- ---- of opposite direction

in_first : {X : Type 0} (x : X) (xs : List X) → Contains (x ∷ xs) x
in_first x xs = (0, omega arith, refl)

in_rest : {X : Type 0} (x y : X) (xs : List X) → Contains xs y → Contains (x ∷ xs) y
in_rest x y xs of = (suc of.0, omega (arith, of.1), of.2)

any_there : {X : Type 0} (test : X → Bool) (xs : List X) (x : X) → Contains xs x → test x ≡ true → list_any test xs ≡ true
any_there {X} test xs x of passes = by_place xs of.0 of.1 of.2
  where
    by_place : (xs : List X) (k : ℕ) → k < length xs → slice_index_or xs k x ≡ x → list_any test xs ≡ true
    by_place [] k lt e = absurd (omega (arith, lt))
    by_place (y ∷ xs) zero lt e = or_left (test y) (list_any test xs) (ap test e ∙ passes)
    by_place (y ∷ xs) (suc k) lt e = or_right (test y) (list_any test xs) (by_place xs k (omega (arith, lt)) e)

-- what passes a test is kept by it
kept_there : {X Y : Type 0} (test : X → Bool) (f : X → Y) (xs : List X) (x : X) → Contains xs x → test x ≡ true → Contains (map f (filter test xs)) (f x)
kept_there {X} {Y} test f xs x of passes = by_place xs of.0 of.1 of.2
  where
    first : (y : X) (rest : List X) (t : Bool) → test y ≡ t → y ≡ x → Contains (map f (cond t (y ∷ rest) rest)) (f x)
    first y rest true e same = subst (λ z. Contains (f y ∷ map f rest) z) (ap f same) (in_first (f y) (map f rest))
    first y rest false e same = absurd (clash y e same)
      where
        clash : (y : X) → test y ≡ false → y ≡ x → ⊥
        clash y e same = let p : test x ≡ false = subst (λ z. test z ≡ false) same e in absurd cc

    later : (y : X) (rest : List X) (t : Bool) → Contains (map f rest) (f x) → Contains (map f (cond t (y ∷ rest) rest)) (f x)
    later y rest true of = in_rest (f y) (f x) (map f rest) of
    later y rest false of = of

    by_place : (xs : List X) (k : ℕ) → k < length xs → slice_index_or xs k x ≡ x → Contains (map f (filter test xs)) (f x)
    by_place [] k lt e = absurd (omega (arith, lt))
    by_place (y ∷ xs) zero lt e = first y (filter test xs) (test y) refl e
    by_place (y ∷ xs) (suc k) lt e = later y (filter test xs) (test y) (by_place xs k (omega (arith, lt)) e)

-- a section that both use is one of those that are shared
shared_has : (channel others : List Stretch) (a b : Stretch) → Contains channel a → Contains others b → b.section ≡ a.section → Contains (shared_sections channel others) (whole a.section)
shared_has channel others a b of_a of_b same =
    let used : uses others a.section ≡ true = any_there (λ c. int_eq c.section a.section) others b of_b ((Decides-int_eq b.section a.section).1 same) in
    kept_there (λ c. uses others c.section) (λ c. whole c.section) channel a of_a used

pub never_meet : (p : Parts) (h : TideParts) (table : List ℕ) (v w : ℕ) (s r : ShipParts) → PortKept p → slice_get p.ships v ≡ Some s → slice_get p.ships w ≡ Some r
    → rule_holds (flattened p h) table (rules.Pair v w (shared_holes s.channel r.channel)) ≡ true → NeverMeet p table v w (shared_sections s.channel r.channel)
never_meet p h table v w s r kept e d holds s' r' x y sv sw section slot of_section first second =
    let shared = missed p h table v w s' r' x y (shared_holes s.channel r.channel) holds sv sw in
    let a = subst (λ q. Contains q.channel first.stretch) (sym (one_ship p table v x s s' e sv)) first.uses in
    let b = subst (λ q. Contains q.channel second.stretch) (sym (one_ship p table w y r r' d sw)) second.uses in
    let yes : misses (pos y -ℤ pos x) (section_hole first.stretch second.stretch) ≡ true = each_shared (misses (pos y -ℤ pos x)) s.channel r.channel shared first.stretch second.stretch a b (second.there ∙ sym first.there) in
    let no' : misses (pos y -ℤ pos x) (section_hole first.stretch second.stretch) ≡ false = meet_is_hit (pos (length p.sections)) first.stretch second.stretch x y slot (stretch_kept p s first.stretch (ship_kept p v s kept e) a) (stretch_kept p r second.stretch (ship_kept p w r kept d) b) (record { entered = first.entered; not_left = first.not_left; other_entered = second.entered; other_not_left = second.not_left }) in
    absurd cc

pub meeting_holds : (p : Parts) (h : TideParts) (table : List ℕ) (v w : ℕ) (s r : ShipParts) → PortKept p → IsPortTimetable p table → slice_get p.ships v ≡ Some s → slice_get p.ships w ≡ Some r
    → NeverMeet p table v w (shared_sections s.channel r.channel) → rule_holds (flattened p h) table (rules.Pair v w (shared_holes s.channel r.channel)) ≡ true
meeting_holds p h table v w s r kept listed e d never = pair_holds p h table v w s r (shared_holes s.channel r.channel) listed e d (λ x y sv sw. shared_each (misses (pos y -ℤ pos x)) s.channel r.channel (λ a b of_a of_b section.
    let ka = stretch_kept p s a (ship_kept p v s kept e) of_a in
    let kb = stretch_kept p r b (ship_kept p w r kept d) of_b in
    elim (cases_Bool (misses (pos y -ℤ pos x) (section_hole a b))) [
      | inl outside ↦ outside
      | inr inside ↦
          let m = hit_meets (pos (length p.sections)) a b x y ka kb inside in
          let place : a.section ≡ pos (whole a.section) = is_whole a.section ka.section.low in
          let first : Occupies s x (pos (whole a.section)) m.0 = record { stretch = a; uses = of_a; there = place; entered = m.1.entered; not_left = m.1.not_left } in
          let second : Occupies r y (pos (whole a.section)) m.0 = record { stretch = b; uses = of_b; there = section ∙ place; entered = m.1.other_entered; not_left = m.1.other_not_left } in
          absurd (never s r x y sv sw (whole a.section) m.0 (shared_has s.channel r.channel a b of_a of_b section) first second)
    ]))
