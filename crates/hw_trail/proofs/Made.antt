-- The bound before an event tells whether the event made a literal true.
use Rattle.std.proofs.Common.{◌≡◌, ℕ, zero, suc, ◌+◌, ◌<◌, ◌≤◌, ◌&&◌, ◌||◌, ◌↔◌, ◌⊎◌, Bool, true, false, not, List, [], ◌∷◌, ◌++◌, Option, Some, None, IsSomeAnd, length, take, get_or, nat_lt, nat_le, refl, sym, ap, ◌∙◌, subst, arith, inl, inr, length-append}
use Rattle.std.proofs.lemmas.Bool.{and_parts, and_from, or_cases, cases_Bool, cases_lt, lt-ltb}
use Rattle.std.proofs.lemmas.List.{get_or_append_left, get_or_push, take-append-le, get_or-take, length-take-le}
use Rattle.hw_lemmas.proofs.Truths.{was_not, clash}
use Rattle.hw_model.specs.declared.lit.Lit.{Lit}
use Rattle.hw_model.specs.declared.lit.Lit.TheVariants.{AtOrAfter, Before, First, NotFirst}
use Rattle.hw_model.specs.declared.lit.LitTruth.TheVariants.{True, False, Free}
use Rattle.hw_model.specs.declared.lit.LitTruth.{LitTruth}
use Rattle.hw_model.specs.Lits.{negation, lit_fits}
use Rattle.hw_model.specs.Rooms.{RoomModel, IsRoom, low_of, high_of}
use Rattle.hw_model.specs.Narrowing.{truth}
use Rattle.hw_model.specs.Lits.{IsLitOf}
use Rattle.hw_model_laws.proofs.Denials.{lit_of}
use Rattle.hw_trail_laws.specs.declared.event.Event.{Event}
use Rattle.hw_trail_laws.specs.Sides.{implies}
use Rattle.hw_trail_laws.specs.Knowing.{knows}
use Rattle.hw_trail_laws.specs.Stories.{room_at}
use Rattle.hw_trail_laws.specs.Trails.{TrailModel, trail_shape, room_by, room_before, room_of, with_event, decided, back_to, IsTrail}
use Rattle.hw_trail_laws.specs.Learning.{event_of}
use Rattle.hw_trail_laws.specs.Laws.{IsEventOf}
use Rattle.hw_trail_laws.specs.Bridge.{idle, event_at, story_of}
use Rattle.hw_model.specs.Rooms.{IsRoomOf}
use Rattle.hw_trail_laws.proofs.Sides.{implied_parts}
use Rattle.hw_trail_laws.proofs.Truth.{free_unknown}
use Rattle.hw_trail_laws.proofs.Trails.{room_known, unknown_at, at_unknown, told_at, room_end, take_all}
use Rattle.hw_trail_laws.proofs.Levels.{at_false, false_at}
use Rattle.hw_trail_laws.proofs.Decisions.{event_is}
use Rattle.hw_trail_laws.proofs.Kept.{decided_kept, take_take}
use Rattle.hw_trail_laws.proofs.Many.{few_events}
use Rattle.hw_trail.specs.Bounds.{range_end, knew, makes, KeepsBounds}
use Rattle.hw_trail.proofs.Finds.{found, read}

-- ---- what a room knows of an open literal's side

both : (a b : Bool) → a ≡ true → (a && b) ≡ b
both true b e = refl
both false b e = absurd cc

knew_is : (r : RoomModel) → IsRoom r → (e m : Lit) → IsLitOf r.ships e → implies e m ≡ true → truth r e ≡ Free → knows r m ≡ knew (range_end r e) m
knew_is r is (AtOrAfter v k) (AtOrAfter w j) f h free =
    let p = implied_parts (AtOrAfter v k) (AtOrAfter w j) h in
    let lt : w < r.ships = omega (arith, f.0, p.ones) in
    both (nat_lt w r.ships) (nat_le j (low_of r w)) (lt-ltb _ _ lt) ∙ ap (λ u. nat_le j (low_of r u)) (sym p.ones)
knew_is r is (Before v k) (Before w j) f h free =
    let p = implied_parts (Before v k) (Before w j) h in
    let lt : w < r.ships = omega (arith, f.0, p.ones) in
    both (nat_lt w r.ships) (nat_lt (high_of r w) j) (lt-ltb _ _ lt) ∙ ap (λ u. nat_lt (high_of r u) j) (sym p.ones)
knew_is r is (First v w) (First a b) f h free =
    let p = implied_parts (First v w) (First a b) h in
    sym (ap (λ x. knows r (First x w)) p.ones ∙ ap (λ y. knows r (First a y)) p.others) ∙ (free_unknown r is (First v w) free).0
knew_is r is (NotFirst v w) (NotFirst a b) f h free =
    let p = implied_parts (NotFirst v w) (NotFirst a b) h in
    sym (ap (λ x. knows r (NotFirst x w)) p.ones ∙ ap (λ y. knows r (NotFirst a y)) p.others) ∙ (free_unknown r is (NotFirst v w) free).0
knew_is r is (AtOrAfter v k) (Before w j) f h free = absurd (let p = implied_parts (AtOrAfter v k) (Before w j) h in omega (arith, p.kinds))
knew_is r is (AtOrAfter v k) (First w j) f h free = absurd (let p = implied_parts (AtOrAfter v k) (First w j) h in omega (arith, p.kinds))
knew_is r is (AtOrAfter v k) (NotFirst w j) f h free = absurd (let p = implied_parts (AtOrAfter v k) (NotFirst w j) h in omega (arith, p.kinds))
knew_is r is (Before v k) (AtOrAfter w j) f h free = absurd (let p = implied_parts (Before v k) (AtOrAfter w j) h in omega (arith, p.kinds))
knew_is r is (Before v k) (First w j) f h free = absurd (let p = implied_parts (Before v k) (First w j) h in omega (arith, p.kinds))
knew_is r is (Before v k) (NotFirst w j) f h free = absurd (let p = implied_parts (Before v k) (NotFirst w j) h in omega (arith, p.kinds))
knew_is r is (First v k) (AtOrAfter w j) f h free = absurd (let p = implied_parts (First v k) (AtOrAfter w j) h in omega (arith, p.kinds))
knew_is r is (First v k) (Before w j) f h free = absurd (let p = implied_parts (First v k) (Before w j) h in omega (arith, p.kinds))
knew_is r is (First v k) (NotFirst w j) f h free = absurd (let p = implied_parts (First v k) (NotFirst w j) h in omega (arith, p.kinds))
knew_is r is (NotFirst v k) (AtOrAfter w j) f h free = absurd (let p = implied_parts (NotFirst v k) (AtOrAfter w j) h in omega (arith, p.kinds))
knew_is r is (NotFirst v k) (Before w j) f h free = absurd (let p = implied_parts (NotFirst v k) (Before w j) h in omega (arith, p.kinds))
knew_is r is (NotFirst v k) (First w j) f h free = absurd (let p = implied_parts (NotFirst v k) (First w j) h in omega (arith, p.kinds))

-- ---- the event that made a literal False

knew_at : (t : TrailModel) → IsTrail t → (p : ℕ) → p < length t.events → (m : Lit) → implies (event_at t p).lit m ≡ true → knows (room_before t p) m ≡ knew (range_end (room_before t p) (event_at t p).lit) m
knew_at t is p lt m h =
    let k = room_known t is p (omega (arith, lt)) in
    let e = told_at t is p lt in
    knew_is (room_before t p) k.of.is_room (event_at t p).lit m (subst (λ n. IsLitOf n (event_at t p).lit) (sym k.of.same_ships) (lit_of (trail_shape t) (event_at t p).lit e.fits)) h e.free

not_is : (b : Bool) → b ≡ false → not b ≡ true
not_is b e = ap not e

pub made_here : (t : TrailModel) (p bound : ℕ) (e : Event) (lit : Lit) → IsTrail t → lit_fits (trail_shape t) lit ≡ true → p < length t.events → e ≡ get_or t.events p e → bound ≡ range_end (room_before t p) (event_at t p).lit → (makes e.lit bound (negation lit) ≡ true) ↔ (event_of t lit ≡ Some p)
made_here t p bound e lit is f lt at same = (into, out)
  where
    event : e ≡ event_at t p
    event = read t.events p e lt at

    into : makes e.lit bound (negation lit) ≡ true → event_of t lit ≡ Some p
    into y =
        let parts = and_parts (implies e.lit (negation lit)) (not (knew bound (negation lit))) y in
        let k = room_known t is p (omega (arith, lt)) in
        let here : implies (event_at t p).lit (negation lit) ≡ true = subst (λ (x : Event). implies x.lit (negation lit) ≡ true) event parts.0 in
        let no' : knows (room_before t p) (negation lit) ≡ false = knew_at t is p lt (negation lit) here ∙ ap (λ n. knew n (negation lit)) (sym same) ∙ was_not (knew bound (negation lit)) parts.1 in
        sym (found t lit p e is f lt at (unknown_at t p k (negation lit) no') parts.0)

    out : event_of t lit ≡ Some p → makes e.lit bound (negation lit) ≡ true
    out h =
        let next : p + 1 ≡ suc p = omega arith in
        let place : IsEventOf t lit p = ((event_is t lit is f).0 p).0 h in
        let k = room_known t is p (omega (arith, lt)) in
        let after : room_at (story_of t) (suc p) (negation lit) ≡ true = false_at t is (suc p) (omega (arith, lt)) lit f (subst (λ n. truth (room_before t n) lit ≡ False) next place.after) in
        let before : room_at (story_of t) p (negation lit) ≡ false = elim (cases_Bool (room_at (story_of t) p (negation lit))) [
          | inl y ↦ absurd (place.before p (omega arith) (at_false t is p (omega (arith, lt)) lit y))
          | inr n ↦ n
        ] in
        let here : implies (event_at t p).lit (negation lit) ≡ true = elim (or_cases (implies (event_at t p).lit (negation lit)) (room_at (story_of t) p (negation lit)) after) [
          | inl y ↦ y
          | inr y ↦ absurd (clash _ y before)
        ] in
        let no' : knew bound (negation lit) ≡ false = ap (λ n. knew n (negation lit)) same ∙ sym (knew_at t is p lt (negation lit) here) ∙ at_unknown t p k (negation lit) before in
        and_from _ _ (subst (λ (x : Event). implies x.lit (negation lit) ≡ true) (sym event) here) (not_is _ no')

-- none of the events from a place on made it so
abbrev pub NoneFrom : TrailModel → Lit → ℕ → Type 0
NoneFrom t lit place = (p : ℕ) → place ≤ p → p < length t.events → event_of t lit ≡ Some p → ⊥

pub none_at_all : (t : TrailModel) (lit : Lit) → IsTrail t → lit_fits (trail_shape t) lit ≡ true → NoneFrom t lit 0 → None ≡ event_of t lit
none_at_all t lit is f h = by (event_of t lit) refl
  where
    by : (o : Option ℕ) → event_of t lit ≡ o → None ≡ o
    by None e = refl
    by (Some p) e = absurd (h p (omega arith) (((event_is t lit is f).0 p).0 e).inside e)

pub none_where : (t : TrailModel) (lit : Lit) → IsTrail t → lit_fits (trail_shape t) lit ≡ true → (truth (room_of t) lit ≡ False → ⊥) → None ≡ event_of t lit
none_where t lit is f n = none_at_all t lit is f (λ p le lt e. n (
    let place : IsEventOf t lit p = ((event_is t lit is f).0 p).0 e in
    (event_is t lit is f).1.1 (some_in (event_of t lit) p e place.inside)))
  where
    some_in : (o : Option ℕ) (p : ℕ) → o ≡ Some p → p < length t.events → IsSomeAnd o (λ place. place < length t.events)
    some_in o p e lt = subst (λ x. IsSomeAnd x (λ place. place < length t.events)) (sym e) lt

-- ---- one more event, and fewer

pub bounds_more : (t : TrailModel) (bounds items : List ℕ) (bound capacity capacity' : ℕ) (e : Event) (events : List Event) → KeepsBounds t bounds capacity → bound ≡ range_end (room_of t) e.lit → items ≡ bounds ++ bound ∷ [] → events ≡ t.events ++ e ∷ [] → capacity' ≡ capacity → KeepsBounds (record { ships = t.ships; slots = t.slots; events = events; level = e.level }) items capacity'
bounds_more t bounds items bound capacity capacity' e events k is i es c =
    subst (λ (xs : List Event). KeepsBounds (record { ships = t.ships; slots = t.slots; events = xs; level = e.level }) items capacity') (sym es)
    (subst (λ xs. KeepsBounds (with_event t e) xs capacity') (sym i) (record {
      same_length = omega (arith, length-append bounds (bound ∷ []), length-append t.events (e ∷ []), k.same_length);
      each = each;
      reserved = omega (arith, k.reserved, c);
    }))
  where
    each : (p : ℕ) → p < length (t.events ++ e ∷ []) → get_or (bounds ++ bound ∷ []) p 0 ≡ range_end (room_by (trail_shape t) (take p (t.events ++ e ∷ []))) (get_or (t.events ++ e ∷ []) p idle).lit
    each p lt = elim (cases_lt p (length t.events)) [
      | inl early ↦
          let a : get_or (bounds ++ bound ∷ []) p 0 ≡ get_or bounds p 0 = get_or_append_left bounds (bound ∷ []) 0 p (omega (arith, early, k.same_length)) in
          let b : take p (t.events ++ e ∷ []) ≡ take p t.events = take-append-le p t.events (e ∷ []) (omega (arith, early)) in
          let d : get_or (t.events ++ e ∷ []) p idle ≡ get_or t.events p idle = get_or_append_left t.events (e ∷ []) idle p early in
          a ∙ k.each p early ∙ sym (ap (λ xs. range_end (room_by (trail_shape t) xs) (get_or (t.events ++ e ∷ []) p idle).lit) b ∙ ap (λ (x : Event). range_end (room_before t p) x.lit) d)
      | inr late ↦
          let at : length t.events ≡ p = omega (arith, late, lt, length-append t.events (e ∷ [])) in
          let a : get_or (bounds ++ bound ∷ []) p 0 ≡ bound = get_or_push bounds bound 0 p (k.same_length ∙ at) in
          let b : take p (t.events ++ e ∷ []) ≡ t.events = take-append-le p t.events (e ∷ []) (omega (arith, at)) ∙ ap (λ n. take n t.events) (sym at) ∙ take_all t.events in
          let d : get_or (t.events ++ e ∷ []) p idle ≡ e = get_or_push t.events e idle p at in
          a ∙ is ∙ sym (ap (λ xs. range_end (room_by (trail_shape t) xs) (get_or (t.events ++ e ∷ []) p idle).lit) b ∙ ap (λ (x : Event). range_end (room_of t) x.lit) d)
    ]

-- the first events' bounds
pub bounds_first : (t : TrailModel) (bounds : List ℕ) (capacity capacity' level count : ℕ) → KeepsBounds t bounds capacity → count ≤ length t.events → capacity' ≡ capacity → KeepsBounds (record { ships = t.ships; slots = t.slots; events = take count t.events; level = level }) (take count bounds) capacity'
bounds_first t bounds capacity capacity' level count k le c = record {
  same_length = length-take-le count bounds (omega (arith, le, k.same_length)) ∙ sym (length-take-le count t.events le);
  each = λ p lt.
      let in' : p < count = omega (arith, lt, length-take-le count t.events le) in
      let a : get_or (take count bounds) p 0 ≡ get_or bounds p 0 = get_or-take count bounds p 0 in' in
      let b : take p (take count t.events) ≡ take p t.events = take_take p count t.events (omega (arith, in')) in
      let d : get_or (take count t.events) p idle ≡ get_or t.events p idle = get_or-take count t.events p idle in' in
      a ∙ k.each p (omega (arith, in', le)) ∙ sym (ap (λ xs. range_end (room_by (trail_shape t) xs) (get_or (take count t.events) p idle).lit) b ∙ ap (λ (x : Event). range_end (room_before t p) x.lit) d);
  reserved = omega (arith, k.reserved, c);
}

-- where a literal is open there is room for one more
pub one_bound : (t : TrailModel) (bounds : List ℕ) (capacity : ℕ) (lit : Lit) → KeepsBounds t bounds capacity → IsTrail t → lit_fits (trail_shape t) lit ≡ true → truth (room_of t) lit ≡ Free → length bounds < capacity
one_bound t bounds capacity lit k is fits free =
    let more = few_events (decided t lit) (decided_kept t lit is fits free) in
    let e : Event = record { lit = lit; level = t.level + 1; why = None } in
    omega (arith, more, length-append t.events (e ∷ []), k.same_length, k.reserved)

-- the literal is one of the trail's room
pub lit_here : (t : TrailModel) (lit : Lit) (room : RoomModel) → IsTrail t → lit_fits (trail_shape t) lit ≡ true → room ≡ room_of t → IsLitOf room.ships lit
lit_here t lit room is f e =
    let of : IsRoomOf (trail_shape t) (room_of t) = subst (IsRoomOf (trail_shape t)) (room_end t) (room_known t is (length t.events) (omega arith)).of in
    subst (λ n. IsLitOf n lit) (sym (ap (λ (r : RoomModel). r.ships) e ∙ of.same_ships)) (lit_of (trail_shape t) lit f)

pub not_false : (t : LitTruth) → (t ≡ True) ⊎ (t ≡ Free) → t ≡ False → ⊥
not_false t (inl e) h = absurd cc
not_false t (inr e) h = absurd cc
