-- The levels of a trail by their decisions, the event that made a literal False, and few clauses.
use Rattle.std.proofs.Common.{◌≡◌, ℕ, zero, suc, ◌+◌, ◌-◌, ◌*◌, ◌/◌, ◌^◌, ◌<◌, ◌≤◌, true, List, [], ◌∷◌, Option, Some, None, length, take, get_or, map, All, IsSomeAnd, refl, sym, ap, ◌∙◌, subst, arith, inl, inr}
use Rattle.std.specs.Prelude.{AllPairs}
use Rattle.std.proofs.lemmas.Bool.{cases_Bool, cases_lt}
use Rattle.std.proofs.lemmas.List.{length-map}
use Rattle.std.proofs.lemmas.List.Elements.{All-map, All-weaker}
use Rattle.std.proofs.lemmas.Option.{slice_get-get_or, same_Some}
use Rattle.hw_lemmas.proofs.Truths.{clash}
use Rattle.hw_model.specs.declared.lit.Lit.{Lit}
use Rattle.hw_model.specs.declared.lit.LitTruth.TheVariants.{False}
use Rattle.hw_model.specs.declared.shape.Shape.{Shape}
use Rattle.hw_model.specs.Lits.{negation, lit_fits, IsClause}
use Rattle.hw_model.specs.Limits.{ShapeFits}
use Rattle.hw_model.specs.Rooms.{RoomModel, IsRoomOf, RoomWithin}
use Rattle.hw_model.specs.Narrowing.{truth, denied}
use Rattle.hw_model_laws.proofs.Searches.{first_found}
use Rattle.hw_trail_laws.specs.declared.event.Event.{Event}
use Rattle.hw_trail_laws.specs.declared.event.Why.{Why}
use Rattle.hw_trail_laws.specs.Stories.{room_at}
use Rattle.hw_trail_laws.specs.Trails.{TrailModel, trail_shape, reason, reason_clause, room_before, room_of, level_after, Because, IsTrail}
use Rattle.hw_trail_laws.specs.Learning.{event_of, level_by, level_at}
use Rattle.hw_lits.specs.Steps.{is_false}
use Rattle.hw_trail_laws.specs.Laws.{HasLevels, IsEventOf}
use Rattle.hw_trail_laws.specs.Bridge.{idle, event_at, story_of}
use Rattle.hw_trail_laws.proofs.Stories.{decides_first, decides_above, room_falls}
use Rattle.hw_model_laws.proofs.Denying.{denied_is}
use Rattle.hw_trail_laws.proofs.Counted.{rooms_few}
use Rattle.hw_trail_laws.proofs.Trails.{told_at, trail_story, level_suc, take_all}
use Rattle.hw_trail_laws.proofs.Kept.{rising, levels_low}
use Rattle.hw_trail_laws.proofs.Levels.{Made, made_false, when_is_false, false_at, at_false, false_end, end_false}

pub level_here : (t : TrailModel) (p : ℕ) → p < length t.events → level_at t p ≡ (event_at t p).level
level_here t p lt = ap level_by (slice_get-get_or t.events p idle lt)

-- ---- decisions

no_reason : (e : Event) → e.why ≡ None → reason e ≡ None
no_reason e h = ap (λ (o : Option Why). by o) h
  where
    by : Option Why → Option (List Lit)
    by None = None
    by (Some why) = Some (reason_clause why)

-- the event that first came to a level is its decision
first_at : (t : TrailModel) → IsTrail t → (level n : ℕ) → 1 ≤ level → n ≤ length t.events → level ≤ level_after (take n t.events) → (p : ℕ) × (p < n) × ((event_at t p).why ≡ None) × ((event_at t p).level ≡ level)
first_at t is level zero some le up = absurd (omega (arith, some, up))
first_at t is level (suc n) some le up =
    let lt : n < length t.events = omega (arith, le) in
    elim (cases_lt (level_after (take n t.events)) level) [
      | inl below ↦
          let here : level ≤ (event_at t n).level = omega (arith, up, level_suc t n lt) in
          let r = by (event_at t n).why below here (told_at t is n lt).because in
          (n, omega arith, r.0, r.1)
      | inr above ↦ let r = first_at t is level n some (omega (arith, le)) above in (r.0, omega (arith, r.1), r.2, r.3)
    ]
  where
    by : (why : Option Why) → level_after (take n t.events) < level → level ≤ (event_at t n).level → Because (room_before t n) (level_after (take n t.events)) (event_at t n).lit (event_at t n).level (reason (record { lit = (event_at t n).lit; level = (event_at t n).level; why = why })) → (why ≡ None) × ((event_at t n).level ≡ level)
    by None below here b = (refl, omega (arith, below, here, b))
    by (Some why) below here b = absurd (omega (arith, below, here, b.0))

pub has_levels : (t : TrailModel) → IsTrail t → HasLevels t
has_levels t is = record {
  rise = λ p q le lt. omega (arith, rising t is p q le lt, level_here t p (omega (arith, le, lt)), level_here t q lt);
  upto = λ p lt. omega (arith, levels_low t is p lt, level_here t p lt);
  decisions = λ p lt none.
      let n = no_reason (event_at t p) none in (
        omega (arith, decides_above (story_of t) (length t.events) (trail_story t is) p lt n, level_here t p lt),
        λ q less. omega (arith, decides_first (story_of t) (length t.events) (trail_story t is) p lt n q less, level_here t p lt, level_here t q (omega (arith, less, lt))),
      );
  each = λ level some le.
      let whole : level_after (take (length t.events) t.events) ≡ level_after t.events = ap level_after (take_all t.events) in
      let r = first_at t is level (length t.events) some (omega arith) (omega (arith, le, whole, is.last_level)) in
      (r.0, r.1, r.2, level_here t r.0 r.1 ∙ r.3);
}

-- ---- the event that made a literal False

place_found : (t : TrailModel) → IsTrail t → (lit : Lit) → lit_fits (trail_shape t) lit ≡ true → (m : Made t lit) → IsEventOf t lit m.place
place_found t is lit f m =
    let e : suc m.place ≡ m.place + 1 = omega arith in
    record {
      inside = m.inside;
      after = subst (λ n. truth (room_before t n) lit ≡ False) e (at_false t is (suc m.place) (omega (arith, m.inside)) lit m.made);
      before = λ earlier le h. clash _ (false_at t is earlier (omega (arith, le, m.inside)) lit f h) (room_falls (story_of t) earlier m.place le (negation lit) m.before);
    }

-- what is False after an event is False in the room
stays_false : (t : TrailModel) → IsTrail t → (lit : Lit) → lit_fits (trail_shape t) lit ≡ true → (p : ℕ) → p < length t.events → truth (room_before t (p + 1)) lit ≡ False → room_at (story_of t) (length t.events) (negation lit) ≡ true
stays_false t is lit f p lt h =
    let y = false_at t is (p + 1) (omega (arith, lt)) lit f h in
    elim (cases_Bool (room_at (story_of t) (length t.events) (negation lit))) [
      | inl z ↦ z
      | inr n ↦ absurd (clash _ y (room_falls (story_of t) (p + 1) (length t.events) (omega (arith, lt)) (negation lit) n))
    ]

one_event : (t : TrailModel) (lit : Lit) (p q : ℕ) → IsEventOf t lit p → IsEventOf t lit q → p ≡ q
one_event t lit p q a b = elim (cases_lt p q) [
  | inl lt ↦ absurd (b.before (p + 1) (omega (arith, lt)) a.after)
  | inr ge ↦ elim (cases_lt q p) [
    | inl lt ↦ absurd (a.before (q + 1) (omega (arith, lt)) b.after)
    | inr le ↦ omega (arith, ge, le)
  ]
]

found_by : (t : TrailModel) (lit : Lit) (o : Option ℕ) → event_of t lit ≡ o → IsSomeAnd o (λ place. place < length t.events) → (p : ℕ) × (event_of t lit ≡ Some p)
found_by t lit None e h = absurd h
found_by t lit (Some p) e h = (p, e)

pub event_is : (t : TrailModel) (lit : Lit) → IsTrail t → lit_fits (trail_shape t) lit ≡ true → (((place : ℕ) → ((event_of t lit ≡ Some place → IsEventOf t lit place) × (IsEventOf t lit place → event_of t lit ≡ Some place))) × ((truth (room_of t) lit ≡ False → IsSomeAnd (event_of t lit) (λ place. place < length t.events)) × (IsSomeAnd (event_of t lit) (λ place. place < length t.events) → truth (room_of t) lit ≡ False)))
event_is t lit is f = (
  λ place. (from place, λ h. back place h),
  (
    λ e.
        let m = made_false t is lit f (false_end t is lit f e) in
        subst (λ o. IsSomeAnd o (λ place. place < length t.events)) (sym m.event) m.inside,
    λ h.
        let r = found_by t lit (event_of t lit) refl h in
        let p = from r.0 r.1 in
        end_false t is lit (stays_false t is lit f r.0 p.inside p.after),
  ),
)
  where
    back : (place : ℕ) → IsEventOf t lit place → event_of t lit ≡ Some place
    back place h =
        let m = made_false t is lit f (stays_false t is lit f place h.inside h.after) in
        m.event ∙ ap (λ n. Some n) (one_event t lit m.place place (place_found t is lit f m) h)

    from : (place : ℕ) → event_of t lit ≡ Some place → IsEventOf t lit place
    from place e =
        let r = first_found (λ p. is_false (truth (room_before t (p + 1)) lit)) 0 (length t.events) place e in
        let h = when_is_false _ r.passes in
        let m = made_false t is lit f (stays_false t is lit f place (omega (arith, r.upto)) h) in
        subst (IsEventOf t lit) (same_Some m.place place (sym m.event ∙ e)) (place_found t is lit f m)

-- ---- few clauses

pub clauses_few : (shape : Shape) (clauses : List (List Lit)) → ShapeFits shape → All (IsClause shape) clauses → AllPairs (λ earlier later. RoomWithin (denied shape later) (denied shape earlier) → ⊥) clauses → length clauses ≤ (shape.slots * (shape.slots + 1) / 2) ^ shape.ships * 3 ^ (shape.ships * (shape.ships - 1) / 2)
clauses_few shape clauses sized fits new =
    let b = rooms_few shape (map (denied shape) clauses) (All-map (IsRoomOf shape) (denied shape) clauses (All-weaker (IsClause shape) (λ c. IsRoomOf shape (denied shape c)) (λ c f. denied_is shape c sized f) clauses fits)) (λ i j d lt in'.
    let long : j < length clauses = omega (arith, in', length-map clauses (denied shape)) in
    let e = at_map shape clauses i d (omega (arith, lt, long)) in
    let g = at_map shape clauses j d long in
    λ inside. new i j [] lt long (subst (λ r. RoomWithin (denied shape (get_or clauses j [])) r) e (subst (λ r. RoomWithin r (get_or (map (denied shape) clauses) i d)) g inside))) in
    subst (λ n. n ≤ (shape.slots * (shape.slots + 1) / 2) ^ shape.ships * 3 ^ (shape.ships * (shape.ships - 1) / 2)) (length-map clauses (denied shape)) b
  where
    at_map : (shape : Shape) (cs : List (List Lit)) (k : ℕ) (d : RoomModel) → k < length cs → get_or (map (denied shape) cs) k d ≡ denied shape (get_or cs k [])
    at_map shape [] k d lt = absurd (omega (arith, lt))
    at_map shape (c ∷ cs) zero d lt = refl
    at_map shape (c ∷ cs) (suc k) d lt = at_map shape cs k d (omega (arith, lt))
