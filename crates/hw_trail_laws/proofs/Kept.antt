-- A trail stays one when it grows and when it is cut back, and what was quiet at the ends of lower levels stays so.
use Rattle.std.proofs.Common.{◌≡◌, ℕ, zero, suc, ◌+◌, ◌-◌, ◌<◌, ◌≤◌, Bool, true, false, cond, nat_le, List, [], ◌∷◌, ◌++◌, Option, Some, None, length, take, get_or, filter, slice_get, IfSome, All, refl, sym, ap, ◌∙◌, subst, arith, inl, inr, append-nil}
use Rattle.std.proofs.Math.Seq.{take-append_seam, get_or-append_seam}
use Rattle.std.proofs.lemmas.Bool.{cases_lt, leb-true, leb-false, le-leb, lt-leb}
use Rattle.std.proofs.lemmas.List.{get_or_append_left, take-append-le, get_or-take, length-append, length-take-le}
use Rattle.std.proofs.lemmas.List.Sums.{fold_push}
use Rattle.std.proofs.lemmas.List.Elements.{filter-append}
use Rattle.std.proofs.lemmas.Option.{slice_get-get_or, slice_get_past}
use Rattle.hw_model.specs.declared.lit.Lit.{Lit}
use Rattle.hw_model.specs.declared.lit.LitTruth.TheVariants.{Free}
use Rattle.hw_model.specs.declared.narrowing.Narrowed.TheVariants.{Cut}
use Rattle.hw_model.specs.Lits.{lit_fits, IsClause}
use Rattle.hw_model.specs.declared.shape.Shape.{Shape}
use Rattle.hw_model.specs.Limits.{ShapeFits}
use Rattle.hw_model.specs.Rooms.{whole_room}
use Rattle.hw_model.specs.Narrowing.{truth, cut}
use Rattle.hw_model.specs.Replay.{narrowing, QuietClause}
use Rattle.hw_trail_laws.specs.declared.event.Event.{Event}
use Rattle.hw_trail_laws.specs.declared.event.Why.{Why}
use Rattle.hw_trail_laws.specs.Trails.{TrailModel, trail_shape, reason, reason_clause, room_by, room_before, room_of, level_after, Because, Happens, IsTrail, no_events, with_event, decided, implied, back_to}
use Rattle.hw_trail_laws.specs.Learning.{QuietBelow}
use Rattle.hw_trail_laws.specs.Bridge.{idle, event_at, story_of}
use Rattle.hw_trail_laws.proofs.Stories.{levels_rise}
use Rattle.hw_trail_laws.proofs.Trails.{told_at, trail_story, level_suc, take_all}

-- ---- what is told, by places

pub told_from : (es : List Event) (P : ℕ → Event → Type 0) → ((p : ℕ) → p < length es → P p (get_or es p idle)) → (p : ℕ) → IfSome (slice_get es p) (P p)
told_from es P h p = elim (cases_lt p (length es)) [
  | inl lt ↦ subst (λ o. IfSome o (P p)) (sym (slice_get-get_or es p idle lt)) (h p lt)
  | inr past ↦ subst (λ o. IfSome o (P p)) (sym (slice_get_past es p past)) tt
]

-- ---- no event

-- the numbers of ships and slots alone count
of_shape : (shape : Shape) → ShapeFits shape → ShapeFits (record { ships = shape.ships; slots = shape.slots; rules = 0 })
of_shape shape sized = record { some_ship = sized.some_ship; few_ships = sized.few_ships; some_slot = sized.some_slot; few_slots = sized.few_slots }

pub none_kept : (shape : Shape) → ShapeFits shape → IsTrail (no_events shape)
none_kept shape sized = record { shape = of_shape shape sized; told = λ p. tt; last_level = refl }

-- ---- one more

more_told : (t : TrailModel) (event : Event) → IsTrail t → Happens (trail_shape t) (room_of t) (level_after t.events) event → (p : ℕ) → p < length (t.events ++ event ∷ [])
    → Happens (trail_shape t) (room_by (trail_shape t) (take p (t.events ++ event ∷ []))) (level_after (take p (t.events ++ event ∷ []))) (get_or (t.events ++ event ∷ []) p idle)
more_told t event is h p lt = elim (cases_lt p (length t.events)) [
  | inl early ↦
      let a : get_or (t.events ++ event ∷ []) p idle ≡ get_or t.events p idle = get_or_append_left t.events (event ∷ []) idle p early in
      let b : take p (t.events ++ event ∷ []) ≡ take p t.events = take-append-le p t.events (event ∷ []) (omega (arith, early)) in
      subst (λ es. Happens (trail_shape t) (room_by (trail_shape t) es) (level_after es) (get_or (t.events ++ event ∷ []) p idle)) (sym b) (subst (Happens (trail_shape t) (room_before t p) (level_after (take p t.events))) (sym a) (told_at t is p early))
  | inr late ↦
      let e : length t.events ≡ p = omega (arith, late, lt, length-append t.events (event ∷ [])) in
      subst (λ q. Happens (trail_shape t) (room_by (trail_shape t) (take q (t.events ++ event ∷ []))) (level_after (take q (t.events ++ event ∷ []))) (get_or (t.events ++ event ∷ []) q idle)) e (
      subst (λ es. Happens (trail_shape t) (room_by (trail_shape t) es) (level_after es) (get_or (t.events ++ event ∷ []) (length t.events) idle)) (sym (take-append_seam t.events (event ∷ []))) (
      subst (Happens (trail_shape t) (room_of t) (level_after t.events)) (sym (get_or-append_seam t.events event [] idle)) h))
]

pub more_kept : (t : TrailModel) (event : Event) → IsTrail t → Happens (trail_shape t) (room_of t) (level_after t.events) event → IsTrail (with_event t event)
more_kept t event is h = record {
  shape = is.shape;
  told = told_from (t.events ++ event ∷ []) (λ p. Happens (trail_shape t) (room_by (trail_shape t) (take p (t.events ++ event ∷ []))) (level_after (take p (t.events ++ event ∷ [])))) (more_told t event is h);
  last_level = sym (fold_push (λ level (e : Event). e.level) 0 t.events event);
}

pub decided_kept : (t : TrailModel) (lit : Lit) → IsTrail t → lit_fits (trail_shape t) lit ≡ true → truth (room_of t) lit ≡ Free → IsTrail (decided t lit)
decided_kept t lit is fits free = more_kept t (record { lit = lit; level = t.level + 1; why = None }) is (record {
  fits = fits;
  clause_fits = tt;
  free = free;
  because = ap (λ n. n + 1) is.last_level;
})

pub implied_kept : (t : TrailModel) (lit : Lit) (why : Why) → IsTrail t → lit_fits (trail_shape t) lit ≡ true → IsClause (trail_shape t) (reason_clause why) → truth (room_of t) lit ≡ Free → narrowing (reason_clause why) (room_of t) ≡ Cut lit → IsTrail (implied t lit why)
implied_kept t lit why is fits clause free cuts = more_kept t (record { lit = lit; level = t.level; why = Some why }) is (record {
  fits = fits;
  clause_fits = clause;
  free = free;
  because = (is.last_level, cuts);
})

pub more_room : (t : TrailModel) (event : Event) → room_of (with_event t event) ≡ cut event.lit (room_of t)
more_room t event = fold_push (λ room (e : Event). cut e.lit room) (whole_room (trail_shape t)) t.events event

-- ---- the events up to a level are the first ones

abbrev pub Rising : List Event → Type 0
Rising es = (p q : ℕ) → p ≤ q → q < length es → (get_or es p idle).level ≤ (get_or es q idle).level

pub record Front (es : List Event) (level : ℕ) : Type 0 where
  pub count : ℕ
  pub among : count ≤ length es
  pub first : filter (λ event. nat_le event.level level) es ≡ take count es
  pub low : (q : ℕ) → q < count → (get_or es q idle).level ≤ level
  pub high : (q : ℕ) → count ≤ q → q < length es → level < (get_or es q idle).level

none_by : (b : Bool) (e : Event) (xs : List Event) → b ≡ false → xs ≡ [] → cond b (e ∷ xs) xs ≡ []
none_by true e xs h k = absurd cc
none_by false e xs h k = k

none_low : (es : List Event) (level : ℕ) → ((q : ℕ) → q < length es → level < (get_or es q idle).level) → filter (λ event. nat_le event.level level) es ≡ []
none_low [] level h = refl
none_low (e ∷ es) level h =
    none_by (nat_le e.level level) e (filter (λ event. nat_le event.level level) es) (lt-leb _ _ (h 0 (omega arith))) (none_low es level (λ q lt. h (suc q) (omega (arith, lt))))

tail_rising : (e : Event) (es : List Event) → Rising (e ∷ es) → Rising es
tail_rising e es r p q le lt = r (suc p) (suc q) (omega (arith, le)) (omega (arith, lt))

front_by : (b : Bool) (e : Event) (es : List Event) (level : ℕ) → nat_le e.level level ≡ b → Rising (e ∷ es) → Front es level → Front (e ∷ es) level
front_by true e es level h r f = record {
  count = suc f.count;
  among = omega (arith, f.among);
  first = ap (λ b. cond b (e ∷ filter (λ event. nat_le event.level level) es) (filter (λ event. nat_le event.level level) es)) h ∙ ap (λ xs. e ∷ xs) f.first;
  low = λ q. low_at e es level (leb-true _ _ h) f q;
  high = λ q. high_at e es level f q;
}
  where
    low_at : (e : Event) (es : List Event) (level : ℕ) → e.level ≤ level → (f : Front es level) → (q : ℕ) → q < suc f.count → (get_or (e ∷ es) q idle).level ≤ level
    low_at e es level le f zero lt = le
    low_at e es level le f (suc q) lt = f.low q (omega (arith, lt))

    high_at : (e : Event) (es : List Event) (level : ℕ) (f : Front es level) → (q : ℕ) → suc f.count ≤ q → q < length (e ∷ es) → level < (get_or (e ∷ es) q idle).level
    high_at e es level f zero le lt = absurd (omega (arith, le))
    high_at e es level f (suc q) le lt = f.high q (omega (arith, le)) (omega (arith, lt))
front_by false e es level h r f =
    let above : level < e.level = leb-false _ _ h in
    let all : (q : ℕ) → q < length (e ∷ es) → level < (get_or (e ∷ es) q idle).level = λ q lt. omega (arith, above, r 0 q (omega arith) lt) in
    record {
      count = 0;
      among = omega arith;
      first = none_low (e ∷ es) level all;
      low = λ q lt. absurd (omega (arith, lt));
      high = λ q le lt. all q lt;
    }

pub front : (es : List Event) (level : ℕ) → Rising es → Front es level
front [] level r = record { count = 0; among = omega arith; first = refl; low = λ q lt. absurd (omega (arith, lt)); high = λ q le lt. absurd (omega (arith, lt)) }
front (e ∷ es) level r = front_by (nat_le e.level level) e es level refl r (front es level (tail_rising e es r))

pub rising : (t : TrailModel) → IsTrail t → Rising t.events
rising t is p q le lt = levels_rise (story_of t) (length t.events) (trail_story t is) p q le lt

pub front_of : (t : TrailModel) → IsTrail t → (level : ℕ) → Front t.events level
front_of t is level = front t.events level (rising t is)

-- ---- going back

pub take_take : {A : Type 0} (p k : ℕ) (xs : List A) → p ≤ k → take p (take k xs) ≡ take p xs
take_take zero k xs le = refl
take_take (suc p) zero xs le = absurd (omega (arith, le))
take_take (suc p) (suc k) [] le = refl
take_take (suc p) (suc k) (x ∷ xs) le = ap (λ ys. x ∷ ys) (take_take p k xs (omega (arith, le)))

front_told : (t : TrailModel) → IsTrail t → (k : ℕ) → k ≤ length t.events → (p : ℕ) → p < length (take k t.events)
    → Happens (trail_shape t) (room_by (trail_shape t) (take p (take k t.events))) (level_after (take p (take k t.events))) (get_or (take k t.events) p idle)
front_told t is k le p lt =
    let in' : p < k = omega (arith, lt, length-take-le k t.events le) in
    let a : get_or (take k t.events) p idle ≡ get_or t.events p idle = get_or-take k t.events p idle in' in
    let b : take p (take k t.events) ≡ take p t.events = take_take p k t.events (omega (arith, in')) in
    subst (λ es. Happens (trail_shape t) (room_by (trail_shape t) es) (level_after es) (get_or (take k t.events) p idle)) (sym b) (subst (Happens (trail_shape t) (room_before t p) (level_after (take p t.events))) (sym a) (told_at t is p (omega (arith, in', le))))

steps_by_one : (t : TrailModel) → IsTrail t → (p : ℕ) → p < length t.events → (event_at t p).level ≤ level_after (take p t.events) + 1
steps_by_one t is p lt = by (reason (event_at t p)) (told_at t is p lt).because
  where
    by : (why : Option (List Lit)) → Because (room_before t p) (level_after (take p t.events)) (event_at t p).lit (event_at t p).level why → (event_at t p).level ≤ level_after (take p t.events) + 1
    by None b = omega (arith, b)
    by (Some c) b = omega (arith, b.0)

-- the level is at most the number of events
pub level_few : (t : TrailModel) → IsTrail t → (p : ℕ) → p ≤ length t.events → level_after (take p t.events) ≤ p
level_few t is zero le = omega arith
level_few t is (suc p) le = omega (arith, level_suc t p (omega (arith, le)), steps_by_one t is p (omega (arith, le)), level_few t is p (omega (arith, le)))

pub level_most : (t : TrailModel) → IsTrail t → t.level ≤ length t.events
level_most t is =
    let e : level_after (take (length t.events) t.events) ≡ level_after t.events = ap level_after (take_all t.events) in
    omega (arith, level_few t is (length t.events) (omega arith), e, is.last_level)

level_low : (t : TrailModel) (level k : ℕ) → k ≤ length t.events → ((q : ℕ) → q < k → (get_or t.events q idle).level ≤ level) → level_after (take k t.events) ≤ level
level_low t level zero le low = omega arith
level_low t level (suc k) le low = omega (arith, level_suc t k (omega (arith, le)), low k (omega arith))

front_level : (t : TrailModel) → IsTrail t → (level : ℕ) → level ≤ t.level → (f : Front t.events level) → level ≡ level_after (take f.count t.events)
front_level t is level le f =
    let below : level_after (take f.count t.events) ≤ level = level_low t level f.count f.among f.low in
    elim (cases_lt f.count (length t.events)) [
      | inl lt ↦ omega (arith, below, f.high f.count (omega arith) lt, steps_by_one t is f.count lt)
      | inr past ↦
          let e : f.count ≡ length t.events = omega (arith, past, f.among) in
          let all : level_after (take f.count t.events) ≡ level_after t.events = ap (λ n. level_after (take n t.events)) e ∙ ap level_after (take_all t.events) in
          omega (arith, below, all, le, is.last_level)
    ]

pub back_kept : (t : TrailModel) (level : ℕ) → IsTrail t → level ≤ t.level → IsTrail (back_to t level)
back_kept t level is le =
    let f = front_of t is level in
    subst (λ es. IsTrail (record { ships = t.ships; slots = t.slots; events = es; level = level })) (sym f.first) (record {
      shape = is.shape;
      told = told_from (take f.count t.events) (λ p. Happens (trail_shape t) (room_by (trail_shape t) (take p (take f.count t.events))) (level_after (take p (take f.count t.events)))) (front_told t is f.count f.among);
      last_level = front_level t is level le f;
    })

-- the room at the end of a level is the one before the first event above it
pub back_room : (t : TrailModel) (level : ℕ) → (f : Front t.events level) → room_of (back_to t level) ≡ room_before t f.count
back_room t level f = ap (room_by (trail_shape t)) f.first

-- ---- quiet at the ends of lower levels

-- a test that passes what another one passes
pub filter_filter : (p q : Event → Bool) → ((e : Event) → p e ≡ true → q e ≡ true) → (es : List Event) → filter p (filter q es) ≡ filter p es
filter_filter p q h [] = refl
filter_filter p q h (e ∷ es) = by (p e) (q e) p q e es refl refl (h e) (filter_filter p q h es)
  where
    by : (a b : Bool) (p q : Event → Bool) (e : Event) (es : List Event) → p e ≡ a → q e ≡ b → (p e ≡ true → q e ≡ true) → filter p (filter q es) ≡ filter p es → filter p (cond b (e ∷ filter q es) (filter q es)) ≡ cond a (e ∷ filter p es) (filter p es)
    by true true p q e es x y k ih = ap (λ c. cond c (e ∷ filter p (filter q es)) (filter p (filter q es))) x ∙ ap (λ xs. e ∷ xs) ih
    by true false p q e es x y k ih = absurd (let z : q e ≡ true = k x in cc)
    by false true p q e es x y k ih = ap (λ c. cond c (e ∷ filter p (filter q es)) (filter p (filter q es))) x ∙ ih
    by false false p q e es x y k ih = ih

lower : (i j : ℕ) → i ≤ j → (e : Event) → nat_le e.level i ≡ true → nat_le e.level j ≡ true
lower i j le e h =
    let a : e.level ≤ i = leb-true _ _ h in
    le-leb _ _ (omega (arith, a, le))

pub back_back : (t : TrailModel) (i j : ℕ) → i ≤ j → back_to (back_to t j) i ≡ back_to t i
back_back t i j le = ap (λ es. record { ships = t.ships; slots = t.slots; events = es; level = i }) (filter_filter (λ event. nat_le event.level i) (λ event. nat_le event.level j) (lower i j le) t.events)

last_dropped : (b : Bool) (event : Event) → b ≡ false → cond b (event ∷ []) [] ≡ []
last_dropped true event h = absurd cc
last_dropped false event h = refl

pub back_more : (t : TrailModel) (event : Event) (level : ℕ) → level < event.level → back_to (with_event t event) level ≡ back_to t level
back_more t event level lt = ap (λ es. record { ships = t.ships; slots = t.slots; events = es; level = level }) (
    filter-append (λ e. nat_le e.level level) t.events (event ∷ [])
    ∙ ap (λ es. filter (λ e. nat_le e.level level) t.events ++ es) (last_dropped (nat_le event.level level) event (lt-leb _ _ lt))
    ∙ append-nil (filter (λ e. nat_le e.level level) t.events))

-- all events are of the current level or below
pub levels_low : (t : TrailModel) → IsTrail t → (q : ℕ) → q < length t.events → (event_at t q).level ≤ t.level
levels_low t is q lt =
    let n : length t.events - 1 < length t.events = omega (arith, lt) in
    let last : (event_at t (length t.events - 1)).level ≡ level_after (take (suc (length t.events - 1)) t.events) = sym (level_suc t (length t.events - 1) n) in
    let e : suc (length t.events - 1) ≡ length t.events = omega (arith, lt) in
    let whole : level_after (take (suc (length t.events - 1)) t.events) ≡ level_after t.events = ap (λ k. level_after (take k t.events)) e ∙ ap level_after (take_all t.events) in
    omega (arith, rising t is q (length t.events - 1) (omega (arith, lt)) n, last, whole, is.last_level)

pub back_same : (t : TrailModel) → IsTrail t → back_to t t.level ≡ t
back_same t is =
    let f = front_of t is t.level in
    let all : f.count ≡ length t.events = elim (cases_lt f.count (length t.events)) [
      | inl lt ↦ absurd (omega (arith, f.high f.count (omega arith) lt, levels_low t is f.count lt))
      | inr past ↦ omega (arith, past, f.among)
    ] in
    ap (λ es. record { ships = t.ships; slots = t.slots; events = es; level = t.level }) (f.first ∙ ap (λ k. take k t.events) all ∙ take_all t.events)

pub quiet_implied : (t : TrailModel) (lit : Lit) (why : Why) (clauses : List (List Lit)) → QuietBelow t clauses → QuietBelow (implied t lit why) clauses
quiet_implied t lit why clauses h = λ level lt.
    subst (λ u. All (λ clause. QuietClause clause (room_of u)) clauses) (sym (back_more t (record { lit = lit; level = t.level; why = Some why }) level lt)) (h level lt)

pub quiet_decided : (t : TrailModel) (lit : Lit) (clauses : List (List Lit)) → IsTrail t → All (λ clause. QuietClause clause (room_of t)) clauses → QuietBelow t clauses → QuietBelow (decided t lit) clauses
quiet_decided t lit clauses is here h = λ level lt.
    subst (λ u. All (λ clause. QuietClause clause (room_of u)) clauses) (sym (back_more t (record { lit = lit; level = t.level + 1; why = None }) level lt)) (
    elim (cases_lt level t.level) [
      | inl below ↦ h level below
      | inr at ↦
          let e : t.level ≡ level = omega (arith, at, lt) in
          subst (λ n. All (λ clause. QuietClause clause (room_of (back_to t n))) clauses) e (subst (λ u. All (λ clause. QuietClause clause (room_of u)) clauses) (sym (back_same t is)) here)
    ])

pub quiet_back : (t : TrailModel) (level : ℕ) (clauses : List (List Lit)) → level ≤ t.level → QuietBelow t clauses → QuietBelow (back_to t level) clauses
quiet_back t level clauses le h = λ i lt.
    subst (λ u. All (λ clause. QuietClause clause (room_of u)) clauses) (sym (back_back t i level (omega (arith, lt)))) (h i (omega (arith, lt, le)))
