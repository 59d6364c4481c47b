-- The fit when events come and go, and one deletion that makes it exact.
use Rattle.std.proofs.Common.{◌≡◌, ℕ, zero, suc, ◌+◌, ◌<◌, ◌≤◌, ◌||◌, ◌&&◌, not, Bool, true, false, cond, List, [], ◌∷◌, ◌++◌, Option, Some, None, length, get_or, map, take, filter, slice_get, is_some, All, IsSome, refl, sym, ap, ◌∙◌, subst, arith, inl, inr, option_and_then}
use Rattle.std.specs.Prelude.{Contains, ◌==◌}
use Rattle.std.specs.List.{list_any, range_with_len}
use Rattle.std.specs.List.Sorted.{IsStrictlyIncreasing}
use Rattle.std.proofs.lemmas.Bool.{cases_Bool, and_parts, and_from, or_cases, or_left, or_right, eqb-true, eq-eqb}
use Rattle.std.proofs.lemmas.List.{length-take-le}
use Rattle.std.proofs.lemmas.List.Elements.{All-weaker, All-filter, All-from_get_or, filter_passes}
use Rattle.std.proofs.lemmas.List.Folds.{list_any-append}
use Rattle.std.proofs.lemmas.List.Kept.{IsStrictlyIncreasing-filter}
use Rattle.std.proofs.lemmas.List.FromFn.{get_or-range_with_len, length-range_with_len}
use Rattle.hw_model.specs.declared.lit.Lit.{Lit}
use Rattle.hw_model.specs.Problem.{Problem}
use Rattle.hw_model_laws.proofs.Counting.{any_of_range, range_any}
use Rattle.hw_cert_lines.specs.declared.line.Line.{Line}
use Rattle.hw_cert_lines.specs.declared.line.Line.TheVariants as lines
use Rattle.hw_cert_lines.specs.Lines.{clause_count, clause_at, live, deletes, is_closed}
use Rattle.hw_cert_lines.specs.Valid.{LineFits, ValidAfter}
use Rattle.hw_cert_lines.proofs.Pushed.{one_more, last_push, numbers_deleted}
use Rattle.hw_cert_lines.proofs.Deleted.{live_in as live_inside}
use Rattle.hw_cert_lines.proofs.Live.{live_above}
use Rattle.hw_trail_laws.specs.declared.event.Event.{Event}
use Rattle.hw_trail_laws.specs.Trails.{TrailModel, reason, IsTrail, back_to}
use Rattle.hw_trail_laws.specs.Learning.{reason_at}
use Rattle.hw_trail_laws.proofs.Kept.{Front, front_of}
use Rattle.hw_store.specs.declared.store.Stored.{Stored}
use Rattle.hw_search_laws.specs.Prices.{PricesTold}
use Rattle.hw_search_laws.specs.Searches.{SearchModel, FitsOpen, LiveKept, written_at, kept_numbers}
use Rattle.hw_search_laws.specs.Settling.{with_events}
use Rattle.hw_search_laws.specs.Turns.{unkept}
use Rattle.hw_search_laws.proofs.Numbers.{WrittenAt, get_within, contains_here, contains_there, flat_past, flat_front}
use Rattle.hw_search_laws.proofs.Lines.{stored_cases, kept_stored, kept_written, if_some, some_reason, live_stays, live_parts, at_stays, same_lemmas, any_push, of_some, prices_on}

-- ---- a search that keeps some of the numbers

pub open_less : (before : List Line) (s u : SearchModel) → u.stored ≡ s.stored → u.clause_lines ≡ s.clause_lines → u.best ≡ s.best → u.prices ≡ s.prices → ((q m : ℕ) → written_at u q ≡ Some m → (written_at s q ≡ Some m) × (reason_at u.trail q ≡ reason_at s.trail q)) → FitsOpen before s → FitsOpen before u
open_less before s u e c b p h fit = record {
  lemmas = fit.lemmas ∙ ap (λ xs. map (λ (one : Stored). one.clause) xs) (sym e);
  count = fit.count ∙ sym c;
  best = fit.best ∙ sym b;
  none_empty = fit.none_empty;
  lemma_stands = subst (All (λ (one : Stored). clause_at before one.number ≡ Some one.clause)) (sym e) fit.lemma_stands;
  reason_stands = λ q. if_some (written_at u q) (λ number. clause_at before number ≡ reason_at u.trail q) (λ m w.
      let r = h q m w in
      of_some (written_at s q) (λ number. clause_at before number ≡ reason_at s.trail q) m r.0 (fit.reason_stands q) ∙ sym r.1);
  kept_live = λ m k. elim (stored_cases u m k) [
    | inl a ↦ fit.kept_live m (kept_stored s m (subst (λ xs. Contains (map (λ (one : Stored). one.number) xs) m) e a))
    | inr w ↦ fit.kept_live m (kept_written s w.0 m (h w.0 m w.1).0)
  ];
  deletes_earlier = fit.deletes_earlier;
  prices = subst (PricesTold before) (sym p) fit.prices;
}

pub kept_more : (before : List Line) (s u : SearchModel) → u.stored ≡ s.stored → ((q m : ℕ) → written_at s q ≡ Some m → written_at u q ≡ Some m) → LiveKept before s → LiveKept before u
kept_more before s u e h kept = λ m l. elim (stored_cases s m (kept m l)) [
  | inl a ↦ kept_stored u m (subst (λ xs. Contains (map (λ (one : Stored). one.number) xs) m) (sym e) a)
  | inr w ↦ kept_written u w.0 m (h w.0 m w.1)
]

-- ---- events come

reason_within : (t : TrailModel) (more : List Event) (level q : ℕ) (clause : List Lit) → reason_at t q ≡ Some clause → reason_at (record { ships = t.ships; slots = t.slots; events = t.events ++ more; level = level }) q ≡ Some clause
reason_within t more level q clause e = by (slice_get t.events q) refl e
  where
    by : (o : Option Event) → slice_get t.events q ≡ o → option_and_then reason o ≡ Some clause → option_and_then reason (slice_get (t.events ++ more) q) ≡ Some clause
    by None h e = absurd cc
    by (Some event) h e = ap (option_and_then reason) (get_within t.events more q event h) ∙ e

pub events_open : (before : List Line) (s : SearchModel) (more : List Event) → FitsOpen before s → FitsOpen before (with_events s more)
events_open before s more fit = open_less before s (with_events s more) refl refl refl refl (λ q m w.
    let old : written_at s q ≡ Some m = sym (flat_past s.written (length more) q) ∙ w in
    let r = some_reason s before fit q m old in
    (old, reason_within s.trail more s.trail.level q r.0 r.1 ∙ sym r.1)) fit

pub events_kept : (before : List Line) (s : SearchModel) (more : List Event) → LiveKept before s → LiveKept before (with_events s more)
events_kept before s more kept = kept_more before s (with_events s more) refl (λ q m w. flat_past s.written (length more) q ∙ w) kept

-- a decision
pub decided_open : (before : List Line) (s : SearchModel) (event : Event) → FitsOpen before s → FitsOpen before (record s { trail = record { ships = s.trail.ships; slots = s.trail.slots; events = s.trail.events ++ event ∷ []; level = event.level }; written = s.written ++ None ∷ [] })
decided_open before s event fit = open_less before s (record s { trail = record { ships = s.trail.ships; slots = s.trail.slots; events = s.trail.events ++ event ∷ []; level = event.level }; written = s.written ++ None ∷ [] }) refl refl refl refl (λ q m w.
    let old : written_at s q ≡ Some m = sym (flat_past s.written 1 q) ∙ w in
    let r = some_reason s before fit q m old in
    (old, reason_within s.trail (event ∷ []) event.level q r.0 r.1 ∙ sym r.1)) fit

pub decided_live : (before : List Line) (s : SearchModel) (event : Event) → LiveKept before s → LiveKept before (record s { trail = record { ships = s.trail.ships; slots = s.trail.slots; events = s.trail.events ++ event ∷ []; level = event.level }; written = s.written ++ None ∷ [] })
decided_live before s event kept = kept_more before s (record s { trail = record { ships = s.trail.ships; slots = s.trail.slots; events = s.trail.events ++ event ∷ []; level = event.level }; written = s.written ++ None ∷ [] }) refl (λ q m w. flat_past s.written 1 q ∙ w) kept

-- ---- events go

get_front : {A : Type 0} (xs : List A) (k q : ℕ) → q < k → slice_get (take k xs) q ≡ slice_get xs q
get_front xs zero q lt = absurd (omega (arith, lt))
get_front [] (suc k) q lt = refl
get_front (x ∷ xs) (suc k) zero lt = refl
get_front (x ∷ xs) (suc k) (suc q) lt = get_front xs k q (omega (arith, lt))

pub front_length : (t : TrailModel) (level : ℕ) (f : Front t.events level) → length (back_to t level).events ≡ f.count
front_length t level f = ap length f.first ∙ length-take-le f.count t.events f.among

pub reason_front : (t : TrailModel) (level : ℕ) (f : Front t.events level) (q : ℕ) → q < f.count → reason_at (back_to t level) q ≡ reason_at t q
reason_front t level f q lt = ap (λ es. option_and_then reason (slice_get es q)) f.first ∙ ap (option_and_then reason) (get_front t.events f.count q lt)

pub back_open : (before : List Line) (s u : SearchModel) (level : ℕ) → IsTrail s.trail → u.stored ≡ s.stored → u.clause_lines ≡ s.clause_lines → u.best ≡ s.best → u.prices ≡ s.prices → u.trail ≡ back_to s.trail level → u.written ≡ take (length (back_to s.trail level).events) s.written → FitsOpen before s → FitsOpen before u
back_open before s u level is e c b p t w fit =
    let f = front_of s.trail is level in
    open_less before s u e c b p (λ q m h.
    let at : WrittenAt (take f.count s.written) q m = subst (λ n. WrittenAt (take n s.written) q m) (front_length s.trail level f) (subst (λ ws. WrittenAt ws q m) w h) in
    let front = flat_front s.written f.count q m at in
    (front.0, ap (λ (x : TrailModel). reason_at x q) t ∙ reason_front s.trail level f q front.1)) fit

-- ---- one deletion

pub any_contains : (xs : List ℕ) (n : ℕ) → list_any (λ x. x == n) xs ≡ true → Contains xs n
any_contains [] n e = absurd cc
any_contains (x ∷ xs) n e = elim (or_cases (x == n) (list_any (λ y. y == n) xs) e) [
  | inl y ↦ contains_here x xs n (eqb-true x n y)
  | inr y ↦ contains_there x xs n (any_contains xs n y)
]

any_at : (xs : List ℕ) (n k : ℕ) → k < length xs → get_or xs k n ≡ n → list_any (λ x. x == n) xs ≡ true
any_at [] n k lt e = absurd (omega (arith, lt))
any_at (x ∷ xs) n zero lt e = or_left (x == n) (list_any (λ y. y == n) xs) (eq-eqb x n e)
any_at (x ∷ xs) n (suc k) lt e = or_right (x == n) (list_any (λ y. y == n) xs) (any_at xs n k (omega (arith, lt)) e)

pub contains_any : (xs : List ℕ) (n : ℕ) → Contains xs n → list_any (λ x. x == n) xs ≡ true
contains_any xs n h = any_at xs n h.0 h.1 h.2

pub in_filter : (p : ℕ → Bool) (xs : List ℕ) (n : ℕ) → p n ≡ true → list_any (λ x. x == n) xs ≡ true → list_any (λ x. x == n) (filter p xs) ≡ true
in_filter p [] n h e = absurd cc
in_filter p (x ∷ xs) n h e = elim (or_cases (x == n) (list_any (λ y. y == n) xs) e) [
  | inl y ↦ here (p x) (ap p (eqb-true x n y) ∙ h) y
  | inr y ↦ there (p x) (in_filter p xs n h y)
]
  where
    here : (b : Bool) → b ≡ true → (x == n) ≡ true → list_any (λ y. y == n) (cond b (x ∷ filter p xs) (filter p xs)) ≡ true
    here true e y = or_left (x == n) (list_any (λ y. y == n) (filter p xs)) y
    here false e y = absurd cc

    there : (b : Bool) → list_any (λ y. y == n) (filter p xs) ≡ true → list_any (λ y. y == n) (cond b (x ∷ filter p xs) (filter p xs)) ≡ true
    there true y = or_right (x == n) (list_any (λ y. y == n) (filter p xs)) y
    there false y = y

pub from_filter : (p : ℕ → Bool) (xs : List ℕ) (n : ℕ) → list_any (λ x. x == n) (filter p xs) ≡ true → (p n ≡ true) × (list_any (λ x. x == n) xs ≡ true)
from_filter p [] n e = absurd cc
from_filter p (x ∷ xs) n e = by (p x) refl (from_filter p xs n) e
  where
    by : (b : Bool) → p x ≡ b → (list_any (λ y. y == n) (filter p xs) ≡ true → (p n ≡ true) × (list_any (λ y. y == n) xs ≡ true)) → list_any (λ y. y == n) (cond b (x ∷ filter p xs) (filter p xs)) ≡ true → (p n ≡ true) × (((x == n) || list_any (λ y. y == n) xs) ≡ true)
    by true h k e = elim (or_cases (x == n) (list_any (λ y. y == n) (filter p xs)) e) [
      | inl y ↦ (subst (λ m. p m ≡ true) (eqb-true x n y) h, or_left (x == n) (list_any (λ y. y == n) xs) y)
      | inr y ↦ let r = k y in (r.0, or_right (x == n) (list_any (λ y. y == n) xs) r.1)
    ]
    by false h k e = let r = k e in (r.0, or_right (x == n) (list_any (λ y. y == n) xs) r.1)

-- the test of a number to be deleted
abbrev doomed : List Line → SearchModel → ℕ → Bool
doomed before s id = is_some (live before id) && not (list_any (λ kept. kept == id) (kept_numbers s))

pub in_range : (n c : ℕ) → 1 ≤ n → n ≤ c → list_any (λ x. x == n) (range_with_len 1 c) ≡ true
in_range n c some le = range_any (λ x. x == n) 1 c n some (omega (arith, le)) (eq-eqb n n refl)

of_range : (n c : ℕ) → list_any (λ x. x == n) (range_with_len 1 c) ≡ true → n ≤ c
of_range n c e =
    let r = any_of_range (λ x. x == n) 1 c e in
    let same : r.0 ≡ n = eqb-true r.0 n r.3 in
    omega (arith, r.2, same)

-- what is live and not kept is to be deleted
pub unkept_has : (before : List Line) (s : SearchModel) (n : ℕ) → IsSome (live before n) → list_any (λ x. x == n) (unkept before s) ≡ false → Contains (kept_numbers s) n
unkept_has before s n h e = elim (cases_Bool (list_any (λ kept. kept == n) (kept_numbers s))) [
  | inl y ↦ any_contains (kept_numbers s) n y
  | inr no' ↦
      let t : doomed before s n ≡ true = and_from (is_some (live before n)) (not (list_any (λ kept. kept == n) (kept_numbers s))) h (ap not no') in
      let f : list_any (λ x. x == n) (unkept before s) ≡ true = in_filter (doomed before s) (range_with_len 1 (clause_count before)) n t (in_range n (clause_count before) (live_above before n h) (live_inside before n h)) in
      absurd (let z : true ≡ false = sym f ∙ e in cc)
]

-- what is to be deleted isn't kept
pub unkept_not : (before : List Line) (s : SearchModel) (n : ℕ) → Contains (kept_numbers s) n → list_any (λ x. x == n) (unkept before s) ≡ false
unkept_not before s n h = elim (cases_Bool (list_any (λ x. x == n) (unkept before s))) [
  | inl y ↦
      let r = from_filter (doomed before s) (range_with_len 1 (clause_count before)) n y in
      let a = and_parts (is_some (live before n)) (not (list_any (λ kept. kept == n) (kept_numbers s))) r.0 in
      absurd (clash (list_any (λ kept. kept == n) (kept_numbers s)) (contains_any (kept_numbers s) n h) a.1)
  | inr n' ↦ n'
]
  where
    clash : (b : Bool) → b ≡ true → not b ≡ true → ⊥
    clash true e h = cc
    clash false e h = cc

unkept_inside : (before : List Line) (s : SearchModel) (n : ℕ) → clause_count before < n → list_any (λ x. x == n) (unkept before s) ≡ false
unkept_inside before s n lt = elim (cases_Bool (list_any (λ x. x == n) (unkept before s))) [
  | inl y ↦ absurd (omega (arith, lt, of_range n (clause_count before) (from_filter (doomed before s) (range_with_len 1 (clause_count before)) n y).1))
  | inr n' ↦ n'
]

-- the fit after the deletion
pub deleted_open : (before : List Line) (s : SearchModel) (ids : List ℕ) → unkept before s ≡ ids → FitsOpen before s → FitsOpen (before ++ lines.Delete ids ∷ []) s
deleted_open before s ids e fit =
    let line = lines.Delete ids in
    let o = one_more s.problem before line in
    record {
      lemmas = same_lemmas before line refl ∙ fit.lemmas;
      count = o.uncounted refl ∙ fit.count;
      best = last_push before line ∙ fit.best;
      none_empty = o.closed ∙ ap (λ b. b || false) fit.none_empty;
      lemma_stands = All-weaker (λ (one : Stored). clause_at before one.number ≡ Some one.clause) (λ (one : Stored). clause_at (before ++ line ∷ []) one.number ≡ Some one.clause) (λ one h. at_stays before line one.number one.clause h) s.stored fit.lemma_stands;
      reason_stands = λ q. if_some (written_at s q) (λ number. clause_at (before ++ line ∷ []) number ≡ reason_at s.trail q) (λ m w.
          let r = some_reason s before fit q m w in
          at_stays before line m r.0 (of_some (written_at s q) (λ number. clause_at before number ≡ reason_at s.trail q) m w (fit.reason_stands q) ∙ r.1) ∙ sym r.1);
      kept_live = λ m h. live_stays s.problem before line m (subst (λ xs. list_any (λ x. x == m) xs ≡ false) e (unkept_not before s m h)) (fit.kept_live m h);
      deletes_earlier = λ n lt.
          let past : clause_count before < n = omega (arith, lt, o.uncounted refl) in
          any_push n before line (fit.deletes_earlier n past) (subst (λ xs. list_any (λ x. x == n) xs ≡ false) e (unkept_inside before s n past));
      prices = prices_on before (before ++ line ∷ []) s.prices (numbers_deleted s.problem before ids).prices fit.prices;
    }

live_split : (f : Problem) (before : List Line) (ids : List ℕ) (n : ℕ) → IsSome (live (before ++ lines.Delete ids ∷ []) n) → (list_any (λ x. x == n) ids ≡ false) × IsSome (live before n)
live_split f before ids n h =
    let line = lines.Delete ids in
    let o = one_more f before line in
    let none : list_any (deletes n) (before ++ line ∷ []) ≡ false = (live_parts (before ++ line ∷ []) n h).0 in
    let d : deletes n line ≡ false = last (list_any (deletes n) before) (deletes n line) (sym (list_any-append (deletes n) before (line ∷ [])) ∙ none) in
    let le : n ≤ clause_count before = omega (arith, live_inside (before ++ line ∷ []) n h, o.uncounted refl) in
    (d, subst IsSome (o.earlier n le d) h)
  where
    last : (a b : Bool) → (a || (b || false)) ≡ false → b ≡ false
    last true b e = absurd cc
    last false true e = absurd cc
    last false false e = refl

pub deleted_kept : (before : List Line) (s : SearchModel) (ids : List ℕ) → unkept before s ≡ ids → LiveKept (before ++ lines.Delete ids ∷ []) s
deleted_kept before s ids e = λ n h.
    let r = live_split s.problem before ids n h in
    unkept_has before s n r.1 (subst (λ xs. list_any (λ x. x == n) xs ≡ false) (sym e) r.0)

pub nothing_kept : (before : List Line) (s : SearchModel) → unkept before s ≡ [] → LiveKept before s
nothing_kept before s e = λ n h. unkept_has before s n h (ap (λ xs. list_any (λ x. x == n) xs) e)

-- the deletion is valid
range_rises : (c : ℕ) → IsStrictlyIncreasing (range_with_len 1 c)
range_rises c k lt =
    let long : k + 1 < c = omega (arith, lt, length-range_with_len 1 c) in
    let a = get_or-range_with_len 1 c k 0 (omega (arith, long)) in
    let b = get_or-range_with_len 1 c (k + 1) 0 long in
    omega (arith, a, b)

all_some : (c : ℕ) → All (λ id. 1 ≤ id) (range_with_len 1 c)
all_some c = All-from_get_or (λ id. 1 ≤ id) (range_with_len 1 c) 0 (λ i lt.
    let a = get_or-range_with_len 1 c i 0 (omega (arith, lt, length-range_with_len 1 c)) in
    omega (arith, a))

pub deletion_valid : (f : Problem) (before : List Line) (s : SearchModel) (id : ℕ) (ids : List ℕ) → unkept before s ≡ id ∷ ids → is_closed before ≡ false → LineFits f (lines.Delete (id ∷ ids)) × ValidAfter f before (lines.Delete (id ∷ ids))
deletion_valid f before s id ids e goes =
    let rises : IsStrictlyIncreasing (id ∷ ids) = subst IsStrictlyIncreasing e (IsStrictlyIncreasing-filter (doomed before s) (range_with_len 1 (clause_count before)) (range_rises (clause_count before))) in
    let some : All (λ x. 1 ≤ x) (id ∷ ids) = subst (All (λ x. 1 ≤ x)) e (All-filter (doomed before s) (λ x. 1 ≤ x) (range_with_len 1 (clause_count before)) (all_some (clause_count before))) in
    let live' : All (λ x. doomed before s x ≡ true) (id ∷ ids) = subst (All (λ x. doomed before s x ≡ true)) e (filter_passes (doomed before s) (range_with_len 1 (clause_count before))) in (
      (omega arith, some 0 0 (omega arith), rises),
      record {
        goes_on = goes;
        numbered = tt;
        claim = All-weaker (λ x. doomed before s x ≡ true) (λ x. IsSome (live before x)) (λ x h. (and_parts (is_some (live before x)) (not (list_any (λ kept. kept == x) (kept_numbers s))) h).0) (id ∷ ids) live';
      },
    )
