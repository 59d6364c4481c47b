-- What the type of a search keeps, through each change.
use Rattle.hw_model_laws.proofs.Denying.{shape_fits}
use Rattle.std.proofs.Common.{◌≡◌, ℕ, zero, suc, ◌+◌, ◌-◌, ◌*◌, ◌^◌, ◌<◌, ◌≤◌, Bool, true, false, cond, List, [], ◌∷◌, ◌++◌, Option, Some, None, length, get_or, map, take, slice_get, option_and_then, All, IfSome, IsSome, IsTrue, refl, sym, ap, subst, arith, inl, inr, length-append}
use Rattle.std.specs.Prelude.{AllPairs, ◌==◌}
use Rattle.std.specs.List.Sorted.{IsStrictlyIncreasing}
use Rattle.std.specs.Option.{option_flatten}
use Rattle.std.proofs.lemmas.Bool.{cases_lt, cases_eq, eq-eqb}
use Rattle.std.proofs.lemmas.List.{get_or_append_left, get_or_push, length-take-le}
use Rattle.std.proofs.lemmas.List.Elements.{All-push, All-nil, All-weaker, All-map, All-get_or, Contains-append_left}
use Rattle.std.proofs.lemmas.Nat.{pow_pos}
use Rattle.hw_model.specs.declared.lit.Lit.{Lit}
use Rattle.hw_model.specs.declared.lit.LitTruth.TheVariants.{Free}
use Rattle.hw_model.specs.declared.narrowing.Narrowed.TheVariants.{Cut}
use Rattle.hw_model.specs.Problem.{Problem, shape_of}
use Rattle.hw_model.specs.Limits.{IsFlat}
use Rattle.hw_model.specs.Timetables.{Permits, cargo, beats}
use Rattle.hw_model.specs.Lits.{lit_fits, clause_holds, IsClause}
use Rattle.hw_model.specs.Rooms.{RoomWithin}
use Rattle.hw_model.specs.Narrowing.{truth}
use Rattle.hw_model.specs.Replay.{narrowing}
use Rattle.hw_cert_lines.specs.Valid.{denied_room}
use Rattle.hw_trail_laws.specs.declared.event.Event.{Event}
use Rattle.hw_trail_laws.specs.declared.event.Why.{Why}
use Rattle.hw_trail_laws.specs.declared.event.Why.TheVariants as whys
use Rattle.hw_trail_laws.specs.Trails.{trail_shape, reason_clause, decided, back_to, most_events}
use Rattle.hw_trail_laws.specs.Learning.{top_level, Learns, QuietBelow}
use Rattle.hw_trail_laws.proofs.Kept.{front_of, none_kept, decided_kept, implied_kept, back_kept, quiet_decided, quiet_implied, quiet_back}
use Rattle.hw_trail_laws.proofs.Quiets.{back_below, quiet_learnt}
use Rattle.hw_search_laws.specs.declared.outcome.Branching.{Branching}
use Rattle.hw_search_laws.specs.Luby.{power_above, luby_within, luby}
use Rattle.hw_store.specs.declared.store.Stored.{Stored}
use Rattle.hw_price_laws.specs.Tolls.{IsToll}
use Rattle.hw_search_laws.specs.Searches.{SearchModel, new_search, IsReason, HasLine, NumbersStay, IsSearch, OfBetter, why_at, lemmas_in, room_in, best_cargo}
use Rattle.hw_search_laws.specs.Settling.{AllQuiet, with_events}
use Rattle.hw_search_laws.specs.Turns.{with_lemma, to_level, gone_back}
use Rattle.hw_search_laws.proofs.Numbers.{numbers_push}
use Rattle.hw_search_laws.proofs.Backs.{front_length}
use Rattle.hw_search_laws.proofs.Trues.{pushed_true}
use Rattle.hw_search_laws.proofs.Holds.{better_true, reason_rises, lemmas_new, top_low, trail_clause}

-- ---- restart numbers are positive

luby_by : (b : Bool) (x y : ℕ) → 1 ≤ x → 1 ≤ y → 1 ≤ cond b x y
luby_by true x y h g = h
luby_by false x y h g = g

luby_some : (steps i : ℕ) → 1 ≤ luby_within steps i
luby_some zero i = omega arith
luby_some (suc steps) i = luby_by (i + 1 == 2 ^ power_above i) (2 ^ (power_above i - 1)) (luby_within steps (i + 1 - 2 ^ (power_above i - 1))) (pow_pos (power_above i - 1)) (luby_some steps (i + 1 - 2 ^ (power_above i - 1)))

pub due_later : (n : ℕ) → 0 < 32 * luby n
due_later n = omega (arith, luby_some n n)

-- ---- events and why they came

why_option : (o : Option Event) (P : Why → Type 0) → IfSome o (λ event. IfSome event.why P) → IfSome (option_and_then (λ (event : Event). event.why) o) P
why_option None P h = tt
why_option (Some event) P h = h

option_why : (o : Option Event) (P : Why → Type 0) → IfSome (option_and_then (λ (event : Event). event.why) o) P → IfSome o (λ event. IfSome event.why P)
option_why None P h = tt
option_why (Some event) P h = h

each_push : (es : List Event) (e : Event) (P : Event → Type 0) → ((k : ℕ) → IfSome (slice_get es k) P) → P e → (k : ℕ) → IfSome (slice_get (es ++ e ∷ []) k) P
each_push [] e P h p zero = p
each_push [] e P h p (suc k) = tt
each_push (x ∷ es) e P h p zero = h zero
each_push (x ∷ es) e P h p (suc k) = each_push es e P (λ i. h (suc i)) p k

each_take : (n : ℕ) (es : List Event) (P : Event → Type 0) → ((k : ℕ) → IfSome (slice_get es k) P) → (k : ℕ) → IfSome (slice_get (take n es) k) P
each_take zero es P h k = tt
each_take (suc n) [] P h k = tt
each_take (suc n) (x ∷ es) P h zero = h zero
each_take (suc n) (x ∷ es) P h (suc k) = each_take n es P (λ i. h (suc i)) k

pub if_why : (o : Option Why) (P Q : Why → Type 0) → ((why : Why) → P why → Q why) → IfSome o P → IfSome o Q
if_why None P Q h p = tt
if_why (Some why) P Q h p = h why p

-- ---- the lines of reasons that prices gave

-- each reason of these events that prices gave has a number among these
abbrev pub Lined : List Event → List (Option ℕ) → Type 0
Lined es ws = (place : ℕ) → IfSome (option_and_then (λ (event : Event). event.why) (slice_get es place)) (HasLine (option_flatten (slice_get ws place)))

line_stays : (a b : Option ℕ) (why : Why) → (IsSome a → IsSome b) → HasLine a why → HasLine b why
line_stays a b (whys.Lemma number clause) h l = tt
line_stays a b (whys.Source source clause) h l = tt
line_stays a b (whys.Priced clause) h l = h l

pub lined_push : (es : List Event) (ws : List (Option ℕ)) (e : Event) (o : Option ℕ) → length ws ≡ length es → IfSome e.why (HasLine o) → Lined es ws → Lined (es ++ e ∷ []) (ws ++ o ∷ [])
lined_push [] [] e o long p h zero = p
lined_push [] [] e o long p h (suc k) = tt
lined_push [] (w ∷ ws) e o long p h k = absurd (omega (arith, long))
lined_push (x ∷ es) [] e o long p h k = absurd (omega (arith, long))
lined_push (x ∷ es) (w ∷ ws) e o long p h zero = h zero
lined_push (x ∷ es) (w ∷ ws) e o long p h (suc k) = lined_push es ws e o (omega (arith, long)) p (λ i. h (suc i)) k

pub lined_stay : (es : List Event) (ws vs : List (Option ℕ)) → NumbersStay ws vs → Lined es ws → Lined es vs
lined_stay es ws vs stay h place = if_why (option_and_then (λ (event : Event). event.why) (slice_get es place)) (HasLine (option_flatten (slice_get ws place))) (HasLine (option_flatten (slice_get vs place))) (λ why l. line_stays (option_flatten (slice_get ws place)) (option_flatten (slice_get vs place)) why (stay place) l) (h place)

pub lined_take : (n : ℕ) (es : List Event) (ws : List (Option ℕ)) → length ws ≡ length es → Lined es ws → Lined (take n es) (take n ws)
lined_take zero es ws long h k = tt
lined_take (suc n) [] ws long h k = tt
lined_take (suc n) (x ∷ es) [] long h k = absurd (omega (arith, long))
lined_take (suc n) (x ∷ es) (w ∷ ws) long h zero = h zero
lined_take (suc n) (x ∷ es) (w ∷ ws) long h (suc k) = lined_take n es ws (omega (arith, long)) (λ i. h (suc i)) k

pub lined_back : (s : SearchModel) (ws : List (Option ℕ)) (level : ℕ) → IsSearch s → length ws ≡ length s.written → NumbersStay s.written ws → Lined (back_to s.trail level).events (take (length (back_to s.trail level).events) ws)
lined_back s ws level is long stay =
    let f = front_of s.trail is.trail level in
    subst (λ n. Lined (back_to s.trail level).events (take n ws)) (sym (front_length s.trail level f))
    (subst (λ es. Lined es (take f.count ws)) (sym f.first)
    (lined_take f.count s.trail.events ws (omega (arith, long, is.each_event)) (lined_stay s.trail.events s.written ws stay is.priced_lines)))

-- ---- a new search

pub new_kept : (f : Problem) (branching : Branching) → IsFlat f → IsSearch (new_search f branching)
new_kept f branching flat = record {
  flat = flat;
  trail = none_kept (shape_of f) (shape_fits f flat);
  same_ships = refl;
  same_slots = refl;
  ascending = λ k lt. absurd (omega (arith, lt));
  numbered = All-nil (λ (one : Stored). one.number ≤ 0);
  clauses = All-nil (IsClause (shape_of f));
  some_literal = All-nil (λ (clause : List Lit). 1 ≤ length clause);
  reasons = λ place. tt;
  priced_lines = λ place. tt;
  each_event = refl;
  quiet_below = λ level lt. absurd (omega (arith, lt));
  new = λ i j d lt in'. absurd (omega (arith, in'));
  permitted = tt;
  prices = record { few = omega arith; tolls = All-nil (IsToll f); tariff = tt; ascend = tt; bound = tt; shown = tt };
  counted = λ e. refl;
  few_lines = λ e. omega arith;
  few_priced = omega arith;
  restarts_due = due_later 1;
  few_restarts = λ e. omega arith;
  sound = λ table c permits worth above. All-nil (λ clause. IsTrue (clause_holds table clause));
}

-- ---- an implied literal

events_reason : (s : SearchModel) (more : List Event) (why : Why) → IsReason s why → IsReason (with_events s more) why
events_reason s more (whys.Lemma number clause) h = h
events_reason s more (whys.Source source clause) h = h
events_reason s more (whys.Priced clause) h = h

pub implied_search : (s : SearchModel) (lit : Lit) (why : Why) → IsSearch s → lit_fits (trail_shape s.trail) lit ≡ true → IsClause (trail_shape s.trail) (reason_clause why) → truth (room_in s) lit ≡ Free → narrowing (reason_clause why) (room_in s) ≡ Cut lit → IsReason s why → HasLine None why → IsSearch (with_events s (record { lit = lit; level = s.trail.level; why = Some why } ∷ []))
implied_search s lit why is fits clause free cuts holds line =
    let e : Event = record { lit = lit; level = s.trail.level; why = Some why } in
    record {
      flat = is.flat;
      trail = implied_kept s.trail lit why is.trail fits clause free cuts;
      same_ships = is.same_ships;
      same_slots = is.same_slots;
      ascending = is.ascending;
      numbered = is.numbered;
      clauses = is.clauses;
      some_literal = is.some_literal;
      reasons = λ place. why_option (slice_get (s.trail.events ++ e ∷ []) place) (IsReason (with_events s (e ∷ []))) (each_push s.trail.events e (λ event. IfSome event.why (IsReason (with_events s (e ∷ [])))) (λ k. option_why (slice_get s.trail.events k) (IsReason (with_events s (e ∷ []))) (if_why (why_at s.trail k) (IsReason s) (IsReason (with_events s (e ∷ []))) (events_reason s (e ∷ [])) (is.reasons k))) (events_reason s (e ∷ []) why holds) place);
      priced_lines = lined_push s.trail.events s.written e None is.each_event line is.priced_lines;
      each_event = omega (arith, length-append s.written (None ∷ []), length-append s.trail.events (e ∷ []), is.each_event);
      quiet_below = quiet_implied s.trail lit why (lemmas_in s) is.quiet_below;
      new = is.new;
      permitted = is.permitted;
      prices = is.prices;
      counted = is.counted;
      few_lines = is.few_lines;
      few_priced = is.few_priced;
      restarts_due = is.restarts_due;
      few_restarts = is.few_restarts;
      sound = is.sound;
    }

-- ---- a decision

abbrev pub decide : SearchModel → Lit → SearchModel
decide s lit = record s { trail = decided s.trail lit; written = s.written ++ None ∷ [] }

decide_reason : (s : SearchModel) (lit : Lit) (why : Why) → IsReason s why → IsReason (decide s lit) why
decide_reason s lit (whys.Lemma number clause) h = h
decide_reason s lit (whys.Source source clause) h = h
decide_reason s lit (whys.Priced clause) h = h

pub decided_search : (s : SearchModel) (lit : Lit) → IsSearch s → AllQuiet s → lit_fits (trail_shape s.trail) lit ≡ true → truth (room_in s) lit ≡ Free → IsSearch (decide s lit)
decided_search s lit is quiet fits free =
    let e : Event = record { lit = lit; level = s.trail.level + 1; why = None } in
    record {
      flat = is.flat;
      trail = decided_kept s.trail lit is.trail fits free;
      same_ships = is.same_ships;
      same_slots = is.same_slots;
      ascending = is.ascending;
      numbered = is.numbered;
      clauses = is.clauses;
      some_literal = is.some_literal;
      reasons = λ place. why_option (slice_get (s.trail.events ++ e ∷ []) place) (IsReason (decide s lit)) (each_push s.trail.events e (λ event. IfSome event.why (IsReason (decide s lit))) (λ k. option_why (slice_get s.trail.events k) (IsReason (decide s lit)) (if_why (why_at s.trail k) (IsReason s) (IsReason (decide s lit)) (decide_reason s lit) (is.reasons k))) tt place);
      priced_lines = lined_push s.trail.events s.written e None is.each_event tt is.priced_lines;
      each_event = omega (arith, length-append s.written (None ∷ []), length-append s.trail.events (e ∷ []), is.each_event);
      quiet_below = quiet_decided s.trail lit (lemmas_in s) is.trail quiet.lemmas is.quiet_below;
      new = is.new;
      permitted = is.permitted;
      prices = is.prices;
      counted = is.counted;
      few_lines = is.few_lines;
      few_priced = is.few_priced;
      restarts_due = is.restarts_due;
      few_restarts = is.few_restarts;
      sound = is.sound;
    }

-- ---- a better timetable

pub better_search : (s : SearchModel) (table : List ℕ) (c : ℕ) → IsSearch s → Permits s.problem table → cargo s.problem table ≡ Some c → IsTrue (beats c (best_cargo s)) → IsSearch (record s { best = Some table })
better_search s table c is permits worth above = record {
  flat = is.flat;
  trail = is.trail;
  same_ships = is.same_ships;
  same_slots = is.same_slots;
  ascending = is.ascending;
  numbered = is.numbered;
  clauses = is.clauses;
  some_literal = is.some_literal;
  reasons = λ place. if_why (why_at s.trail place) (IsReason s) (IsReason (record s { best = Some table })) (reason_rises s table c worth above) (is.reasons place);
  priced_lines = is.priced_lines;
  each_event = is.each_event;
  quiet_below = is.quiet_below;
  new = is.new;
  permitted = permits;
  prices = is.prices;
  counted = is.counted;
  few_lines = is.few_lines;
  few_priced = is.few_priced;
  restarts_due = is.restarts_due;
  few_restarts = is.few_restarts;
  sound = better_true s table c (λ t. All (λ clause. IsTrue (clause_holds t clause)) (lemmas_in s)) worth above is.sound;
}

-- ---- a lemma

rises_push : (xs : List ℕ) (y : ℕ) → IsStrictlyIncreasing xs → All (λ x. x < y) xs → IsStrictlyIncreasing (xs ++ y ∷ [])
rises_push xs y rises below k lt = elim (cases_lt (k + 1) (length xs)) [
  | inl in' ↦
      let a = get_or_append_left xs (y ∷ []) 0 k (omega (arith, in')) in
      let b = get_or_append_left xs (y ∷ []) 0 (k + 1) in' in
      omega (arith, a, b, rises k in')
  | inr at ↦
      let n : length xs ≡ k + 1 = omega (arith, at, lt, length-append xs (y ∷ [])) in
      let a = get_or_append_left xs (y ∷ []) 0 k (omega (arith, n)) in
      let b = get_or_push xs y 0 (k + 1) n in
      let c : get_or xs k 0 < y = All-get_or (λ x. x < y) xs k 0 (omega (arith, n)) below in
      omega (arith, a, b, c)
]

clauses_push : (xs : List Stored) (x : Stored) → map (λ (one : Stored). one.clause) (xs ++ x ∷ []) ≡ map (λ (one : Stored). one.clause) xs ++ x.clause ∷ []
clauses_push [] x = refl
clauses_push (y ∷ xs) x = ap (λ ys. y.clause ∷ ys) (clauses_push xs x)

abbrev pub numbers : SearchModel → List (Option ℕ) → ℕ → SearchModel
numbers s ws n = record s { written = ws; clause_lines = n }

abbrev pub at_level : SearchModel → List (Option ℕ) → ℕ → List Lit → ℕ → ℕ → ℕ → SearchModel
at_level s ws n lemma level restarts since = record (to_level (with_lemma (numbers s ws n) lemma) level) { restarts = restarts; since = since }

level_reason : (s : SearchModel) (ws : List (Option ℕ)) (n : ℕ) (lemma : List Lit) (level restarts since : ℕ) (why : Why) → IsReason s why → IsReason (at_level s ws n lemma level restarts since) why
level_reason s ws n lemma level restarts since (whys.Lemma number clause) h = Contains-append_left s.stored (record { number = n + 1; clause = lemma } ∷ []) (record { number = number; clause = clause }) h
level_reason s ws n lemma level restarts since (whys.Source source clause) h = h
level_reason s ws n lemma level restarts since (whys.Priced clause) h = h

lemma_at : (s : SearchModel) (ws : List (Option ℕ)) (n : ℕ) (clause lemma : List Lit) (back : ℕ) (places : List ℕ) (level restarts since : ℕ) → IsSearch s → s.over ≡ false → length ws ≡ length s.written → NumbersStay s.written ws → s.clause_lines ≤ n → n ≤ s.clause_lines + most_events s.problem.ships s.problem.slots + 1 → Learns s.trail clause lemma back places → 1 ≤ length lemma
    → level ≤ s.trail.level → QuietBelow (back_to s.trail level) (lemmas_in s ++ lemma ∷ []) → since < 32 * luby (restarts + 1) → restarts + since ≤ s.lemmas + 1 → OfBetter s (λ table. IsTrue (clause_holds table lemma)) → IsSearch (at_level s ws n lemma level restarts since)
lemma_at s ws n clause lemma back places level restarts since is over long stay low high learns some le quiet due few true_of =
    let f = front_of s.trail is.trail level in
    let x : Stored = record { number = n + 1; clause = lemma } in
    let cs : map (λ (one : Stored). one.clause) (s.stored ++ x ∷ []) ≡ lemmas_in s ++ lemma ∷ [] = clauses_push s.stored x in
    record {
      flat = is.flat;
      trail = back_kept s.trail level is.trail le;
      same_ships = is.same_ships;
      same_slots = is.same_slots;
      ascending = subst IsStrictlyIncreasing (sym (numbers_push s.stored x)) (rises_push (map (λ (one : Stored). one.number) s.stored) (n + 1) is.ascending (All-map (λ k. k < n + 1) (λ (one : Stored). one.number) s.stored (All-weaker (λ (one : Stored). one.number ≤ s.clause_lines) (λ (one : Stored). one.number < n + 1) (λ one h. omega (arith, h, low)) s.stored is.numbered)));
      numbered = All-push (λ (one : Stored). one.number ≤ n + 1) s.stored x (All-weaker (λ (one : Stored). one.number ≤ s.clause_lines) (λ (one : Stored). one.number ≤ n + 1) (λ one h. omega (arith, h, low)) s.stored is.numbered) (omega arith);
      clauses = subst (All (IsClause (shape_of s.problem))) (sym cs) (All-push (IsClause (shape_of s.problem)) (lemmas_in s) lemma is.clauses (trail_clause s is.same_ships is.same_slots lemma learns.fits));
      some_literal = subst (All (λ (c : List Lit). 1 ≤ length c)) (sym cs) (All-push (λ (c : List Lit). 1 ≤ length c) (lemmas_in s) lemma is.some_literal some);
      reasons = λ place.
          let u = at_level s ws n lemma level restarts since in
          let all : (k : ℕ) → IfSome (slice_get s.trail.events k) (λ event. IfSome event.why (IsReason u)) = λ k. option_why (slice_get s.trail.events k) (IsReason u) (if_why (why_at s.trail k) (IsReason s) (IsReason u) (level_reason s ws n lemma level restarts since) (is.reasons k)) in
          subst (λ es. IfSome (option_and_then (λ (event : Event). event.why) (slice_get es place)) (IsReason u)) (sym f.first) (why_option (slice_get (take f.count s.trail.events) place) (IsReason u) (each_take f.count s.trail.events (λ event. IfSome event.why (IsReason u)) all place));
      priced_lines = lined_back s ws level is long stay;
      each_event =
          let k = front_length s.trail level f in
          length-take-le (length (back_to s.trail level).events) ws (omega (arith, k, f.among, long, is.each_event));
      quiet_below = subst (QuietBelow (back_to s.trail level)) (sym cs) quiet;
      new = subst (AllPairs (λ earlier later. RoomWithin (denied_room s.problem later) (denied_room s.problem earlier) → ⊥)) (sym cs) (lemmas_new s is.trail is.same_ships is.same_slots is.quiet_below is.clauses is.some_literal is.new clause lemma back places learns (top_low s.trail is.trail clause));
      permitted = is.permitted;
      prices = is.prices;
      counted = λ e. omega (arith, is.counted over, length-append s.stored (x ∷ []));
      few_lines = λ e. omega (arith, is.few_lines over, high);
      few_priced = is.few_priced;
      restarts_due = due;
      few_restarts = λ e. few;
      sound = λ table c permits worth above. subst (All (λ clause. IsTrue (clause_holds table clause))) (sym cs) (pushed_true s lemma is.sound true_of table c permits worth above);
    }

nonempty : (lemma : List Lit) → 1 ≤ length lemma → lemma ≡ [] → ⊥
nonempty lemma h e = omega (arith, h, ap length e)

some_top : (s : SearchModel) (clause lemma : List Lit) (back : ℕ) (places : List ℕ) → Learns s.trail clause lemma back places → 1 ≤ length lemma → 1 ≤ top_level s.trail clause
some_top s clause lemma back places learns some = elim (cases_lt 0 (top_level s.trail clause)) [
  | inl above ↦ above
  | inr ground ↦ absurd (nonempty lemma some (learns.ground (omega (arith, ground))).0)
]

not_yet : (a b : ℕ) → (a == b) ≡ false → a ≡ b → ⊥
not_yet a b e h = absurd (let t : (a == b) ≡ true = eq-eqb a b h in cc)

lower : (a b : ℕ) → a < b → (a + 1 ≡ b → ⊥) → a + 1 < b
lower a b lt ne = elim (cases_eq (a + 1) b) [ inl e ↦ absurd (ne e) | inr n ↦ less a b lt n ]
  where
    less : (a b : ℕ) → a < b → (a + 1 ≡ b → ⊥) → a + 1 < b
    less a b lt ne = grind arith

pub lemma_search : (s : SearchModel) (ws : List (Option ℕ)) (n : ℕ) (clause lemma : List Lit) (back : ℕ) (places : List ℕ) → IsSearch s → s.over ≡ false → length ws ≡ length s.written → NumbersStay s.written ws → s.clause_lines ≤ n → n ≤ s.clause_lines + most_events s.problem.ships s.problem.slots + 1 → Learns s.trail clause lemma back places → 1 ≤ length lemma → OfBetter s (λ table. IsTrue (clause_holds table lemma))
    → IsSearch (gone_back (with_lemma (numbers s ws n) lemma) back)
lemma_search s ws n clause lemma back places is over long stay low high learns some true_of = by (s.since + 1 == 32 * luby (s.restarts + 1)) refl
  where
    by : (b : Bool) → (s.since + 1 == 32 * luby (s.restarts + 1)) ≡ b → IsSearch (cond b (at_level s ws n lemma 0 (s.restarts + 1) 0) (at_level s ws n lemma back s.restarts (s.since + 1)))
    by true e = lemma_at s ws n clause lemma back places 0 (s.restarts + 1) 0 is over long stay low high learns some (omega arith) (λ level lt. absurd (omega (arith, lt))) (due_later (s.restarts + 1 + 1)) (omega (arith, is.few_restarts over)) true_of
    by false e =
        let top = some_top s clause lemma back places learns some in
        lemma_at s ws n clause lemma back places back s.restarts (s.since + 1) is over long stay low high learns some (omega (arith, back_below s.trail is.trail clause lemma back places learns top)) (quiet_learnt s.trail is.trail clause lemma back places (lemmas_in s) learns top is.quiet_below)
        (lower s.since (32 * luby (s.restarts + 1)) is.restarts_due (not_yet (s.since + 1) (32 * luby (s.restarts + 1)) e)) (omega (arith, is.few_restarts over)) true_of

-- ---- a search that is over

pub never : true ≡ false → ⊥
never e = cc

stopped_reason : (s : SearchModel) (ws : List (Option ℕ)) (n lemmas : ℕ) (why : Why) → IsReason s why → IsReason (record s { written = ws; clause_lines = n; lemmas = lemmas; over = true }) why
stopped_reason s ws n lemmas (whys.Lemma number clause) h = h
stopped_reason s ws n lemmas (whys.Source source clause) h = h
stopped_reason s ws n lemmas (whys.Priced clause) h = h

pub stopped_search : (s : SearchModel) (ws : List (Option ℕ)) (n lemmas : ℕ) → IsSearch s → length ws ≡ length s.written → NumbersStay s.written ws → s.clause_lines ≤ n → IsSearch (record s { written = ws; clause_lines = n; lemmas = lemmas; over = true })
stopped_search s ws n lemmas is long stay low = record {
  flat = is.flat;
  trail = is.trail;
  same_ships = is.same_ships;
  same_slots = is.same_slots;
  ascending = is.ascending;
  numbered = All-weaker (λ (one : Stored). one.number ≤ s.clause_lines) (λ (one : Stored). one.number ≤ n) (λ one h. omega (arith, h, low)) s.stored is.numbered;
  clauses = is.clauses;
  some_literal = is.some_literal;
  reasons = λ place. if_why (why_at s.trail place) (IsReason s) (IsReason (record s { written = ws; clause_lines = n; lemmas = lemmas; over = true })) (stopped_reason s ws n lemmas) (is.reasons place);
  priced_lines = lined_stay s.trail.events s.written ws stay is.priced_lines;
  each_event = omega (arith, long, is.each_event);
  quiet_below = is.quiet_below;
  new = is.new;
  permitted = is.permitted;
  prices = is.prices;
  counted = λ e. absurd (never e);
  few_lines = λ e. absurd (never e);
  few_priced = is.few_priced;
  restarts_due = is.restarts_due;
  few_restarts = λ e. absurd (never e);
  sound = is.sound;
}

-- it went back, and its lemma is missing
abbrev lacking : SearchModel → SearchModel → SearchModel
lacking s gone = record gone { stored = s.stored; over = true }

lacking_reason : (s : SearchModel) (ws : List (Option ℕ)) (n : ℕ) (lemma : List Lit) (level restarts since : ℕ) (why : Why) → IsReason s why → IsReason (lacking s (at_level s ws n lemma level restarts since)) why
lacking_reason s ws n lemma level restarts since (whys.Lemma number clause) h = h
lacking_reason s ws n lemma level restarts since (whys.Source source clause) h = h
lacking_reason s ws n lemma level restarts since (whys.Priced clause) h = h

lacking_at : (s : SearchModel) (ws : List (Option ℕ)) (n : ℕ) (lemma : List Lit) (level restarts since : ℕ) → IsSearch s → length ws ≡ length s.written → NumbersStay s.written ws → s.clause_lines ≤ n → level ≤ s.trail.level → since < 32 * luby (restarts + 1) → IsSearch (lacking s (at_level s ws n lemma level restarts since))
lacking_at s ws n lemma level restarts since is long stay low le due =
    let f = front_of s.trail is.trail level in
    let u = lacking s (at_level s ws n lemma level restarts since) in
    record {
      flat = is.flat;
      trail = back_kept s.trail level is.trail le;
      same_ships = is.same_ships;
      same_slots = is.same_slots;
      ascending = is.ascending;
      numbered = All-weaker (λ (one : Stored). one.number ≤ s.clause_lines) (λ (one : Stored). one.number ≤ n + 1) (λ one h. omega (arith, h, low)) s.stored is.numbered;
      clauses = is.clauses;
      some_literal = is.some_literal;
      reasons = λ place.
          let all : (k : ℕ) → IfSome (slice_get s.trail.events k) (λ event. IfSome event.why (IsReason u)) = λ k. option_why (slice_get s.trail.events k) (IsReason u) (if_why (why_at s.trail k) (IsReason s) (IsReason u) (lacking_reason s ws n lemma level restarts since) (is.reasons k)) in
          subst (λ es. IfSome (option_and_then (λ (event : Event). event.why) (slice_get es place)) (IsReason u)) (sym f.first) (why_option (slice_get (take f.count s.trail.events) place) (IsReason u) (each_take f.count s.trail.events (λ event. IfSome event.why (IsReason u)) all place));
      priced_lines = lined_back s ws level is long stay;
      each_event =
          let k = front_length s.trail level f in
          length-take-le (length (back_to s.trail level).events) ws (omega (arith, k, f.among, long, is.each_event));
      quiet_below = quiet_back s.trail level (lemmas_in s) le is.quiet_below;
      new = is.new;
      permitted = is.permitted;
      prices = is.prices;
      counted = λ e. absurd (never e);
      few_lines = λ e. absurd (never e);
      few_priced = is.few_priced;
      restarts_due = due;
      few_restarts = λ e. absurd (never e);
      sound = is.sound;
    }

pub lacking_search : (s : SearchModel) (ws : List (Option ℕ)) (n : ℕ) (clause lemma : List Lit) (back : ℕ) (places : List ℕ) → IsSearch s → length ws ≡ length s.written → NumbersStay s.written ws → s.clause_lines ≤ n → Learns s.trail clause lemma back places → 1 ≤ length lemma → IsSearch (lacking s (gone_back (with_lemma (numbers s ws n) lemma) back))
lacking_search s ws n clause lemma back places is long stay low learns some = by (s.since + 1 == 32 * luby (s.restarts + 1)) refl
  where
    by : (b : Bool) → (s.since + 1 == 32 * luby (s.restarts + 1)) ≡ b → IsSearch (lacking s (cond b (at_level s ws n lemma 0 (s.restarts + 1) 0) (at_level s ws n lemma back s.restarts (s.since + 1))))
    by true e = lacking_at s ws n lemma 0 (s.restarts + 1) 0 is long stay low (omega arith) (due_later (s.restarts + 1 + 1))
    by false e = lacking_at s ws n lemma back s.restarts (s.since + 1) is long stay low (omega (arith, back_below s.trail is.trail clause lemma back places learns (some_top s clause lemma back places learns some))) (lower s.since (32 * luby (s.restarts + 1)) is.restarts_due (not_yet (s.since + 1) (32 * luby (s.restarts + 1)) e))
