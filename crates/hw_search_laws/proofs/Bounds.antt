-- Few lines are live, and few lemmas are new.
use Rattle.hw_model_laws.proofs.Denying.{shape_fits}
use Rattle.std.proofs.Common.{◌≡◌, ◌⊎◌, ℕ, zero, suc, ◌+◌, ◌-◌, ◌*◌, ◌^◌, ◌<◌, ◌≤◌, not, Bool, true, false, cond, List, [], ◌∷◌, Option, Some, None, length, map, filter, filter_map, is_some, All, IsSome, refl, sym, ap, ◌∙◌, subst, arith, inl, inr, length-append}
use Rattle.std.specs.Prelude.{Contains, ◌==◌}
use Rattle.std.specs.List.{list_any, cons_option, range_with_len}
use Rattle.std.proofs.lemmas.Bool.{or_cases, or_left, or_right, eqb-true, eq-eqb}
use Rattle.std.proofs.lemmas.List.{length-map}
use Rattle.std.proofs.lemmas.List.Elements.{All-nil, All-cons, All-head, All-tail}
use Rattle.hw_lemmas.proofs.Numbers.{product}
use Rattle.hw_model.specs.Problem.{Problem, shape_of}
use Rattle.hw_model.specs.Limits.{IsFlat}
use Rattle.hw_model.specs.Lits.{IsClause}
use Rattle.hw_model.specs.Rooms.{room_count}
use Rattle.hw_model_laws.proofs.Horizon.{slots_le}
use Rattle.hw_cert_lines.specs.declared.line.Line.{Line}
use Rattle.hw_cert_lines.specs.declared.line.Line.TheVariants as lines
use Rattle.hw_cert_lines.specs.Lines.{clause_count, live, live_numbers}
use Rattle.hw_cert_lines.specs.Valid.{LineFits}
use Rattle.hw_cert_lines.specs.Lemmas.{lemma_of, lemmas_of, IsNew}
use Rattle.hw_trail_laws.specs.Trails.{most_events}
use Rattle.hw_trail_laws.proofs.Many.{few_events}
use Rattle.hw_trail_laws.proofs.Decisions.{clauses_few}
use Rattle.hw_store.specs.declared.store.Stored.{Stored}
use Rattle.hw_search_laws.specs.Searches.{SearchModel, IsSearch, FitsOpen, lemmas_in, kept_numbers}
use Rattle.hw_search_laws.specs.Living.{FewLive}
use Rattle.hw_search_laws.proofs.Backs.{contains_any, from_filter}

-- ---- a rising list of members

abbrev Rises : ℕ → List ℕ → Type 0
Rises low [] = Unit {0}
Rises low (x ∷ xs) = (low ≤ x) × Rises (x + 1) xs

rises_lower : (low high : ℕ) (xs : List ℕ) → low ≤ high → Rises high xs → Rises low xs
rises_lower low high [] le h = tt
rises_lower low high (x ∷ xs) le h = (omega (arith, le, h.0), h.1)

rises_by : (b : Bool) (a : ℕ) (xs : List ℕ) → Rises (a + 1) xs → Rises a (cond b (a ∷ xs) xs)
rises_by true a xs h = (omega arith, h)
rises_by false a xs h = rises_lower a (a + 1) xs (omega arith) h

pub rises_filter : (p : ℕ → Bool) (a n : ℕ) → Rises a (filter p (range_with_len a n))
rises_filter p a zero = tt
rises_filter p a (suc n) = rises_by (p a) a (filter p (range_with_len (a + 1) n)) (rises_filter p (a + 1) n)

drop_by : (b : Bool) (low x : ℕ) (xs ys : List ℕ) → low ≤ x → Rises (x + 1) ys → Rises low (cond b (x ∷ ys) ys)
drop_by true low x xs ys le h = (le, h)
drop_by false low x xs ys le h = rises_lower low (x + 1) ys (omega (arith, le)) h

rises_drop : (p : ℕ → Bool) (low : ℕ) (xs : List ℕ) → Rises low xs → Rises low (filter p xs)
rises_drop p low [] h = tt
rises_drop p low (x ∷ xs) h = drop_by (p x) low x xs (filter p xs) h.0 (rises_drop p (x + 1) xs h.1)

-- without one number: at most one less
all_kept : (y low : ℕ) (xs : List ℕ) → y < low → Rises low xs → length xs ≤ length (filter (λ x. not (x == y)) xs)
all_kept y low [] lt h = omega arith
all_kept y low (x ∷ xs) lt h = by (x == y) refl (all_kept y (x + 1) xs (omega (arith, lt, h.0)) h.1)
  where
    by : (b : Bool) → (x == y) ≡ b → length xs ≤ length (filter (λ z. not (z == y)) xs) → suc (length xs) ≤ length (cond (not b) (x ∷ filter (λ z. not (z == y)) xs) (filter (λ z. not (z == y)) xs))
    by true e k = absurd (let same : x ≡ y = eqb-true x y e in omega (arith, same, lt, h.0))
    by false e k = omega (arith, k)

one_less : (y low : ℕ) (xs : List ℕ) → Rises low xs → length xs ≤ length (filter (λ x. not (x == y)) xs) + 1
one_less y low [] h = omega arith
one_less y low (x ∷ xs) h = by (x == y) refl (one_less y (x + 1) xs h.1)
  where
    by : (b : Bool) → (x == y) ≡ b → length xs ≤ length (filter (λ z. not (z == y)) xs) + 1 → suc (length xs) ≤ length (cond (not b) (x ∷ filter (λ z. not (z == y)) xs) (filter (λ z. not (z == y)) xs)) + 1
    by true e k =
        let same : x ≡ y = eqb-true x y e in
        omega (arith, all_kept y (x + 1) xs (omega (arith, same)) h.1)
    by false e k = omega (arith, k)

abbrev Members : List ℕ → List ℕ → Type 0
Members xs ys = (n : ℕ) → list_any (λ x. x == n) xs ≡ true → list_any (λ y. y == n) ys ≡ true

none_member : (xs : List ℕ) → Members xs [] → length xs ≤ 0
none_member [] h = omega arith
none_member (x ∷ xs) h = absurd (let e : false ≡ true = h x (or_left (x == x) (list_any (λ z. z == x) xs) (eq-eqb x x refl)) in cc)

pub few_members : (ys xs : List ℕ) (low : ℕ) → Rises low xs → Members xs ys → length xs ≤ length ys
few_members [] xs low h m = none_member xs m
few_members (y ∷ ys) xs low h m =
    let rest = few_members ys (filter (λ x. not (x == y)) xs) low (rises_drop (λ x. not (x == y)) low xs h) (λ n e.
    let r = from_filter (λ x. not (x == y)) xs n e in
    elim (or_cases (y == n) (list_any (λ z. z == n) ys) (m n r.1)) [
      | inl same ↦ absurd (other (n == y) r.0 (eq-eqb n y (sym (eqb-true y n same))))
      | inr more ↦ more
    ]) in
    omega (arith, rest, one_less y low xs h)
  where
    other : (b : Bool) → not b ≡ true → b ≡ true → ⊥
    other true e h = cc
    other false e h = cc

-- ---- few are live

pub written_few : (ws : List (Option ℕ)) → length (filter_map (λ (w : Option ℕ). w) ws) ≤ length ws
written_few [] = omega arith
written_few (o ∷ ws) = by o (written_few ws)
  where
    by : (o : Option ℕ) → length (filter_map (λ (w : Option ℕ). w) ws) ≤ length ws → length (cons_option o (filter_map (λ (w : Option ℕ). w) ws)) ≤ suc (length ws)
    by None h = omega (arith, h)
    by (Some n) h = omega (arith, h)

-- each live number is kept or is this one
pub live_few : (s : SearchModel) (before : List Line) (extra : ℕ) → length s.written ≤ most_events s.problem.ships s.problem.slots → FitsOpen before s → ((n : ℕ) → IsSome (live before n) → Contains (kept_numbers s) n ⊎ (n ≡ extra)) → FewLive s.problem before
live_few s before extra few fit h =
    let bound : length (live_numbers before) ≤ length (extra ∷ kept_numbers s) = few_members (extra ∷ kept_numbers s) (live_numbers before) 1 (rises_filter (λ id. is_some (live before id)) 1 (clause_count before)) (λ n e.
    let r = from_filter (λ id. is_some (live before id)) (range_with_len 1 (clause_count before)) n e in
    elim (h n r.0) [
      | inl k ↦ or_right (extra == n) (list_any (λ x. x == n) (kept_numbers s)) (contains_any (kept_numbers s) n k)
      | inr same ↦ or_left (extra == n) (list_any (λ x. x == n) (kept_numbers s)) (eq-eqb extra n (sym same))
    ]) in
    let a = length-append (map (λ (one : Stored). one.number) s.stored) (filter_map (λ (w : Option ℕ). w) s.written) in
    let b = length-map s.stored (λ (one : Stored). one.number) in
    let c = written_few s.written in
    let d : length (lemmas_of before) ≡ length s.stored = ap length fit.lemmas ∙ length-map s.stored (λ (one : Stored). one.clause) in
    omega (arith, bound, a, b, c, d, few)

-- ---- few lemmas

lemma_fits : (f : Problem) (all : List Line) → All (LineFits f) all → All (IsClause (shape_of f)) (lemmas_of all)
lemma_fits f [] h = All-nil (IsClause (shape_of f))
lemma_fits f (line ∷ all) h = by line (All-head (LineFits f) line all h) (lemma_fits f all (All-tail (LineFits f) line all h))
  where
    by : (line : Line) → LineFits f line → All (IsClause (shape_of f)) (lemmas_of all) → All (IsClause (shape_of f)) (cons_option (lemma_of line) (lemmas_of all))
    by (lines.Table table) fits rest = rest
    by (lines.Explain n clause) fits rest = rest
    by (lines.Order v w x clause) fits rest = rest
    by (lines.Goal clause) fits rest = rest
    by (lines.Lemma clause hints) fits rest = All-cons (IsClause (shape_of f)) clause (lemmas_of all) fits rest
    by (lines.Delete ids) fits rest = rest
    by (lines.Toll toll) fits rest = rest
    by (lines.Tariff tariff) fits rest = rest
    by (lines.Priced clause) fits rest = rest
    by (lines.Bound bound) fits rest = rest

pub few_new : (f : Problem) (all : List Line) → IsFlat f → All (LineFits f) all → IsNew f all → length (lemmas_of all) ≤ room_count f
few_new f all flat fits new = clauses_few (shape_of f) (lemmas_of all) (shape_fits f flat) (lemma_fits f all fits) new

pub few_stored : (s : SearchModel) → IsSearch s → length s.stored ≤ room_count s.problem
few_stored s is = omega (arith, clauses_few (shape_of s.problem) (lemmas_in s) (shape_fits s.problem is.flat) is.clauses is.new, length-map s.stored (λ (one : Stored). one.clause))

-- ---- the numbers of lines

pub most_is : (f : Problem) → IsFlat f → most_events f.ships f.slots ≤ 21260
most_is f flat =
    let slots : f.slots - 1 ≤ 512 = omega (arith, slots_le f, flat.few_slots) in
    let few : f.ships ≤ 40 = flat.few_ships in
    let a : f.ships * (f.slots - 1) ≤ 40 * 512 = product f.ships 40 (f.slots - 1) 512 few slots in
    let b : f.ships * (f.ships - 1) ≤ 40 * 39 = product f.ships 40 (f.ships - 1) 39 few (omega (arith, few)) in
    omega (arith, a, b)

pub few_reasons : (s : SearchModel) → IsSearch s → (length s.written ≤ most_events s.problem.ships s.problem.slots) × (most_events s.problem.ships s.problem.slots ≤ 21260)
few_reasons s is =
    let e : length s.trail.events ≤ most_events s.problem.ships s.problem.slots = subst (λ n. length s.trail.events ≤ most_events n s.problem.slots) is.same_ships (subst (λ n. length s.trail.events ≤ most_events s.trail.ships n) is.same_slots (few_events s.trail is.trail)) in
    (omega (arith, e, is.each_event), most_is s.problem is.flat)

pub few_numbers : (s : SearchModel) → IsSearch s → s.over ≡ false → s.lemmas < 100000 → s.clause_lines + most_events s.problem.ships s.problem.slots + 2 < 2 ^ 32
few_numbers s is over few =
    let m = most_is s.problem is.flat in
    let a : (most_events s.problem.ships s.problem.slots + 2) * s.lemmas ≤ 21262 * 99999 = product (most_events s.problem.ships s.problem.slots + 2) 21262 s.lemmas 99999 (omega (arith, m)) (omega (arith, few)) in
    omega (arith, a, m, is.few_lines over, is.few_priced)

-- also after the last lemma there is a number for one more line
pub few_last : (s : SearchModel) → IsSearch s → s.over ≡ false → s.lemmas ≤ 100000 → s.clause_lines + 1 < 2 ^ 32
few_last s is over few =
    let m = most_is s.problem is.flat in
    let a : (most_events s.problem.ships s.problem.slots + 2) * s.lemmas ≤ 21262 * 100000 = product (most_events s.problem.ships s.problem.slots + 2) 21262 s.lemmas 100000 (omega (arith, m)) few in
    omega (arith, a, is.few_lines over, is.few_priced)

pub few_restarts : (s : SearchModel) → IsSearch s → s.over ≡ false → s.lemmas < 100000 → s.restarts + 1 ≤ 100000
few_restarts s is over few = omega (arith, few, is.few_restarts over)
