-- Trying each restriction in order, as a loop does.
use Rattle.std.proofs.Common.{◌≡◌, ◌==◌, ℕ, suc, ◌+◌, ◌-◌, ◌<◌, ◌≤◌, Bool, true, not, cond, List, [], ◌∷◌, ◌++◌, Some, All, slice_get, length, refl, sym, ap, subst, ◌∙◌, append_assoc, arith, inl, inr}
use Rattle.std.proofs.lemmas.Bool.{eq-eqb, ne_eqb, cases_lt}
use Rattle.std.proofs.lemmas.List.{append-nil, length_push}
use Rattle.std.proofs.lemmas.List.Elements.{All-head, All-tail, All-push, All-weaker, All-from_get_or, All-filter, filter-append}
use Rattle.std.proofs.lemmas.List.Kept.{IsStrictlyIncreasing-filter}
use Rattle.std.proofs.lemmas.List.FromFn.{length-range_with_len, get_or-range_with_len}
use Rattle.std.proofs.lemmas.Option.{same_Some}
use Rattle.std.specs.List.{range_with_len}
use Rattle.std.specs.List.Sorted.{IsStrictlyIncreasing}
use Rattle.hw_lemmas.proofs.Lists.{get_left, get_right, get_within}
use Rattle.hw_cert_lines.specs.declared.check.Verdict.TheVariants.{Optimal}
use Rattle.hw_cert_lines.specs.declared.line.Line.{Line}
use Rattle.hw_model.specs.Limits.{IsFlat}
use Rattle.hw_model.specs.Timetables.{Permits, NonePermitted}
use Rattle.hw_clash.specs.Asking.{FitsAt, NoneAt, SpentAt}
use Rattle.hw_clash.specs.Wished.{Wished, wished_count, NoneWished}
use Rattle.hw_clash.specs.Parts.{part}
use Rattle.hw_lemmas.specs.Lists.{has}
use Rattle.hw_clash.specs.Clashing.{all_restriction_numbers, without_number, IsLeft, IsClash}
use Rattle.hw_clash.specs.Outcomes.{Asks, IsClashFound, IsMet, MayAsk, IsSpentAt}
use Rattle.hw_clash.proofs.Lists.{all_has, of_without, without_within}
use Rattle.hw_clash.proofs.Parts.{part_of_all, part_cargo}
use Rattle.hw_clash.proofs.Irreducible.{known, fewer, clash_means}

-- ---- lists

without_other : (n : ℕ) (xs : List ℕ) → All (λ m. m ≡ n → ⊥) xs → without_number n xs ≡ xs
without_other n [] each = refl
without_other n (m ∷ xs) each =
    ap (λ (b : Bool). cond (not b) (m ∷ without_number n xs) (without_number n xs)) (ne_eqb m n (All-head (λ m. m ≡ n → ⊥) m xs each))
    ∙ ap (λ (rest : List ℕ). m ∷ rest) (without_other n xs (All-tail (λ m. m ≡ n → ⊥) m xs each))

without_itself : (n : ℕ) (xs : List ℕ) → without_number n (n ∷ xs) ≡ without_number n xs
without_itself n xs = ap (λ (b : Bool). cond (not b) (n ∷ without_number n xs) (without_number n xs)) (eq-eqb n n refl)

above : (n many : ℕ) → All (λ m. m ≡ n → ⊥) (range_with_len (n + 1) many)
above n many = All-from_get_or (λ m. m ≡ n → ⊥) (range_with_len (n + 1) many) 0 (λ i lt same.
    let in' : i < many = omega (arith, lt, length-range_with_len (n + 1) many) in
    omega (arith, same, get_or-range_with_len (n + 1) many i 0 in'))

without_between : (n many : ℕ) (front : List ℕ) → All (λ m. m < n) front → without_number n (front ++ range_with_len n (suc many)) ≡ front ++ range_with_len (n + 1) many
without_between n many front below =
    let others : All (λ m. m ≡ n → ⊥) front = All-weaker (λ m. m < n) (λ m. m ≡ n → ⊥) (λ m lt same. omega (arith, lt, same)) front below in
    filter-append (λ m. not (m == n)) front (n ∷ range_with_len (n + 1) many)
    ∙ (ap (λ (xs : List ℕ). xs ++ without_number n (n ∷ range_with_len (n + 1) many)) (without_other n front others)
    ∙ ap (λ (xs : List ℕ). front ++ xs) (without_itself n (range_with_len (n + 1) many) ∙ without_other n (range_with_len (n + 1) many) (above n many)))

-- ---- what is kept while restrictions are tried

-- those below n were tried: of these the ones in front are kept, each with a timetable that all others permit
pub record Reducing (f : Wished) (n : ℕ) (kept : List ℕ) (drops : List (List ℕ)) : Type 0 where
  pub left : IsLeft f n kept
  pub front : List ℕ
  pub below : All (λ m. m < n) front
  pub is : kept ≡ front ++ range_with_len n (wished_count f - n)
  pub each : length drops ≡ length front
  pub met : (place m : ℕ) (table : List ℕ) → slice_get kept place ≡ Some m → slice_get drops place ≡ Some table → Permits (part f (without_number m kept)) table

next_left : (f : Wished) (n : ℕ) (kept : List ℕ) → IsLeft f (suc n) kept → IsLeft f (n + 1) kept
next_left f n kept h = let e : suc n ≡ n + 1 = omega arith in subst (λ k. IsLeft f k kept) e h

begun : (f : Wished) (n : ℕ) (kept : List ℕ) (drops : List (List ℕ)) → n < wished_count f → (r : Reducing f n kept drops) → kept ≡ r.front ++ range_with_len n (suc (wished_count f - (n + 1)))
begun f n kept drops lt r =
    let k : wished_count f - n ≡ suc (wished_count f - (n + 1)) = omega arith in
    r.is ∙ ap (λ (m : ℕ). r.front ++ range_with_len n m) k

pub taken_away : (f : Wished) (n : ℕ) (kept others : List ℕ) (drops : List (List ℕ)) → n < wished_count f → Reducing f n kept drops → others ≡ without_number n kept → NonePermitted (part f others) → Reducing f (n + 1) others drops
taken_away f n kept others drops lt r e none =
    let is : others ≡ r.front ++ range_with_len (n + 1) (wished_count f - (n + 1)) = e ∙ (ap (without_number n) (begun f n kept drops lt r) ∙ without_between n (wished_count f - (n + 1)) r.front r.below) in
    record {
      left = next_left f n others (kept, r.left, inl (subst (λ xs. NonePermitted (part f xs)) e none, e));
      front = r.front;
      below = All-weaker (λ m. m < n) (λ m. m < n + 1) (λ m h. omega (arith, h)) r.front r.below;
      is = is;
      each = r.each;
      met = λ place m table p q.
          let in' : place < length r.front = omega (arith, get_within drops place table q, r.each) in
          let at_front : slice_get others place ≡ slice_get kept place = ap (λ xs. slice_get xs place) is ∙ (get_left r.front _ place in' ∙ (sym (get_left r.front _ place in') ∙ ap (λ xs. slice_get xs place) (sym r.is))) in
          fewer f (without_number m others) (without_number m kept) table (without_within m others kept (λ k h. (of_without n k kept (subst (λ xs. has xs k ≡ true) e h)).0)) (r.met place m table (sym at_front ∙ p) q);
    }

pub one_kept : (f : Wished) (n : ℕ) (kept : List ℕ) (drops : List (List ℕ)) (table : List ℕ) → n < wished_count f → Reducing f n kept drops → Permits (part f (without_number n kept)) table → Reducing f (n + 1) kept (drops ++ table ∷ [])
one_kept f n kept drops table lt r permits =
    let rest : List ℕ = range_with_len (n + 1) (wished_count f - (n + 1)) in
    let is : kept ≡ r.front ++ n ∷ rest = begun f n kept drops lt r in
    record {
      left = next_left f n kept (kept, r.left, inr ((table, permits), refl));
      front = r.front ++ n ∷ [];
      below = All-push (λ m. m < n + 1) r.front n (All-weaker (λ m. m < n) (λ m. m < n + 1) (λ m h. omega (arith, h)) r.front r.below) (omega arith);
      is = is ∙ sym (append_assoc r.front (n ∷ []) rest);
      each = length_push drops table ∙ (ap (λ k. k + 1) r.each ∙ sym (length_push r.front n));
      met = λ place m other p q. elim (cases_lt place (length drops)) [
        | inl before ↦ r.met place m other p (sym (get_left drops (table ∷ []) place before) ∙ q)
        | inr past ↦
            let in' : place < length drops + 1 = omega (arith, get_within (drops ++ table ∷ []) place other q, length_push drops table) in
            let here : place ≡ length drops + 0 = omega (arith, past, in') in
            let there : place ≡ length r.front + 0 = omega (arith, here, r.each) in
            let same_table : table ≡ other = same_Some table other (sym (get_right drops (table ∷ []) 0 place here) ∙ q) in
            let same_number : n ≡ m = same_Some n m (sym (get_right r.front (n ∷ rest) 0 place there) ∙ (sym (ap (λ xs. slice_get xs place) is) ∙ p)) in
            subst (λ k. Permits (part f (without_number k kept)) other) same_number (subst (Permits (part f (without_number n kept))) same_table permits)
      ];
    }

none_at_all : (f : Wished) (first : List Line) → NoneAt (part f (all_restriction_numbers f)) first → NoneWished f
none_at_all f first none table permits = none.none table ((part_of_all f table).1 permits)

pub asked_there : (f : Wished) (n : ℕ) (kept others : List ℕ) (drops : List (List ℕ)) (budget : ℕ) (first all : List Line)
    → NoneAt (part f (all_restriction_numbers f)) first → n < wished_count f → Reducing f n kept drops → others ≡ without_number n kept → SpentAt (part f others) budget all → IsSpentAt f budget (n + 1) all
asked_there f n kept others drops budget first all none lt r e spent =
    let next : suc n ≡ n + 1 = omega arith in
    record {
      numbered = omega (arith, lt);
      later = subst (MayAsk f) next (none_at_all f first none);
      asked = others;
      asks = subst (λ k. Asks f k others) next (kept, r.left, e);
      proof = spent.proof;
      lemmas = spent.lemmas;
      unclosed = spent.unclosed;
      few = spent.few;
    }

-- the numbers that are asked about are restrictions, ascending
pub record Numbers (f : Wished) (xs : List ℕ) : Type 0 where
  pub numbered : All (λ n. n < wished_count f) xs
  pub ascending : IsStrictlyIncreasing xs

pub numbers_left : (f : Wished) (n : ℕ) (kept : List ℕ) → IsLeft f n kept → Numbers f kept
numbers_left f n kept h =
    let k = known f n kept h in
    record { numbered = all_has (λ n. n < wished_count f) kept k.numbered; ascending = k.ascending }

pub numbers_without : (f : Wished) (n : ℕ) (kept : List ℕ) (drops : List (List ℕ)) (m : ℕ) (others : List ℕ) → Reducing f n kept drops → others ≡ without_number m kept → Numbers f others
numbers_without f n kept drops m others r e =
    let k = numbers_left f n kept r.left in
    subst (Numbers f) (sym e) (record { numbered = All-filter (λ i. not (i == m)) (λ i. i < wished_count f) kept k.numbered; ascending = IsStrictlyIncreasing-filter (λ i. not (i == m)) kept k.ascending })

-- ---- the end

pub all_tried : (f : Wished) (n : ℕ) (kept : List ℕ) (drops : List (List ℕ)) (all first : List Line) → IsFlat f.problem → wished_count f ≤ n → n ≤ wished_count f → Reducing f n kept drops → NoneAt (part f (all_restriction_numbers f)) first → NoneAt (part f kept) all → IsClashFound f kept drops all
all_tried f n kept drops all first flat le ge r none shown =
    let e : n ≡ wished_count f = omega (arith, le, ge) in
    let clash : IsClash f kept = subst (λ k. IsLeft f k kept) e r.left in
    let nothing : NoneWished f = none_at_all f first none in
    let zero' : wished_count f - n ≡ 0 = omega (arith, le) in
    let whole : kept ≡ r.front = r.is ∙ (ap (λ k. r.front ++ range_with_len n k) zero' ∙ append-nil r.front) in
    record {
      none = nothing;
      clash = clash;
      irreducible = clash_means f kept flat nothing clash;
      met = record { each_id = r.each ∙ ap length (sym whole); met = r.met };
      proof = shown.proof;
      shown = shown.shown;
    }

-- ---- the first step

pub met_at_once : (f : Wished) (numbers table : List ℕ) (all : List Line) → numbers ≡ all_restriction_numbers f → FitsAt (part f numbers) table all → IsMet f table all
met_at_once f numbers table all e fits' =
    let fits = subst (λ xs. FitsAt (part f xs) table all) e fits' in
    let nought : 0 ≡ fits.shown.0 = same_Some 0 fits.shown.0 (sym (part_cargo f (all_restriction_numbers f) table fits.permitted) ∙ fits.shown.1) in
    record {
      permitted = (part_of_all f table).0 fits.permitted;
      proof = fits.proof;
      shown = fits.shown.2 ∙ ap (λ c. Optimal c) (sym nought);
      last = fits.last;
    }

-- the timetable of a part without a number, by the list that is asked about
pub fits_without : (f : Wished) (n : ℕ) (kept others : List ℕ) (table : List ℕ) (all : List Line) → others ≡ without_number n kept → FitsAt (part f others) table all → Permits (part f (without_number n kept)) table
fits_without f n kept others table all e fits = subst (λ xs. Permits (part f xs) table) e fits.permitted

pub numbers_all : (f : Wished) → Numbers f (all_restriction_numbers f)
numbers_all f = numbers_left f 0 (all_restriction_numbers f) refl
