-- The stands that are found are exactly the waters.
use Rattle.std.proofs.Common.{◌≡◌, ◌⊎◌, ◌≤◌, ◌<◌, ◌+◌, ◌-◌, ◌∙◌, ℕ, ℤ, zero, suc, Bool, true, false, cond, nat_lt, List, [], ◌∷◌, Option, Some, None, get_or, refl, ap, sym, subst, arith, inl, inr}
use Rattle.std.proofs.lemmas.Bool.{and_parts, lt-ltb, ltb-true}
use Rattle.std.proofs.lemmas.Int.{ints}
use Rattle.std.proofs.lemmas.List.Elements.{Contains-append_cases, Contains-append_right}
use Rattle.std.specs.List.{Contains}
use Rattle.hw_chart_waters.specs.declared.stand.Stand.{Stand}
use Rattle.hw_chart_waters.specs.declared.stand.WaterKind.{WaterKind}
use Rattle.hw_chart_waters.specs.declared.stand.WaterKind.TheVariants.{High, Low}
use Rattle.hw_chart_waters.specs.Laws.{IsWater, LiesBeyond, StandsAreWaters}
use Rattle.hw_chart_waters.specs.Stands.{is_beyond, stand_at, stand_before, stand_begins, stand_end, stand_turns, stands_from}
use Rattle.hw_chart_waters.proofs.Ends.{beyond, end_is, end_of, is_beyond_by, next_or_same, other_height}

-- ---- from a stand that is found to a water

record Taken (kind : WaterKind) (height : ℕ → ℤ) (rows row end : ℕ) (s : Stand) : Type 0 where
  pub begins : stand_begins kind height row ≡ true
  pub turns : stand_turns kind height rows row end ≡ true
  pub same : record { first = row; end = end } ≡ s

taken : (kind : WaterKind) (height : ℕ → ℤ) (rows row end : ℕ) (s : Stand) (b t : Bool) → stand_begins kind height row ≡ b → stand_turns kind height rows row end ≡ t → cond b (cond t (Some (record { first = row; end = end })) None) None ≡ Some s → Taken kind height rows row end s
taken kind height rows row end s true true is turns e = record { begins = is; turns = turns; same = cc }
taken kind height rows row end s true false is turns e = absurd cc
taken kind height rows row end s false t is turns e = absurd cc

water_of : (kind : WaterKind) (height : ℕ → ℤ) (rows row : ℕ) → row < rows → stand_begins kind height row ≡ true → stand_turns kind height rows row (stand_end height (height row) row (rows - row)) ≡ true → IsWater kind height rows (record { first = row; end = stand_end height (height row) row (rows - row) })
water_of kind height rows row lt begins turns =
    let from = and_parts (nat_lt 0 row) (is_beyond kind (height row) (height (row - 1))) begins in
    let end : ℕ = stand_end height (height row) row (rows - row) in
    let to = and_parts (nat_lt end rows) (is_beyond kind (height row) (height end)) turns in
    let ends = end_of height (height row) row (rows - row) in
    record {
      after = ltb-true 0 row from.0;
      some = some_rows end ends.onward (beyond kind (height row) (height end) to.1);
      before = ltb-true end rows to.0;
      level = ends.alike;
      from = beyond kind (height row) (height (row - 1)) from.1;
      to = beyond kind (height row) (height end) to.1;
    }
  where
    itself : (kind : WaterKind) (x : ℤ) → LiesBeyond kind x x → ⊥
    itself High x lt = grind (arith, ints, lt)
    itself Low x lt = grind (arith, ints, lt)

    some_rows : (end : ℕ) → row ≤ end → LiesBeyond kind (height row) (height end) → row < end
    some_rows end ge to = elim (next_or_same row end ge) [
      | inl same ↦ absurd (itself kind (height row) (subst (λ (n : ℕ). LiesBeyond kind (height row) (height n)) (sym same) to))
      | inr after ↦ omega (arith, after)
    ]

water_at : (kind : WaterKind) (height : ℕ → ℤ) (rows row : ℕ) (s : Stand) → row < rows → stand_at kind height rows row ≡ Some s → IsWater kind height rows s
water_at kind height rows row s lt e =
    let end : ℕ = stand_end height (height row) row (rows - row) in
    let is = taken kind height rows row end s (stand_begins kind height row) (stand_turns kind height rows row end) refl refl e in
    subst (IsWater kind height rows) is.same (water_of kind height rows row lt is.begins is.turns)

none_in : (s : Stand) → Contains [] s → ⊥
none_in s c = absurd (omega (arith, c.1))

is_one : (a s : Stand) → Contains (a ∷ []) s → a ≡ s
is_one a s c = one c.0 c.1 c.2
  where
    one : (k : ℕ) → k < 1 → get_or (a ∷ []) k s ≡ s → a ≡ s
    one zero lt e = e
    one (suc k) lt e = absurd (omega (arith, lt))

first_or_later : (o : Option Stand) (more : List Stand) (s : Stand) → Contains (stand_before o more) s → (o ≡ Some s) ⊎ Contains more s
first_or_later None more s c = inr c
first_or_later (Some a) more s c = elim (Contains-append_cases (a ∷ []) more s c) [ inl here ↦ inl (ap Some (is_one a s here)) | inr later ↦ inr later ]

water_in : (kind : WaterKind) (height : ℕ → ℤ) (rows row more : ℕ) (s : Stand) → row + more ≤ rows → Contains (stands_from kind height rows row more) s → IsWater kind height rows s
water_in kind height rows row zero s le c = absurd (none_in s c)
water_in kind height rows row (suc more) s le c = elim (first_or_later (stand_at kind height rows row) (stands_from kind height rows (row + 1) more) s c) [
  | inl here ↦ water_at kind height rows row s (omega (arith, le)) here
  | inr later ↦ water_in kind height rows (row + 1) more s (omega (arith, le)) later
]

-- ---- from a water to a stand that is found

found_at : (kind : WaterKind) (height : ℕ → ℤ) (rows : ℕ) (s : Stand) → IsWater kind height rows s → stand_at kind height rows s.first ≡ Some s
found_at kind height rows s w =
    let after = w.after in
    let some = w.some in
    let before = w.before in
    let end : stand_end height (height s.first) s.first (rows - s.first) ≡ s.end = end_is height (height s.first) s.first (rows - s.first) s.end (omega (arith, some)) (omega (arith, before, some)) w.level (other_height kind (height s.first) (height s.end) w.to) in
    let here : nat_lt 0 s.first ≡ true = lt-ltb 0 s.first after in
    let inside : nat_lt s.end rows ≡ true = lt-ltb s.end rows before in
    let from = is_beyond_by kind (height s.first) (height (s.first - 1)) w.from in
    let to = is_beyond_by kind (height s.first) (height s.end) w.to in
    rw (end, here, from, inside, to) refl

here_it_is : (o : Option Stand) (more : List Stand) (s : Stand) → o ≡ Some s → Contains (stand_before o more) s
here_it_is None more s e = absurd cc
here_it_is (Some a) more s e = let same : s ≡ a = cc in subst (Contains (a ∷ more)) (sym same) (0, omega arith, refl)

still_there : (o : Option Stand) (more : List Stand) (s : Stand) → Contains more s → Contains (stand_before o more) s
still_there None more s c = c
still_there (Some a) more s c = Contains-append_right (a ∷ []) more s c

found_in : (kind : WaterKind) (height : ℕ → ℤ) (rows row more at : ℕ) (s : Stand) → row ≤ at → at < row + more → stand_at kind height rows at ≡ Some s → Contains (stands_from kind height rows row more) s
found_in kind height rows row zero at s ge lt e = absurd (omega (arith, ge, lt))
found_in kind height rows row (suc more) at s ge lt e = elim (next_or_same row at ge) [
  | inl same ↦ here_it_is (stand_at kind height rows row) (stands_from kind height rows (row + 1) more) s (ap (stand_at kind height rows) same ∙ e)
  | inr after ↦ still_there (stand_at kind height rows row) (stands_from kind height rows (row + 1) more) s (found_in kind height rows (row + 1) more at s after (omega (arith, lt)) e)
]

pub are_waters : StandsAreWaters
are_waters kind height rows s = (λ c. water_in kind height rows 0 rows s (omega arith) c, λ w. let some = w.some in let before = w.before in found_in kind height rows 0 rows s.first s (omega arith) (omega (arith, some, before)) (found_at kind height rows s w))
