-- A table is refused for just its first fault.
use Rattle.std.proofs.Common.{◌≡◌, ℕ, zero, suc, ◌+◌, ◌-◌, ◌<◌, ◌≤◌, ◌==◌, ◌++◌, ◌⊎◌, inl, inr, Bool, true, false, cond, ℤ, List, [], ◌∷◌, length, drop, get_or, slice_get, Option, Some, None, option_and_then, Result, Ok, Err, bytes_eq, refl, sym, ap, ap₂, ◌∙◌, subst, arith, eqb-true}
use Rattle.std.proofs.lemmas.Bool.{ne_eqb}
use Rattle.std.proofs.lemmas.Bool.Decides.{nat_tests}
use Rattle.std.proofs.lemmas.Option.{same_Some}
use Rattle.std.proofs.lemmas.Slice.Eq.{bytes_eq-Decides}
use Rattle.hw_lemmas.specs.Operators.{◌>>=◌}
use Rattle.hw_text.specs.Numbers.{number_up_to, signed_up_to}
use Rattle.hw_tide.specs.declared.kind.TableKind.{TableKind}
use Rattle.hw_tide.specs.declared.kind.TableKind.TheVariants.{Heights, Waters}
use Rattle.hw_tide.specs.declared.fault.TideFault.{TideFault}
use Rattle.hw_tide.specs.declared.fault.TideFault.TheVariants.{Header, Length, Field, Few, NoMemory}
use Rattle.hw_tide.specs.Levels.{LevelsParts}
use Rattle.hw_tide.specs.Table.{formed_field, needed, kind_word, wrong_column, header_of, slot_fits, fitting, first_field, heights_from, levels_form, levels_from, not_empty, table_of}
use Rattle.hw_tide.specs.Tides.{tide_from, tide_of}
use Rattle.hw_tide.specs.Told.{EachTells}
use Rattle.hw_tide.specs.Faults.{Follows, IsFirstNoHeight, IsWrong, IsFirstOther, IsFirstBad, IsFirstFault, FaultTold}
use Rattle.hw_tide.proofs.Kept.{bound, was_formed, was_needed, same_Ok}
use Rattle.hw_tide.proofs.ToldTables.{same_words, was_right, right_words, Chain, rows_told, rows_again, next_from, rise_from, fits_after, first_fits, first_chain, begins_from}

-- ---- steps

failed : {A B : Type 0} (r : Result A TideFault) (g : A → Result B TideFault) (e : TideFault) → (r >>= g) ≡ Err e → (r ≡ Err e) ⊎ ((x : A) × (r ≡ Ok x) × (g x ≡ Err e))
failed (Ok x) g e h = inr (x, refl, h)
failed (Err f) g e h = let same : f ≡ e = cc in inl (ap (λ x. Err x) same)

not_formed : {A : Type 0} (fault : TideFault) (o : Option A) (e : TideFault) → formed_field fault o ≡ Err e → (o ≡ None) × (fault ≡ e)
not_formed fault None e h = (refl, cc)
not_formed fault (Some x) e h = absurd cc

not_needed : (fault : TideFault) (b : Bool) (e : TideFault) → needed fault b ≡ Err e → (b ≡ false) × (fault ≡ e)
not_needed fault true e h = absurd cc
not_needed fault false e h = (refl, cc)

equal : (a b : ℕ) → a ≡ b → (a == b) ≡ true
equal a b e = grind (arith, nat_tests)

some_of : {A : Type 0} (o : Option A) → (o ≡ None → ⊥) → (x : A) × (o ≡ Some x)
some_of None h = absurd (h refl)
some_of (Some x) h = (x, refl)

-- ---- heights

before_on : (f : List ℕ) (fs : List (List ℕ)) (place : ℕ) (h : ℤ) → signed_up_to 2_000 f ≡ Some h → ((k : ℕ) → k < place → signed_up_to 2_000 (get_or fs k []) ≡ None → ⊥) → (k : ℕ) → k < suc place → signed_up_to 2_000 (get_or (f ∷ fs) k []) ≡ None → ⊥
before_on f fs place h is rest zero lt none = absurd cc
before_on f fs place h is rest (suc k) lt none = rest k (omega (arith, lt)) none

no_height : (row column : ℕ) (fields : List (List ℕ)) (e : TideFault) → heights_from row column fields ≡ Err e → (place : ℕ) × (e ≡ Field row (column + place)) × IsFirstNoHeight fields place
unfolding heights_from
no_height row column [] e h = absurd cc
no_height row column (f ∷ fs) e h = elim (failed (formed_field (Field row column) (signed_up_to 2_000 f)) (λ h. heights_from row (column + 1) fs >>= λ hs. Ok (h ∷ hs)) e h) [
  | inl bad ↦
      let w = not_formed (Field row column) (signed_up_to 2_000 f) e bad in
      let at : column ≡ column + 0 = omega arith in
      (0, sym w.1 ∙ ap (λ c. Field row c) at, record { inside = omega arith; wrong = w.0; before = λ k lt. absurd (omega (arith, lt)) })
  | inr good ↦ elim (failed (heights_from row (column + 1) fs) (λ hs. Ok (good.0 ∷ hs)) e good.2) [
    | inl rest ↦
        let n = no_height row (column + 1) fs e rest in
        let at : column + 1 + n.0 ≡ column + suc n.0 = omega arith in
        let is = was_formed (Field row column) (signed_up_to 2_000 f) good.0 good.1 in
        let inside = n.2.inside in
        (suc n.0, n.1 ∙ ap (λ c. Field row c) at, record { inside = omega (arith, inside); wrong = n.2.wrong; before = before_on f fs n.0 good.0 is n.2.before })
    | inr nothing ↦ let bad = nothing.2 in absurd cc
  ]
]

height_fails : (row column : ℕ) (fields : List (List ℕ)) (place : ℕ) → IsFirstNoHeight fields place → heights_from row column fields ≡ Err (Field row (column + place))
unfolding heights_from
height_fails row column [] place n = let inside = n.inside in absurd (omega (arith, inside))
height_fails row column (f ∷ fs) zero n =
    let at : column ≡ column + 0 = omega arith in
    ap (λ (o : Option ℤ). formed_field (Field row column) o >>= λ h. heights_from row (column + 1) fs >>= λ hs. Ok (h ∷ hs)) n.wrong ∙ ap (λ c. Err (Field row c)) at
height_fails row column (f ∷ fs) (suc place) n =
    let one = some_of (signed_up_to 2_000 f) (n.before 0 (omega arith)) in
    let inside = n.inside in
    let rest : IsFirstNoHeight fs place = record { inside = omega (arith, inside); wrong = n.wrong; before = λ k lt. n.before (suc k) (omega (arith, lt)) } in
    let at : column + 1 + place ≡ column + suc place = omega arith in
    ap (λ (o : Option ℤ). formed_field (Field row column) o >>= λ h. heights_from row (column + 1) fs >>= λ hs. Ok (h ∷ hs)) one.1
    ∙ ap (λ (r : Result (List ℤ) TideFault). r >>= λ hs. Ok (one.0 ∷ hs)) (height_fails row (column + 1) fs place rest)
    ∙ ap (λ c. Err (Field row c)) at

-- ---- a record

no_slot : (kind : TableKind) (row : ℕ) (last o : Option ℕ) → ((slot : ℕ) → o ≡ Some slot → slot_fits kind row last slot ≡ true → ⊥) → option_and_then (fitting kind row last) o ≡ None
no_slot kind row last None none = refl
no_slot kind row last (Some s) none = by (slot_fits kind row last s) (none s refl)
  where
    by : (b : Bool) → (b ≡ true → ⊥) → cond b (Some s) None ≡ None
    by true h = absurd (h refl)
    by false h = refl

slot_there : (kind : TableKind) (row : ℕ) (last o : Option ℕ) (slot : ℕ) → o ≡ Some slot → slot_fits kind row last slot ≡ true → option_and_then (fitting kind row last) o ≡ Some slot
slot_there kind row last o slot is fits = ap (option_and_then (fitting kind row last)) is ∙ ap (λ b. cond b (Some slot) None) fits

slot_of : (kind : TableKind) (row : ℕ) (last o : Option ℕ) (slot : ℕ) → option_and_then (fitting kind row last) o ≡ Some slot → (s : ℕ) × (o ≡ Some s) × (slot_fits kind row last s ≡ true)
slot_of kind row last None slot e = absurd cc
slot_of kind row last (Some s) slot e = by (slot_fits kind row last s) refl e
  where
    by : (b : Bool) → slot_fits kind row last s ≡ b → cond b (Some s) None ≡ Some slot → (t : ℕ) × (◌≡◌ {A = Option ℕ} (Some s) (Some t)) × (slot_fits kind row last t ≡ true)
    by true is e = (s, refl, is)
    by false is e = absurd cc

record_fails : (kind : TableKind) (waypoints row : ℕ) (last : Option ℕ) (fields : List (List ℕ)) (e : TideFault) → levels_form kind (1 + waypoints) row last fields ≡ Err e → IsWrong waypoints (λ s. slot_fits kind row last s ≡ true) row fields e
unfolding levels_form
record_fails kind waypoints row last fields e h = elim (failed (needed (Length row) (length fields == 1 + waypoints)) (λ size. formed_field (Field row 0) (option_and_then (fitting kind row last) (number_up_to 2_047 (first_field fields))) >>= λ slot. heights_from row 1 (drop 1 fields) >>= λ heights. Ok (record { slot = slot; heights = heights })) e h) [
  | inl bad ↦
      let w = not_needed (Length row) (length fields == 1 + waypoints) e bad in
      subst (IsWrong waypoints (λ s. slot_fits kind row last s ≡ true) row fields) w.1 (refl, λ same. let yes = equal (length fields) (1 + waypoints) same in let no = w.0 in absurd cc)
  | inr a ↦
      let size : length fields ≡ 1 + waypoints = eqb-true (length fields) (1 + waypoints) (was_needed (Length row) (length fields == 1 + waypoints) a.0 a.1) in
      elim (failed (formed_field (Field row 0) (option_and_then (fitting kind row last) (number_up_to 2_047 (first_field fields)))) (λ slot. heights_from row 1 (drop 1 fields) >>= λ heights. Ok (record { slot = slot; heights = heights })) e a.2) [
        | inl bad ↦
            let w = not_formed (Field row 0) (option_and_then (fitting kind row last) (number_up_to 2_047 (first_field fields))) e bad in
            subst (IsWrong waypoints (λ s. slot_fits kind row last s ≡ true) row fields) w.1 (refl, size, λ has. let yes = slot_there kind row last (number_up_to 2_047 (first_field fields)) has.0 has.1 has.2 in let no = w.0 in absurd cc)
        | inr b ↦
            let s = slot_of kind row last (number_up_to 2_047 (first_field fields)) b.0 (was_formed (Field row 0) (option_and_then (fitting kind row last) (number_up_to 2_047 (first_field fields))) b.0 b.1) in
            elim (failed (heights_from row 1 (drop 1 fields)) (λ heights. Ok (record { slot = b.0; heights = heights })) e b.2) [
              | inl bad ↦
                  let n = no_height row 1 (drop 1 fields) e bad in
                  let at : 1 + n.0 ≡ suc n.0 = omega arith in
                  subst (IsWrong waypoints (λ s. slot_fits kind row last s ≡ true) row fields) (sym (n.1 ∙ ap (λ c. Field row c) at)) (refl, size, (s, n.2))
              | inr nothing ↦ let bad = nothing.2 in absurd cc
            ]
      ]
]

record_fails_again : (kind : TableKind) (waypoints row : ℕ) (last : Option ℕ) (fields : List (List ℕ)) (e : TideFault) → IsWrong waypoints (λ s. slot_fits kind row last s ≡ true) row fields e → levels_form kind (1 + waypoints) row last fields ≡ Err e
unfolding levels_form
record_fails_again kind waypoints row last fields (Length at) w =
    ap (λ (b : Bool). needed (Length row) b >>= λ size. formed_field (Field row 0) (option_and_then (fitting kind row last) (number_up_to 2_047 (first_field fields))) >>= λ slot. heights_from row 1 (drop 1 fields) >>= λ heights. Ok (record { slot = slot; heights = heights })) (ne_eqb (length fields) (1 + waypoints) w.1) ∙ ap (λ r. Err (Length r)) (sym w.0)
record_fails_again kind waypoints row last fields (Field at zero) w =
    ap (λ (b : Bool). needed (Length row) b >>= λ size. formed_field (Field row 0) (option_and_then (fitting kind row last) (number_up_to 2_047 (first_field fields))) >>= λ slot. heights_from row 1 (drop 1 fields) >>= λ heights. Ok (record { slot = slot; heights = heights })) (equal (length fields) (1 + waypoints) w.1)
    ∙ ap (λ (o : Option ℕ). formed_field (Field row 0) o >>= λ slot. heights_from row 1 (drop 1 fields) >>= λ heights. Ok (record { slot = slot; heights = heights })) (no_slot kind row last (number_up_to 2_047 (first_field fields)) (λ s is fits. w.2 (s, is, fits)))
    ∙ ap (λ r. Err (Field r 0)) (sym w.0)
record_fails_again kind waypoints row last fields (Field at (suc place)) w =
    let has = w.2.0 in
    let on : 1 + place ≡ suc place = omega arith in
    ap (λ (b : Bool). needed (Length row) b >>= λ size. formed_field (Field row 0) (option_and_then (fitting kind row last) (number_up_to 2_047 (first_field fields))) >>= λ slot. heights_from row 1 (drop 1 fields) >>= λ heights. Ok (record { slot = slot; heights = heights })) (equal (length fields) (1 + waypoints) w.1)
    ∙ ap (λ (o : Option ℕ). formed_field (Field row 0) o >>= λ slot. heights_from row 1 (drop 1 fields) >>= λ heights. Ok (record { slot = slot; heights = heights })) (slot_there kind row last (number_up_to 2_047 (first_field fields)) has.0 has.1 has.2)
    ∙ ap (λ (r : Result (List ℤ) TideFault). r >>= λ heights. Ok (record { slot = has.0; heights = heights })) (height_fails row 1 (drop 1 fields) place w.2.1)
    ∙ ap (λ c. Err (Field row c)) on
    ∙ ap (λ r. Err (Field r (suc place))) (sym w.0)
record_fails_again kind waypoints row last fields (Header column) w = absurd w
record_fails_again kind waypoints row last fields Few w = absurd w
record_fails_again kind waypoints row last fields NoMemory w = absurd w

-- ---- the records

abbrev last_of : Option ℕ → List LevelsParts → Option ℕ
last_of last [] = last
last_of last (l ∷ ls) = last_of (Some l.slot) ls

abbrev Bad : TableKind → ℕ → ℕ → Option ℕ → List (List ℕ) → TideFault → Type 0
Bad kind waypoints row last fields e = IsWrong waypoints (λ s. slot_fits kind row last s ≡ true) row fields e

record Split (kind : TableKind) (waypoints row : ℕ) (last : Option ℕ) (rows : List (List (List ℕ))) (e : TideFault) : Type 0 where
  before : List (List (List ℕ))
  fields : List (List ℕ)
  after : List (List (List ℕ))
  levels : List LevelsParts
  split : rows ≡ before ++ fields ∷ after
  read : levels_from kind (1 + waypoints) row last before ≡ Ok levels
  wrong : Bad kind waypoints (row + length before) (last_of last levels) fields e

rows_fail : (kind : TableKind) (waypoints row : ℕ) (last : Option ℕ) (rows : List (List (List ℕ))) (e : TideFault) → levels_from kind (1 + waypoints) row last rows ≡ Err e → Split kind waypoints row last rows e
rows_fail kind waypoints row last [] e h = absurd cc
rows_fail kind waypoints row last (x ∷ xs) e h = elim (failed (levels_form kind (1 + waypoints) row last x) (λ one. levels_from kind (1 + waypoints) (row + 1) (Some one.slot) xs >>= λ more. Ok (one ∷ more)) e h) [
  | inl bad ↦
      let at : row ≡ row + 0 = omega arith in
      record { before = []; fields = x; after = xs; levels = []; split = refl; read = refl; wrong = subst (λ r. Bad kind waypoints r last x e) at (record_fails kind waypoints row last x e bad) }
  | inr a ↦ elim (failed (levels_from kind (1 + waypoints) (row + 1) (Some a.0.slot) xs) (λ more. Ok (a.0 ∷ more)) e a.2) [
    | inl rest ↦
        let s = rows_fail kind waypoints (row + 1) (Some a.0.slot) xs e rest in
        let at : row + 1 + length s.before ≡ row + suc (length s.before) = omega arith in
        record {
          before = x ∷ s.before;
          fields = s.fields;
          after = s.after;
          levels = a.0 ∷ s.levels;
          split = ap (λ r. x ∷ r) s.split;
          read = ap (λ (r : Result LevelsParts TideFault). r >>= λ one. levels_from kind (1 + waypoints) (row + 1) (Some one.slot) s.before >>= λ more. Ok (one ∷ more)) a.1 ∙ ap (λ (r : Result (List LevelsParts) TideFault). r >>= λ more. Ok (a.0 ∷ more)) s.read;
          wrong = subst (λ r. Bad kind waypoints r (last_of (Some a.0.slot) s.levels) s.fields e) at s.wrong;
        }
    | inr nothing ↦ let bad = nothing.2 in absurd cc
  ]
]

rows_fail_again : (kind : TableKind) (waypoints row : ℕ) (last : Option ℕ) (before : List (List (List ℕ))) (fields : List (List ℕ)) (after : List (List (List ℕ))) (levels : List LevelsParts) (e : TideFault) → levels_from kind (1 + waypoints) row last before ≡ Ok levels → Bad kind waypoints (row + length before) (last_of last levels) fields e → levels_from kind (1 + waypoints) row last (before ++ fields ∷ after) ≡ Err e
rows_fail_again kind waypoints row last [] fields after levels e read wrong =
    let none : [] ≡ levels = same_Ok [] levels read in
    let at : row + 0 ≡ row = omega arith in
    let here = subst (λ ls. Bad kind waypoints (row + 0) (last_of last ls) fields e) (sym none) wrong in
    let there = subst (λ r. Bad kind waypoints r last fields e) at here in
    ap (λ (r : Result LevelsParts TideFault). r >>= λ one. levels_from kind (1 + waypoints) (row + 1) (Some one.slot) after >>= λ more. Ok (one ∷ more)) (record_fails_again kind waypoints row last fields e there)
rows_fail_again kind waypoints row last (x ∷ xs) fields after levels e read wrong =
    let a = bound (levels_form kind (1 + waypoints) row last x) (λ one. levels_from kind (1 + waypoints) (row + 1) (Some one.slot) xs >>= λ more. Ok (one ∷ more)) levels read in
    let b = bound (levels_from kind (1 + waypoints) (row + 1) (Some a.0.slot) xs) (λ more. Ok (a.0 ∷ more)) levels a.2 in
    let is : a.0 ∷ b.0 ≡ levels = same_Ok (a.0 ∷ b.0) levels b.2 in
    let at : row + suc (length xs) ≡ row + 1 + length xs = omega arith in
    let here = subst (λ ls. Bad kind waypoints (row + suc (length xs)) (last_of last ls) fields e) (sym is) wrong in
    let there = subst (λ r. Bad kind waypoints r (last_of (Some a.0.slot) b.0) fields e) at here in
    let rest = rows_fail_again kind waypoints (row + 1) (Some a.0.slot) xs fields after b.0 e b.1 there in
    ap (λ (r : Result LevelsParts TideFault). r >>= λ one. levels_from kind (1 + waypoints) (row + 1) (Some one.slot) (xs ++ fields ∷ after) >>= λ more. Ok (one ∷ more)) a.1 ∙ ap (λ (r : Result (List LevelsParts) TideFault). r >>= λ more. Ok (a.0 ∷ more)) rest

-- ---- slots that may stand

as_many : (waypoints : ℕ) (rows : List (List (List ℕ))) (levels : List LevelsParts) → EachTells waypoints rows levels → length rows ≡ length levels
as_many waypoints [] [] told = refl
as_many waypoints [] (l ∷ ls) told = absurd told
as_many waypoints (x ∷ xs) [] told = absurd told
as_many waypoints (x ∷ xs) (l ∷ ls) told = ap (λ n. suc n) (as_many waypoints xs ls told.1)

heights_at : (kind : TableKind) (row : ℕ) (last : Option ℕ) (slot : ℕ) → 1 ≤ row → slot_fits kind row last slot ≡ true → kind ≡ Heights → slot + 1 ≡ row
heights_at Heights row last slot some fits is =
    let a : slot ≡ row - 1 = eqb-true slot (row - 1) fits in
    omega (arith, a, some)
heights_at Waters row last slot some fits is = absurd cc

follows_from : (kind : TableKind) (row : ℕ) (last : Option ℕ) (l : LevelsParts) (ls : List LevelsParts) (slot : ℕ) → 1 ≤ row → Chain kind row last (l ∷ ls) → slot_fits kind (row + suc (length ls)) (last_of (Some l.slot) ls) slot ≡ true → Follows kind (l ∷ ls) slot
follows_from kind row last l [] slot some chain fits =
    let at : row + suc 0 ≡ row + 1 = omega arith in
    next_from kind row l.slot slot last some chain.0 (subst (λ r. slot_fits kind r (Some l.slot) slot ≡ true) at fits)
follows_from kind row last l (m ∷ more) slot some chain fits =
    let at : row + suc (suc (length more)) ≡ row + 1 + suc (length more) = omega arith in
    follows_from kind (row + 1) (Some l.slot) m more slot (omega arith) chain.1 (subst (λ r. slot_fits kind r (last_of (Some m.slot) more) slot ≡ true) at fits)

follows_again : (kind : TableKind) (row : ℕ) (last : Option ℕ) (l : LevelsParts) (ls : List LevelsParts) (slot : ℕ) → 1 ≤ row → Chain kind row last (l ∷ ls) → Follows kind (l ∷ ls) slot → slot_fits kind (row + suc (length ls)) (last_of (Some l.slot) ls) slot ≡ true
follows_again kind row last l [] slot some chain follows =
    let at : row + 1 ≡ row + suc 0 = omega arith in
    subst (λ r. slot_fits kind r (Some l.slot) slot ≡ true) at (fits_after kind row l.slot slot (heights_at kind row last l.slot some chain.0) follows)
follows_again kind row last l (m ∷ more) slot some chain follows =
    let at : row + 1 + suc (length more) ≡ row + suc (suc (length more)) = omega arith in
    subst (λ r. slot_fits kind r (last_of (Some m.slot) more) slot ≡ true) at (follows_again kind (row + 1) (Some l.slot) m more slot (omega arith) chain.1 follows)

first_zero : (kind : TableKind) (slot : ℕ) → slot_fits kind 1 None slot ≡ true → slot ≡ 0
first_zero Heights slot e = eqb-true slot 0 e
first_zero Waters slot e = eqb-true slot 0 e

fits_follow : (kind : TableKind) (levels : List LevelsParts) (slot : ℕ) → Chain kind 1 None levels → slot_fits kind (1 + length levels) (last_of None levels) slot ≡ true → Follows kind levels slot
fits_follow kind [] slot chain fits = first_zero kind slot fits
fits_follow kind (l ∷ ls) slot chain fits = follows_from kind 1 None l ls slot (omega arith) chain fits

follow_fits : (kind : TableKind) (levels : List LevelsParts) (slot : ℕ) → Chain kind 1 None levels → Follows kind levels slot → slot_fits kind (1 + length levels) (last_of None levels) slot ≡ true
follow_fits kind [] slot chain follows = first_fits kind slot follows
follow_fits kind (l ∷ ls) slot chain follows = follows_again kind 1 None l ls slot (omega arith) chain follows

wrong_as : (waypoints : ℕ) (P Q : ℕ → Type 0) (row : ℕ) (fields : List (List ℕ)) (e : TideFault) → ((s : ℕ) → P s → Q s) → ((s : ℕ) → Q s → P s) → IsWrong waypoints P row fields e → IsWrong waypoints Q row fields e
wrong_as waypoints P Q row fields (Length at) on back w = w
wrong_as waypoints P Q row fields (Field at zero) on back w = (w.0, w.1, λ has. w.2 (has.0, has.1, back has.0 has.2))
wrong_as waypoints P Q row fields (Field at (suc place)) on back w = (w.0, w.1, ((w.2.0.0, w.2.0.1, on w.2.0.0 w.2.0.2), w.2.1))
wrong_as waypoints P Q row fields (Header column) on back w = absurd w
wrong_as waypoints P Q row fields Few on back w = absurd w
wrong_as waypoints P Q row fields NoMemory on back w = absurd w

-- ---- the header

others_on : (n f : List ℕ) (ns fs : List (List ℕ)) (place : ℕ) → n ≡ f → ((k : ℕ) → k < place → slice_get ns k ≡ slice_get fs k) → (k : ℕ) → k < suc place → slice_get (n ∷ ns) k ≡ slice_get (f ∷ fs) k
others_on n f ns fs place same rest zero lt = ap (λ x. Some x) same
others_on n f ns fs place same rest (suc k) lt = rest k (omega (arith, lt))

first_other : (i : ℕ) (ns fs : List (List ℕ)) (c : ℕ) → wrong_column i ns fs ≡ Some c → (p : ℕ) × (c ≡ i + p) × IsFirstOther ns fs p
first_other i [] [] c e = absurd cc
first_other i [] (f ∷ fs) c e = let at : i ≡ c = same_Some i c e in (0, omega (arith, at), record { here = λ h. absurd cc; before = λ k lt. absurd (omega (arith, lt)) })
first_other i (n ∷ ns) [] c e = let at : i ≡ c = same_Some i c e in (0, omega (arith, at), record { here = λ h. absurd cc; before = λ k lt. absurd (omega (arith, lt)) })
first_other i (n ∷ ns) (f ∷ fs) c e = by (λ h. first_other (i + 1) ns fs c h) (bytes_eq f n) refl e
  where
    by : (wrong_column (i + 1) ns fs ≡ Some c → (p : ℕ) × (c ≡ i + 1 + p) × IsFirstOther ns fs p) → (b : Bool) → bytes_eq f n ≡ b → cond b (wrong_column (i + 1) ns fs) (Some i) ≡ Some c → (p : ℕ) × (c ≡ i + p) × IsFirstOther (n ∷ ns) (f ∷ fs) p
    by rest true is e =
        let r = rest e in
        let at = r.1 in
        (suc r.0, omega (arith, at), record { here = r.2.here; before = others_on n f ns fs r.0 (sym ((bytes_eq-Decides f n).0 is)) r.2.before })
    by rest false is e =
        let at : i ≡ c = same_Some i c e in
        (0, omega (arith, at), record { here = λ h. let yes = (bytes_eq-Decides f n).1 (sym (same_Some n f h)) in absurd cc; before = λ k lt. absurd (omega (arith, lt)) })

unlike : (f n : List ℕ) → (n ≡ f → ⊥) → bytes_eq f n ≡ false
unlike f n h = by (bytes_eq f n) refl
  where
    by : (b : Bool) → bytes_eq f n ≡ b → b ≡ false
    by true is = absurd (h (sym ((bytes_eq-Decides f n).0 is)))
    by false is = refl

other_found : (i : ℕ) (ns fs : List (List ℕ)) (p : ℕ) → IsFirstOther ns fs p → wrong_column i ns fs ≡ Some (i + p)
other_found i [] [] p o = absurd (o.here refl)
other_found i [] (f ∷ fs) zero o = let at : i ≡ i + 0 = omega arith in ap (λ x. Some x) at
other_found i [] (f ∷ fs) (suc p) o = let b = o.before 0 (omega arith) in absurd cc
other_found i (n ∷ ns) [] zero o = let at : i ≡ i + 0 = omega arith in ap (λ x. Some x) at
other_found i (n ∷ ns) [] (suc p) o = let b = o.before 0 (omega arith) in absurd cc
other_found i (n ∷ ns) (f ∷ fs) zero o =
    let at : i ≡ i + 0 = omega arith in
    ap (λ b. cond b (wrong_column (i + 1) ns fs) (Some i)) (unlike f n (λ h. o.here (ap (λ x. Some x) h))) ∙ ap (λ x. Some x) at
other_found i (n ∷ ns) (f ∷ fs) (suc p) o =
    let same : n ≡ f = same_Some n f (o.before 0 (omega arith)) in
    let at : i + 1 + p ≡ i + suc p = omega arith in
    let rest : IsFirstOther ns fs p = record { here = o.here; before = λ k lt. o.before (suc k) (omega (arith, lt)) } in
    ap (λ b. cond b (wrong_column (i + 1) ns fs) (Some i)) ((bytes_eq-Decides f n).1 (sym same)) ∙ other_found (i + 1) ns fs p rest ∙ ap (λ x. Some x) at

header_bad : (o : Option ℕ) (e : TideFault) → header_of o ≡ Err e → (c : ℕ) × (o ≡ Some c) × (Header c ≡ e)
header_bad None e h = absurd cc
header_bad (Some c) e h = (c, refl, cc)

-- ---- the table

was_empty : {A : Type 0} (xs : List A) (e : TideFault) → not_empty xs ≡ Err e → (xs ≡ []) × (Few ≡ e)
was_empty [] e h = (refl, cc)
was_empty (x ∷ xs) e h = absurd cc

no_rows : (waypoints : ℕ) (rows : List (List (List ℕ))) → EachTells waypoints rows [] → rows ≡ []
no_rows waypoints [] told = refl
no_rows waypoints (x ∷ xs) told = absurd told

bad_first : (kind : TableKind) (names : List (List ℕ)) (records : List (List (List ℕ))) (e : TideFault) → IsFirstBad kind names records e → IsFirstFault kind names records e
bad_first kind names records (Length row) bad = bad
bad_first kind names records (Field row column) bad = bad
bad_first kind names records (Header column) bad = absurd bad.wrong
bad_first kind names records Few bad = absurd bad.wrong
bad_first kind names records NoMemory bad = absurd bad.wrong

bad_rows : (kind : TableKind) (names : List (List ℕ)) (first : List (List ℕ)) (rows : List (List (List ℕ))) (e : TideFault) → first ≡ kind_word kind ∷ names → levels_from kind (1 + length names) 1 None rows ≡ Err e → IsFirstBad kind names (first ∷ rows) e
bad_rows kind names first rows e words h =
    let s = rows_fail kind (length names) 1 None rows e h in
    let told = rows_told kind (length names) 1 None s.before s.levels s.read in
    let many = as_many (length names) s.before s.levels told.0 in
    let wrong = subst (λ n. IsWrong (length names) (λ q. slot_fits kind (1 + n) (last_of None s.levels) q ≡ true) (1 + length s.before) s.fields e) many s.wrong in
    record {
      before = s.before;
      fields = s.fields;
      after = s.after;
      levels = s.levels;
      split = ap₂ (λ a b. a ∷ b) words s.split;
      faultless = record { told = told.0; begins = begins_from kind s.levels told.1; rise = rise_from kind 1 None s.levels (omega arith) told.1 };
      wrong = wrong_as (length names) (λ q. slot_fits kind (1 + length s.levels) (last_of None s.levels) q ≡ true) (Follows kind s.levels) (1 + length s.before) s.fields e (λ q. fits_follow kind s.levels q told.1) (λ q. follow_fits kind s.levels q told.1) wrong;
    }

to_fault : (kind : TableKind) (names : List (List ℕ)) (records : List (List (List ℕ))) (e : TideFault) → table_of kind names records ≡ Err e → IsFirstFault kind names records e
unfolding table_of
to_fault kind names [] e h =
    let is : Header 0 ≡ e = cc in
    subst (IsFirstFault kind names []) is (record { here = λ h. absurd cc; before = λ k lt. absurd (omega (arith, lt)) })
to_fault kind names (first ∷ rows) e h = elim (failed (header_of (wrong_column 0 (kind_word kind ∷ names) first)) (λ header. levels_from kind (1 + length names) 1 None rows >>= λ levels. not_empty levels) e h) [
  | inl bad ↦
      let w = header_bad (wrong_column 0 (kind_word kind ∷ names) first) e bad in
      let o = first_other 0 (kind_word kind ∷ names) first w.0 w.1 in
      let at : o.0 ≡ w.0 = omega (arith, o.1) in
      subst (IsFirstFault kind names (first ∷ rows)) (ap (λ c. Header c) at ∙ w.2) o.2
  | inr a ↦
      let words : first ≡ kind_word kind ∷ names = same_words 0 (kind_word kind ∷ names) first (was_right (wrong_column 0 (kind_word kind ∷ names) first) a.0 a.1) in
      elim (failed (levels_from kind (1 + length names) 1 None rows) (λ levels. not_empty levels) e a.2) [
        | inl bad ↦ bad_first kind names (first ∷ rows) e (bad_rows kind names first rows e words bad)
        | inr b ↦
            let w = was_empty b.0 e b.2 in
            let told = rows_told kind (length names) 1 None rows b.0 b.1 in
            let none = no_rows (length names) rows (subst (λ ls. EachTells (length names) rows ls) w.0 told.0) in
            subst (IsFirstFault kind names (first ∷ rows)) w.1 (ap₂ (λ a b. a ∷ b) words none)
      ]
]

bad_again : (kind : TableKind) (names : List (List ℕ)) (records : List (List (List ℕ))) (e : TideFault) → IsFirstBad kind names records e → table_of kind names records ≡ Err e
unfolding table_of
bad_again kind names records e bad =
    let chain = first_chain kind bad.levels bad.faultless.begins bad.faultless.rise in
    let read = rows_again kind (length names) 1 None bad.before bad.levels bad.faultless.told chain in
    let many = as_many (length names) bad.before bad.levels bad.faultless.told in
    let fits = wrong_as (length names) (Follows kind bad.levels) (λ q. slot_fits kind (1 + length bad.levels) (last_of None bad.levels) q ≡ true) (1 + length bad.before) bad.fields e (λ q. follow_fits kind bad.levels q chain) (λ q. fits_follow kind bad.levels q chain) bad.wrong in
    let wrong = subst (λ n. IsWrong (length names) (λ q. slot_fits kind (1 + n) (last_of None bad.levels) q ≡ true) (1 + length bad.before) bad.fields e) (sym many) fits in
    subst (λ all. table_of kind names all ≡ Err e) (sym bad.split) (
    ap (λ (o : Option ℕ). header_of o >>= λ header. levels_from kind (1 + length names) 1 None (bad.before ++ bad.fields ∷ bad.after) >>= λ levels. not_empty levels) (right_words 0 (kind_word kind ∷ names))
    ∙ ap (λ (r : Result (List LevelsParts) TideFault). r >>= λ levels. not_empty levels) (rows_fail_again kind (length names) 1 None bad.before bad.fields bad.after bad.levels e read wrong))

header_again : (kind : TableKind) (names : List (List ℕ)) (records : List (List (List ℕ))) (column : ℕ) → IsFirstFault kind names records (Header column) → table_of kind names records ≡ Err (Header column)
unfolding table_of
header_again kind names [] zero o = refl
header_again kind names [] (suc column) o = let b = o.before 0 (omega arith) in absurd cc
header_again kind names (first ∷ rows) column o =
    let at : 0 + column ≡ column = omega arith in
    ap (λ (o : Option ℕ). header_of o >>= λ header. levels_from kind (1 + length names) 1 None rows >>= λ levels. not_empty levels) (other_found 0 (kind_word kind ∷ names) first column o) ∙ ap (λ c. Err (Header c)) at

few_again : (kind : TableKind) (names : List (List ℕ)) (records : List (List (List ℕ))) → records ≡ (kind_word kind ∷ names) ∷ [] → table_of kind names records ≡ Err Few
unfolding table_of
few_again kind names records is = subst (λ all. table_of kind names all ≡ Err Few) (sym is) (ap (λ (o : Option ℕ). header_of o >>= λ header. levels_from kind (1 + length names) 1 None [] >>= λ levels. not_empty levels) (right_words 0 (kind_word kind ∷ names)))

from_fault : (kind : TableKind) (names : List (List ℕ)) (records : List (List (List ℕ))) (e : TideFault) → IsFirstFault kind names records e → table_of kind names records ≡ Err e
from_fault kind names records (Header column) f = header_again kind names records column f
from_fault kind names records (Length row) f = bad_again kind names records (Length row) f
from_fault kind names records (Field row column) f = bad_again kind names records (Field row column) f
from_fault kind names records Few f = few_again kind names records f
from_fault kind names records NoMemory f = absurd f

to_tide : (kind : TableKind) (names : List (List ℕ)) (records : List (List (List ℕ))) (e : TideFault) → tide_of kind names records ≡ Err e → table_of kind names records ≡ Err e
unfolding tide_of
to_tide kind names records e h = elim (failed (table_of kind names records) (λ levels. Ok (tide_from kind (length names) levels)) e h) [
  | inl bad ↦ bad
  | inr nothing ↦ let bad = nothing.2 in absurd cc
]

from_tide : (kind : TableKind) (names : List (List ℕ)) (records : List (List (List ℕ))) (e : TideFault) → table_of kind names records ≡ Err e → tide_of kind names records ≡ Err e
unfolding tide_of
from_tide kind names records e h = ap (λ (r : Result (List LevelsParts) TideFault). r >>= λ levels. Ok (tide_from kind (length names) levels)) h

pub fault_told_law : FaultTold
fault_told_law = λ kind names records fault. (λ h. to_fault kind names records fault (to_tide kind names records fault h), λ f. from_tide kind names records fault (from_fault kind names records fault f))
