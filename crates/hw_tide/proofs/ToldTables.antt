-- A table is read as just what its records tell.
use Rattle.std.proofs.Common.{◌≡◌, ℕ, ◌+◌, ◌-◌, ◌≤◌, ◌==◌, Bool, true, false, cond, ℤ, List, [], ◌∷◌, length, map, drop, Option, Some, None, option_and_then, Result, Ok, bytes_eq, refl, sym, ap, ap₂, ◌∙◌, subst, arith, eqb-true}
use Rattle.std.proofs.lemmas.Bool.{ltb-true, lt-ltb}
use Rattle.std.proofs.lemmas.Bool.Decides.{nat_tests}
use Rattle.std.proofs.lemmas.Slice.Eq.{bytes_eq-Decides}
use Rattle.hw_lemmas.specs.Operators.{◌>>=◌}
use Rattle.hw_text.specs.Numbers.{number_up_to, signed_up_to}
use Rattle.hw_tide.specs.declared.kind.TableKind.{TableKind}
use Rattle.hw_tide.specs.declared.kind.TableKind.TheVariants.{Heights, Waters}
use Rattle.hw_tide.specs.declared.fault.TideFault.{TideFault}
use Rattle.hw_tide.specs.declared.fault.TideFault.TheVariants.{Length, Field}
use Rattle.hw_tide.specs.Levels.{LevelsParts}
use Rattle.hw_tide.specs.Table.{formed_field, needed, kind_word, wrong_column, header_of, slot_fits, fitting, first_field, heights_from, levels_form, levels_from, not_empty, table_of}
use Rattle.hw_tide.specs.Tides.{slot_at}
use Rattle.hw_tide.specs.Told.{RecordTells, EachTells, Next, Rise, IsTableOf, TableTold}
use Rattle.hw_tide.proofs.Kept.{bound, was_formed, was_needed, same_Ok, fitted, was_some}

-- ---- the header

pub was_right : (o : Option ℕ) (x : Bool) → header_of o ≡ Ok x → o ≡ None
was_right None x e = refl
was_right (Some c) x e = absurd cc

pub same_words : (i : ℕ) (ns fs : List (List ℕ)) → wrong_column i ns fs ≡ None → fs ≡ ns
same_words i [] [] e = refl
same_words i [] (f ∷ fs) e = absurd cc
same_words i (n ∷ ns) [] e = absurd cc
same_words i (n ∷ ns) (f ∷ fs) e = by (λ h. same_words (i + 1) ns fs h) (bytes_eq f n) refl e
  where
    by : (wrong_column (i + 1) ns fs ≡ None → fs ≡ ns) → (b : Bool) → bytes_eq f n ≡ b → cond b (wrong_column (i + 1) ns fs) (Some i) ≡ None → f ∷ fs ≡ n ∷ ns
    by rest true is e = ap₂ (λ a b. a ∷ b) ((bytes_eq-Decides f n).0 is) (rest e)
    by rest false is e = absurd cc

pub right_words : (i : ℕ) (ns : List (List ℕ)) → wrong_column i ns ns ≡ None
right_words i [] = refl
right_words i (n ∷ ns) = ap (λ b. cond b (wrong_column (i + 1) ns ns) (Some i)) ((bytes_eq-Decides n n).1 refl) ∙ right_words (i + 1) ns

-- ---- a record

heights_told : (row column : ℕ) (fields : List (List ℕ)) (heights : List ℤ) → heights_from row column fields ≡ Ok heights → map (signed_up_to 2_000) fields ≡ map (λ h. Some h) heights
unfolding heights_from
heights_told row column [] heights e = ap (map (λ h. Some h)) (same_Ok [] heights e)
heights_told row column (f ∷ fs) heights e =
    let one = bound (formed_field (Field row column) (signed_up_to 2_000 f)) (λ h. heights_from row (column + 1) fs >>= λ hs. Ok (h ∷ hs)) heights e in
    let rest = bound (heights_from row (column + 1) fs) (λ hs. Ok (one.0 ∷ hs)) heights one.2 in
    ap₂ (λ a b. a ∷ b) (was_formed (Field row column) (signed_up_to 2_000 f) one.0 one.1) (heights_told row (column + 1) fs rest.0 rest.1) ∙ ap (map (λ h. Some h)) (same_Ok (one.0 ∷ rest.0) heights rest.2)

heights_again : (row column : ℕ) (fields : List (List ℕ)) (heights : List ℤ) → map (signed_up_to 2_000) fields ≡ map (λ h. Some h) heights → heights_from row column fields ≡ Ok heights
unfolding heights_from
heights_again row column [] [] e = refl
heights_again row column [] (h ∷ hs) e = absurd cc
heights_again row column (f ∷ fs) [] e = absurd cc
heights_again row column (f ∷ fs) (h ∷ hs) e =
    let first : signed_up_to 2_000 f ≡ Some h = cc in
    let rest : map (signed_up_to 2_000) fs ≡ map (λ h. Some h) hs = cc in
    ap (λ (o : Option ℤ). formed_field (Field row column) o >>= λ h. heights_from row (column + 1) fs >>= λ hs. Ok (h ∷ hs)) first ∙ ap (λ (r : Result (List ℤ) TideFault). r >>= λ hs. Ok (h ∷ hs)) (heights_again row (column + 1) fs hs rest)

record_told : (kind : TableKind) (waypoints row : ℕ) (last : Option ℕ) (fields : List (List ℕ)) (l : LevelsParts) → levels_form kind (1 + waypoints) row last fields ≡ Ok l → RecordTells waypoints fields l × (slot_fits kind row last l.slot ≡ true)
unfolding levels_form
record_told kind waypoints row last fields l e =
    let a = bound (needed (Length row) (length fields == 1 + waypoints)) _ l e in
    let size : length fields ≡ 1 + waypoints = eqb-true (length fields) (1 + waypoints) (was_needed (Length row) (length fields == 1 + waypoints) a.0 a.1) in
    let b = bound (formed_field (Field row 0) (option_and_then (fitting kind row last) (number_up_to 2_047 (first_field (drop 0 fields))))) _ l a.2 in
    let f = fitted kind row last (number_up_to 2_047 (first_field (drop 0 fields))) b.0 (was_formed (Field row 0) _ b.0 b.1) in
    let c = bound (heights_from row 1 (drop 1 fields)) _ l b.2 in
    let one : LevelsParts = record { slot = b.0; heights = c.0 } in
    subst (λ (x : LevelsParts). RecordTells waypoints fields x × (slot_fits kind row last x.slot ≡ true)) (same_Ok one l c.2) (record { width = size; slot = f.0; heights = heights_told row 1 (drop 1 fields) c.0 c.1 }, f.1)

record_again : (kind : TableKind) (waypoints row : ℕ) (last : Option ℕ) (fields : List (List ℕ)) (l : LevelsParts) → RecordTells waypoints fields l → slot_fits kind row last l.slot ≡ true → levels_form kind (1 + waypoints) row last fields ≡ Ok l
unfolding levels_form
record_again kind waypoints row last fields l told fits =
    let wide : (length fields == 1 + waypoints) ≡ true = equal (length fields) (1 + waypoints) told.width in
    let slot : option_and_then (fitting kind row last) (number_up_to 2_047 (first_field fields)) ≡ Some l.slot = ap (option_and_then (fitting kind row last)) told.slot ∙ ap (λ b. cond b (Some l.slot) None) fits in
    let first = ap (λ (b : Bool). needed (Length row) b >>= λ size. formed_field (Field row 0) (option_and_then (fitting kind row last) (number_up_to 2_047 (first_field fields))) >>= λ slot. heights_from row 1 (drop 1 fields) >>= λ heights. Ok (record { slot = slot; heights = heights })) wide in
    let second = ap (λ (o : Option ℕ). formed_field (Field row 0) o >>= λ slot. heights_from row 1 (drop 1 fields) >>= λ heights. Ok (record { slot = slot; heights = heights })) slot in
    let third = ap (λ (r : Result (List ℤ) TideFault). r >>= λ heights. Ok (record { slot = l.slot; heights = heights })) (heights_again row 1 (drop 1 fields) l.heights told.heights) in
    first ∙ second ∙ third
  where
    equal : (a b : ℕ) → a ≡ b → (a == b) ≡ true
    equal a b e = grind (arith, nat_tests)

-- ---- all records

abbrev pub Chain : TableKind → ℕ → Option ℕ → List LevelsParts → Type 0
Chain kind row last [] = Unit {0}
Chain kind row last (l ∷ ls) = (slot_fits kind row last l.slot ≡ true) × Chain kind (row + 1) (Some l.slot) ls

pub rows_told : (kind : TableKind) (waypoints row : ℕ) (last : Option ℕ) (rows : List (List (List ℕ))) (levels : List LevelsParts) → levels_from kind (1 + waypoints) row last rows ≡ Ok levels → EachTells waypoints rows levels × Chain kind row last levels
rows_told kind waypoints row last [] levels e = subst (λ ls. EachTells waypoints [] ls × Chain kind row last ls) (same_Ok [] levels e) (tt, tt)
rows_told kind waypoints row last (x ∷ xs) levels e =
    let a = bound (levels_form kind (1 + waypoints) row last x) _ levels e in
    let b = bound (levels_from kind (1 + waypoints) (row + 1) (Some a.0.slot) xs) _ levels a.2 in
    let one = record_told kind waypoints row last x a.0 a.1 in
    let rest = rows_told kind waypoints (row + 1) (Some a.0.slot) xs b.0 b.1 in
    subst (λ ls. EachTells waypoints (x ∷ xs) ls × Chain kind row last ls) (same_Ok (a.0 ∷ b.0) levels b.2) ((one.0, rest.0), (one.1, rest.1))

pub rows_again : (kind : TableKind) (waypoints row : ℕ) (last : Option ℕ) (rows : List (List (List ℕ))) (levels : List LevelsParts) → EachTells waypoints rows levels → Chain kind row last levels → levels_from kind (1 + waypoints) row last rows ≡ Ok levels
rows_again kind waypoints row last [] [] told chain = refl
rows_again kind waypoints row last [] (l ∷ ls) told chain = absurd told
rows_again kind waypoints row last (x ∷ xs) [] told chain = absurd told
rows_again kind waypoints row last (x ∷ xs) (l ∷ ls) told chain =
    let one = record_again kind waypoints row last x l told.0 chain.0 in
    let rest = rows_again kind waypoints (row + 1) (Some l.slot) xs ls told.1 chain.1 in
    ap (λ (r : Result LevelsParts TideFault). r >>= λ one. levels_from kind (1 + waypoints) (row + 1) (Some one.slot) xs >>= λ more. Ok (one ∷ more)) one ∙ ap (λ (r : Result (List LevelsParts) TideFault). r >>= λ more. Ok (l ∷ more)) rest

-- ---- slots

pub next_from : (kind : TableKind) (row slot next : ℕ) (last : Option ℕ) → 1 ≤ row → slot_fits kind row last slot ≡ true → slot_fits kind (row + 1) (Some slot) next ≡ true → Next kind slot next
next_from Heights row slot next last some here there =
    let a : slot ≡ row - 1 = eqb-true slot (row - 1) here in
    let b : next ≡ row + 1 - 1 = eqb-true next (row + 1 - 1) there in
    omega (arith, some, a, b)
next_from Waters row slot next last some here there = ltb-true slot next there

pub rise_from : (kind : TableKind) (row : ℕ) (last : Option ℕ) (ls : List LevelsParts) → 1 ≤ row → Chain kind row last ls → Rise kind ls
rise_from kind row last [] some chain = tt
rise_from kind row last (l ∷ []) some chain = tt
rise_from kind row last (l ∷ m ∷ more) some chain = (next_from kind row l.slot m.slot last some chain.0 chain.1.0, rise_from kind (row + 1) (Some l.slot) (m ∷ more) (omega arith) chain.1)

pub fits_after : (kind : TableKind) (row slot next : ℕ) → (kind ≡ Heights → slot + 1 ≡ row) → Next kind slot next → slot_fits kind (row + 1) (Some slot) next ≡ true
fits_after Heights row slot next at up =
    let here = at refl in
    equal next (row + 1 - 1) (omega (arith, here, up))
  where
    equal : (a b : ℕ) → a ≡ b → (a == b) ≡ true
    equal a b e = grind (arith, nat_tests)
fits_after Waters row slot next at up = lt-ltb slot next up

at_next : (kind : TableKind) (row slot next : ℕ) → (kind ≡ Heights → slot + 1 ≡ row) → Next kind slot next → kind ≡ Heights → next + 1 ≡ row + 1
at_next Heights row slot next at up is =
    let here = at refl in
    omega (arith, here, up)
at_next Waters row slot next at up is = absurd cc

chain_from : (kind : TableKind) (row : ℕ) (l : LevelsParts) (ls : List LevelsParts) → (kind ≡ Heights → l.slot + 1 ≡ row) → Rise kind (l ∷ ls) → Chain kind (row + 1) (Some l.slot) ls
chain_from kind row l [] at rise = tt
chain_from kind row l (m ∷ more) at rise = (fits_after kind row l.slot m.slot at rise.0, chain_from kind (row + 1) m more (at_next kind row l.slot m.slot at rise.0) rise.1)

pub first_fits : (kind : TableKind) (slot : ℕ) → slot ≡ 0 → slot_fits kind 1 None slot ≡ true
first_fits Heights slot e = grind (arith, nat_tests)
first_fits Waters slot e = grind (arith, nat_tests)

pub first_chain : (kind : TableKind) (levels : List LevelsParts) → slot_at levels 0 ≡ 0 → Rise kind levels → Chain kind 1 None levels
first_chain kind [] begins rise = tt
first_chain kind (l ∷ ls) begins rise = (first_fits kind l.slot begins, chain_from kind 1 l ls (λ is. omega (arith, begins)) rise)

pub begins_from : (kind : TableKind) (levels : List LevelsParts) → Chain kind 1 None levels → slot_at levels 0 ≡ 0
begins_from kind [] chain = refl
begins_from Heights (l ∷ ls) chain = eqb-true l.slot 0 chain.0
begins_from Waters (l ∷ ls) chain = eqb-true l.slot 0 chain.0

-- ---- the table

to_told : (kind : TableKind) (names : List (List ℕ)) (records : List (List (List ℕ))) (levels : List LevelsParts) → table_of kind names records ≡ Ok levels → IsTableOf kind names records levels
unfolding table_of
to_told kind names [] levels e = absurd cc
to_told kind names (first ∷ rows) levels e =
    let a = bound (header_of (wrong_column 0 (kind_word kind ∷ names) (drop 0 first))) _ levels e in
    let b = bound (levels_from kind (1 + length names) 1 None rows) _ levels a.2 in
    let s = was_some b.0 levels b.2 in
    let words : first ≡ kind_word kind ∷ names = same_words 0 (kind_word kind ∷ names) first (was_right _ a.0 a.1) in
    let from : levels_from kind (1 + length names) 1 None rows ≡ Ok levels = b.1 ∙ ap (λ ls. Ok ls) s.0 in
    let told = rows_told kind (length names) 1 None rows levels from in
    record {
      rows = rows;
      header = ap (λ f. f ∷ rows) words;
      told = told.0;
      some = s.1;
      begins = begins_from kind levels told.1;
      rise = rise_from kind 1 None levels (omega arith) told.1;
    }

full : {A : Type 0} (xs : List A) → 1 ≤ length xs → not_empty xs ≡ Ok xs
full [] some = absurd (omega (arith, some))
full (x ∷ xs) some = refl

from_told : (kind : TableKind) (names : List (List ℕ)) (records : List (List (List ℕ))) (levels : List LevelsParts) → IsTableOf kind names records levels → table_of kind names records ≡ Ok levels
unfolding table_of
from_told kind names records levels told = subst (λ all. table_of kind names all ≡ Ok levels) (sym told.header) (
    ap (λ (o : Option ℕ). header_of o >>= λ header. levels_from kind (1 + length names) 1 None told.rows >>= λ levels. not_empty levels) (right_words 0 (kind_word kind ∷ names))
    ∙ ap (λ (r : Result (List LevelsParts) TideFault). r >>= λ levels. not_empty levels) (rows_again kind (length names) 1 None told.rows levels told.told (first_chain kind levels told.begins told.rise))
    ∙ full levels told.some)

pub table_told_law : TableTold
table_told_law = λ kind names records levels. (to_told kind names records levels, from_told kind names records levels)
