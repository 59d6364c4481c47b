-- The tide of a table is that of its records, cell by cell.
use Rattle.std.proofs.Common.{◌≡◌, ℕ, zero, suc, ◌+◌, ◌-◌, ◌*◌, ◌/◌, ◌%◌, ◌<◌, ◌≤◌, ◌++◌, ◌⊎◌, inl, inr, nat_lt, ℤ, pos, List, [], ◌∷◌, length, get_or, slice_get, Some, Result, Ok, All, refl, sym, ap, ◌∙◌, subst, arith, add-one, ext_get_or}
use Rattle.std.specs.List.{flat_map, range_with_len}
use Rattle.std.proofs.lemmas.Bool.{cases_lt, lt-ltb, le-ltb, cond-true, cond-false}
use Rattle.std.proofs.lemmas.Option.{same_Some}
use Rattle.std.proofs.lemmas.List.{get_or_append_left, get_or-append-add}
use Rattle.std.proofs.lemmas.List.Elements.{All-head, All-tail}
use Rattle.std.proofs.lemmas.Nat.{div-add-mod'}
use Rattle.std.proofs.Math.Nat.{mod-lt, div-lt_iff_lt-mul}
use Rattle.hw_lemmas.specs.Operators.{◌>>=◌}
use Rattle.hw_tide.specs.Twelfths.{height_between}
use Rattle.hw_tide.specs.declared.kind.TableKind.{TableKind}
use Rattle.hw_tide.specs.declared.kind.TableKind.TheVariants.{Heights, Waters}
use Rattle.hw_tide.specs.declared.fault.TideFault.{TideFault}
use Rattle.hw_tide.specs.Levels.{LevelsParts, TideParts, IsLevels, height_at}
use Rattle.hw_tide.specs.Table.{table_of}
use Rattle.hw_tide.specs.Tides.{heights_between, heights_in_slot, slot_at, row_count, tide_from, tide_of}
use Rattle.hw_tide.specs.Told.{Rise, HasHeights, HasWaters, HasRows, IsTideOf, TideTold}
use Rattle.hw_tide.proofs.Kept.{bound, same_Ok, table_kept}
use Rattle.hw_tide.proofs.Sizes.{joined_size, row_size, range_size}
use Rattle.hw_tide.proofs.ToldTables.{table_told_law}

-- ---- cells

row_in : (f : ℕ → List ℤ) (columns k n row column : ℕ) → ((i : ℕ) → length (f i) ≡ columns) → row < n → column < columns → get_or (flat_map f (range_with_len k n)) (row * columns + column) (pos 0) ≡ get_or (f (k + row)) column (pos 0)
row_in f columns k zero row column each lt inside = absurd (omega (arith, lt))
row_in f columns k (suc n) zero column each lt inside =
    let at : 0 * columns + column ≡ column = omega arith in
    let there : k + 0 ≡ k = omega arith in
    let wide : column < length (f k) = omega (arith, each k, inside) in
    ap (λ i. get_or (f k ++ flat_map f (range_with_len (k + 1) n)) i (pos 0)) at ∙ get_or_append_left (f k) (flat_map f (range_with_len (k + 1) n)) (pos 0) column wide ∙ ap (λ i. get_or (f i) column (pos 0)) (sym there)
row_in f columns k (suc n) (suc row) column each lt inside =
    let at : suc row * columns + column ≡ length (f k) + (row * columns + column) = omega (arith, each k) in
    let there : k + 1 + row ≡ k + suc row = omega arith in
    ap (λ i. get_or (f k ++ flat_map f (range_with_len (k + 1) n)) i (pos 0)) at ∙ get_or-append-add (f k) (flat_map f (range_with_len (k + 1) n)) (row * columns + column) (pos 0) ∙ row_in f columns (k + 1) n row column each (omega (arith, lt)) inside ∙ ap (λ i. get_or (f i) column (pos 0)) there

joined_in : (columns : ℕ) (levels : List LevelsParts) (place column : ℕ) (l : LevelsParts) → All (IsLevels columns) levels → slice_get levels place ≡ Some l → column < columns → get_or (flat_map (λ l. l.heights) levels) (place * columns + column) (pos 0) ≡ get_or l.heights column (pos 0)
joined_in columns [] place column l each is inside = absurd cc
joined_in columns (m ∷ ms) zero column l each is inside =
    let size = (All-head (IsLevels columns) m ms each).each_height in
    let at : 0 * columns + column ≡ column = omega arith in
    let wide : column < length m.heights = omega (arith, size, inside) in
    ap (λ i. get_or (m.heights ++ flat_map (λ l. l.heights) ms) i (pos 0)) at ∙ get_or_append_left m.heights (flat_map (λ l. l.heights) ms) (pos 0) column wide ∙ ap (λ (x : LevelsParts). get_or x.heights column (pos 0)) (same_Some m l is)
joined_in columns (m ∷ ms) (suc place) column l each is inside =
    let size = (All-head (IsLevels columns) m ms each).each_height in
    let at : suc place * columns + column ≡ length m.heights + (place * columns + column) = omega (arith, size) in
    ap (λ i. get_or (m.heights ++ flat_map (λ l. l.heights) ms) i (pos 0)) at ∙ get_or-append-add m.heights (flat_map (λ l. l.heights) ms) (place * columns + column) (pos 0) ∙ joined_in columns ms place column l (All-tail (IsLevels columns) m ms each) is inside

column_in : (past size column : ℕ) (lows highs : List ℤ) → column < length lows → column < length highs → get_or (heights_between past size lows highs) column (pos 0) ≡ height_between (get_or lows column (pos 0)) (get_or highs column (pos 0)) past size
column_in past size column [] highs low high = absurd (omega (arith, low))
column_in past size column (l ∷ ls) [] low high = absurd (omega (arith, high))
column_in past size zero (l ∷ ls) (h ∷ hs) low high = refl
column_in past size (suc column) (l ∷ ls) (h ∷ hs) low high = column_in past size column ls hs (omega (arith, low)) (omega (arith, high))

-- ---- places

wide_at : (columns : ℕ) (levels : List LevelsParts) (place : ℕ) (l : LevelsParts) → All (IsLevels columns) levels → slice_get levels place ≡ Some l → length l.heights ≡ columns
wide_at columns [] place l each is = absurd cc
wide_at columns (m ∷ ms) zero l each is = subst (λ (x : LevelsParts). length x.heights ≡ columns) (same_Some m l is) (All-head (IsLevels columns) m ms each).each_height
wide_at columns (m ∷ ms) (suc place) l each is = wide_at columns ms place l (All-tail (IsLevels columns) m ms each) is

slot_there : (levels : List LevelsParts) (place : ℕ) (l : LevelsParts) → slice_get levels place ≡ Some l → slot_at levels place ≡ l.slot
slot_there [] place l is = absurd cc
slot_there (m ∷ ms) zero l is = ap (λ (x : LevelsParts). x.slot) (same_Some m l is)
slot_there (m ∷ ms) (suc place) l is = slot_there ms place l is

some_at : (levels : List LevelsParts) (place : ℕ) → place < length levels → (l : LevelsParts) × (slice_get levels place ≡ Some l)
some_at [] place lt = absurd (omega (arith, lt))
some_at (m ∷ ms) zero lt = (m, refl)
some_at (m ∷ ms) (suc place) lt = some_at ms place (omega (arith, lt))

by_place : (w : LevelsParts) (ws : List LevelsParts) (place : ℕ) (l : LevelsParts) → Rise Heights (w ∷ ws) → slice_get (w ∷ ws) place ≡ Some l → l.slot ≡ w.slot + place
by_place w ws zero l rise is = let same : w.slot ≡ l.slot = ap (λ (x : LevelsParts). x.slot) (same_Some w l is) in omega (arith, same)
by_place w [] (suc place) l rise is = absurd cc
by_place w (v ∷ more) (suc place) l rise is =
    let rest = by_place v more place l rise.1 is in
    omega (arith, rest, rise.0)

slot_is_place : (levels : List LevelsParts) (place : ℕ) (l : LevelsParts) → slot_at levels 0 ≡ 0 → Rise Heights levels → slice_get levels place ≡ Some l → l.slot ≡ place
slot_is_place [] place l begins rise is = absurd cc
slot_is_place (w ∷ ws) place l begins rise is = let e = by_place w ws place l rise is in omega (arith, e, begins)

not_before : (w : LevelsParts) (ws : List LevelsParts) (place : ℕ) (l : LevelsParts) → Rise Waters (w ∷ ws) → slice_get (w ∷ ws) place ≡ Some l → w.slot ≤ l.slot
not_before w ws zero l rise is = let same : w.slot ≡ l.slot = ap (λ (x : LevelsParts). x.slot) (same_Some w l is) in omega (arith, same)
not_before w [] (suc place) l rise is = absurd cc
not_before w (v ∷ more) (suc place) l rise is =
    let rest = not_before v more place l rise.1 is in
    omega (arith, rest, rise.0)

-- ---- rows of waters

row_between : (levels : List LevelsParts) (place slot : ℕ) (here next : LevelsParts) → Rise Waters levels → slice_get levels place ≡ Some here → slice_get levels (suc place) ≡ Some next → here.slot ≤ slot → slot < next.slot → heights_in_slot levels slot ≡ heights_between (slot - here.slot) (next.slot - here.slot) here.heights next.heights
row_between [] place slot here next rise is follows from before = absurd cc
row_between (w ∷ []) zero slot here next rise is follows from before = absurd cc
row_between (w ∷ []) (suc place) slot here next rise is follows from before = absurd cc
row_between (w ∷ v ∷ more) zero slot here next rise is follows from before =
    let a : w ≡ here = same_Some w here is in
    let b : v ≡ next = same_Some v next follows in
    let lt : slot < v.slot = subst (λ (x : LevelsParts). slot < x.slot) (sym b) before in
    cond-true (nat_lt slot v.slot) _ _ (lt-ltb slot v.slot lt) ∙ ap (λ (x : LevelsParts). heights_between (slot - x.slot) (v.slot - x.slot) x.heights v.heights) a ∙ ap (λ (x : LevelsParts). heights_between (slot - here.slot) (x.slot - here.slot) here.heights x.heights) b
row_between (w ∷ v ∷ more) (suc place) slot here next rise is follows from before =
    let le : v.slot ≤ slot = omega (arith, not_before v more place here rise.1 is, from) in
    cond-false (nat_lt slot v.slot) _ _ (le-ltb slot v.slot le) ∙ row_between (v ∷ more) place slot here next rise.1 is follows from before

row_last : (levels : List LevelsParts) (place : ℕ) (here : LevelsParts) → Rise Waters levels → suc place ≡ length levels → slice_get levels place ≡ Some here → heights_in_slot levels here.slot ≡ here.heights
row_last [] place here rise size is = absurd cc
row_last (w ∷ []) zero here rise size is = ap (λ (x : LevelsParts). x.heights) (same_Some w here is)
row_last (w ∷ []) (suc place) here rise size is = absurd cc
row_last (w ∷ v ∷ more) zero here rise size is = absurd (omega (arith, size))
row_last (w ∷ v ∷ more) (suc place) here rise size is =
    cond-false (nat_lt here.slot v.slot) _ _ (le-ltb here.slot v.slot (not_before v more place here rise.1 is)) ∙ row_last (v ∷ more) place here rise.1 (omega (arith, size)) is

-- ---- the tide of a table has the rows

heights_have : (columns : ℕ) (levels : List LevelsParts) → All (IsLevels columns) levels → slot_at levels 0 ≡ 0 → Rise Heights levels → HasHeights levels (tide_from Heights columns levels)
heights_have columns levels each begins rise = record {
  rows = refl;
  heights = λ place column here is inside. ap (λ r. get_or (flat_map (λ l. l.heights) levels) (r * columns + column) (pos 0)) (slot_is_place levels place here begins rise is) ∙ joined_in columns levels place column here each is inside;
}

cell : (columns : ℕ) (levels : List LevelsParts) → 1 ≤ length levels → All (IsLevels columns) levels → (slot column : ℕ) → slot < row_count levels → column < columns → height_at (tide_from Waters columns levels) slot column ≡ get_or (heights_in_slot levels slot) column (pos 0)
cell columns levels some each slot column lt inside =
    let at : 0 + slot ≡ slot = omega arith in
    row_in (heights_in_slot levels) columns 0 (row_count levels) slot column (λ i. row_size columns levels i some each) lt inside ∙ ap (λ i. get_or (heights_in_slot levels i) column (pos 0)) at

up_to_last : (levels : List LevelsParts) (place end : ℕ) (l : LevelsParts) → Rise Waters levels → suc end ≡ length levels → slice_get levels place ≡ Some l → l.slot ≤ slot_at levels end
up_to_last [] place end l rise size is = absurd cc
up_to_last (w ∷ []) zero zero l rise size is = let same : w.slot ≡ l.slot = ap (λ (x : LevelsParts). x.slot) (same_Some w l is) in omega (arith, same)
up_to_last (w ∷ []) zero (suc end) l rise size is = absurd (omega (arith, size))
up_to_last (w ∷ []) (suc place) end l rise size is = absurd cc
up_to_last (w ∷ v ∷ more) place zero l rise size is = absurd (omega (arith, size))
up_to_last (w ∷ v ∷ more) zero (suc end) l rise size is =
    let same : w.slot ≡ l.slot = ap (λ (x : LevelsParts). x.slot) (same_Some w l is) in
    let rest = up_to_last (v ∷ more) zero end v rise.1 (omega (arith, size)) refl in
    omega (arith, same, rest, rise.0)
up_to_last (w ∷ v ∷ more) (suc place) (suc end) l rise size is = up_to_last (v ∷ more) place end l rise.1 (omega (arith, size)) is

waters_have : (columns : ℕ) (levels : List LevelsParts) → 1 ≤ length levels → All (IsLevels columns) levels → Rise Waters levels → HasWaters levels (tide_from Waters columns levels)
waters_have columns levels some each rise =
    let end : suc (length levels - 1) ≡ length levels = omega (arith, some) in
    record {
      rows = refl;
      between = λ place slot column here next is follows from before inside.
          let next_is : slice_get levels (suc place) ≡ Some next = rw add-one at follows in
          let top = up_to_last levels (suc place) (length levels - 1) next rise end next_is in
          let low : column < length here.heights = omega (arith, inside, wide_at columns levels place here each is) in
          let high : column < length next.heights = omega (arith, inside, wide_at columns levels (suc place) next each next_is) in
          cell columns levels some each slot column (omega (arith, top, before)) inside ∙ ap (λ r. get_or r column (pos 0)) (row_between levels place slot here next rise is next_is from before) ∙ column_in (slot - here.slot) (next.slot - here.slot) column here.heights next.heights low high;
      last = λ column here is inside.
          let at = slot_there levels (length levels - 1) here is in
          cell columns levels some each here.slot column (omega (arith, at)) inside ∙ ap (λ r. get_or r column (pos 0)) (row_last levels (length levels - 1) here rise end is);
    }

rows_have : (kind : TableKind) (columns : ℕ) (levels : List LevelsParts) → 1 ≤ length levels → All (IsLevels columns) levels → slot_at levels 0 ≡ 0 → Rise kind levels → HasRows kind levels (tide_from kind columns levels)
rows_have Heights columns levels some each begins rise = heights_have columns levels each begins rise
rows_have Waters columns levels some each begins rise = waters_have columns levels some each rise

full : (kind : TableKind) (columns : ℕ) (levels : List LevelsParts) → 1 ≤ length levels → All (IsLevels columns) levels → length (tide_from kind columns levels).heights ≡ (tide_from kind columns levels).rows * columns
full Heights columns levels some each = joined_size columns levels each
full Waters columns levels some each = range_size (heights_in_slot levels) columns 0 (row_count levels) (λ i. row_size columns levels i some each)

pub as_wide : (kind : TableKind) (columns : ℕ) (levels : List LevelsParts) → (tide_from kind columns levels).columns ≡ columns
as_wide Heights columns levels = refl
as_wide Waters columns levels = refl

tide_of_table : (kind : TableKind) (names : List (List ℕ)) (records : List (List (List ℕ))) (levels : List LevelsParts) → table_of kind names records ≡ Ok levels → IsTideOf kind names records (tide_from kind (length names) levels)
tide_of_table kind names records levels e =
    let t = table_kept kind names records levels e in
    let told = (table_told_law kind names records levels).0 e in
    let wide = as_wide kind (length names) levels in
    record {
      levels = levels;
      table = told;
      columns = wide;
      size = full kind (length names) levels t.some t.each ∙ ap (λ n. (tide_from kind (length names) levels).rows * n) (sym wide);
      told = rows_have kind (length names) levels t.some t.each t.begins told.rise;
    }

to_told : (kind : TableKind) (names : List (List ℕ)) (records : List (List (List ℕ))) (t : TideParts) → tide_of kind names records ≡ Ok t → IsTideOf kind names records t
unfolding tide_of
to_told kind names records t e =
    let a = bound (table_of kind names records) (λ levels. Ok (tide_from kind (length names) levels)) t e in
    subst (IsTideOf kind names records) (same_Ok (tide_from kind (length names) a.0) t a.2) (tide_of_table kind names records a.0 a.1)

-- ---- records have one tide

abbrev Found : List LevelsParts → ℕ → ℕ → Type 0
Found levels end slot = ((place : ℕ) × (here : LevelsParts) × (next : LevelsParts) × (slice_get levels place ≡ Some here) × (slice_get levels (suc place) ≡ Some next) × (here.slot ≤ slot) × (slot < next.slot)) ⊎ ((here : LevelsParts) × (slice_get levels end ≡ Some here) × (slot ≡ here.slot))

one_on : (w : LevelsParts) (ws : List LevelsParts) (end slot : ℕ) → Found ws end slot → Found (w ∷ ws) (suc end) slot
one_on w ws end slot (inl f) = inl (suc f.0, f.1, f.2, f.3, f.4, f.5, f.6)
one_on w ws end slot (inr g) = inr (g.0, g.1, g.2)

found : (w : LevelsParts) (ws : List LevelsParts) (end slot : ℕ) → suc end ≡ length (w ∷ ws) → w.slot ≤ slot → slot ≤ slot_at (w ∷ ws) end → Found (w ∷ ws) end slot
found w [] zero slot size from up = inr (w, refl, omega (arith, from, up))
found w [] (suc end) slot size from up = absurd (omega (arith, size))
found w (v ∷ more) zero slot size from up = absurd (omega (arith, size))
found w (v ∷ more) (suc end) slot size from up = elim (cases_lt slot v.slot) [
  | inl lt ↦ inl (zero, w, v, refl, refl, from, lt)
  | inr ge ↦ one_on w (v ∷ more) end slot (found v more end slot (omega (arith, size)) ge up)
]

same_waters : (levels : List LevelsParts) (t u : TideParts) → 1 ≤ length levels → slot_at levels 0 ≡ 0 → HasWaters levels t → HasWaters levels u → t.columns ≡ u.columns → (slot column : ℕ) → slot < t.rows → column < t.columns → height_at t slot column ≡ height_at u slot column
same_waters [] t u some begins a b same slot column lt inside = absurd (omega (arith, some))
same_waters (w ∷ ws) t u some begins a b same slot column lt inside =
    let end : suc (length (w ∷ ws) - 1) ≡ length (w ∷ ws) = omega arith in
    let too : column < u.columns = omega (arith, inside, same) in
    elim (found w ws (length (w ∷ ws) - 1) slot end (omega (arith, begins)) (omega (arith, lt, a.rows))) [
      | inl f ↦
          let follows : slice_get (w ∷ ws) (f.0 + 1) ≡ Some f.2 = rw add-one f.4 in
          a.between f.0 slot column f.1 f.2 f.3 follows f.5 f.6 inside ∙ sym (b.between f.0 slot column f.1 f.2 f.3 follows f.5 f.6 too)
      | inr g ↦ ap (λ s. height_at t s column) g.2 ∙ a.last column g.0 g.1 inside ∙ sym (b.last column g.0 g.1 too) ∙ ap (λ s. height_at u s column) (sym g.2)
    ]

same_heights : (levels : List LevelsParts) (t u : TideParts) → slot_at levels 0 ≡ 0 → Rise Heights levels → HasHeights levels t → HasHeights levels u → t.columns ≡ u.columns → (slot column : ℕ) → slot < t.rows → column < t.columns → height_at t slot column ≡ height_at u slot column
same_heights levels t u begins rise a b same slot column lt inside =
    let l = some_at levels slot (omega (arith, lt, a.rows)) in
    let at = slot_is_place levels slot l.0 begins rise l.1 in
    ap (λ s. height_at t s column) (sym at) ∙ a.heights slot column l.0 l.1 inside ∙ sym (b.heights slot column l.0 l.1 (omega (arith, inside, same))) ∙ ap (λ s. height_at u s column) at

same_cells : (kind : TableKind) (levels : List LevelsParts) (t u : TideParts) → 1 ≤ length levels → slot_at levels 0 ≡ 0 → Rise kind levels → HasRows kind levels t → HasRows kind levels u → t.columns ≡ u.columns → (slot column : ℕ) → slot < t.rows → column < t.columns → height_at t slot column ≡ height_at u slot column
same_cells Heights levels t u some begins rise a b same = same_heights levels t u begins rise a b same
same_cells Waters levels t u some begins rise a b same = same_waters levels t u some begins a b same

same_rows : (kind : TableKind) (levels : List LevelsParts) (t u : TideParts) → HasRows kind levels t → HasRows kind levels u → t.rows ≡ u.rows
same_rows Heights levels t u a b = a.rows ∙ sym b.rows
same_rows Waters levels t u a b = a.rows ∙ sym b.rows

some_column : (a b i : ℕ) → i < a * b → 1 ≤ b
some_column a zero i lt = absurd (omega (arith, lt))
some_column a (suc b) i lt = omega arith

cell_by_cell : (t u : TideParts) → t.rows ≡ u.rows → t.columns ≡ u.columns → length t.heights ≡ t.rows * t.columns → length u.heights ≡ u.rows * u.columns → ((slot column : ℕ) → slot < t.rows → column < t.columns → height_at t slot column ≡ height_at u slot column) → t.heights ≡ u.heights
cell_by_cell t u rows columns here there same = ext_get_or (pos 0) t.heights u.heights (here ∙ (ap (λ n. n * t.columns) rows ∙ ap (λ n. u.rows * n) columns) ∙ sym there) (λ i lt. one i (omega (arith, lt, here)))
  where
    one : (i : ℕ) → i < t.rows * t.columns → get_or t.heights i (pos 0) ≡ get_or u.heights i (pos 0)
    one i lt =
        let some : 1 ≤ t.columns = some_column t.rows t.columns i lt in
        let at : i / t.columns * t.columns + i % t.columns ≡ i = div-add-mod' i t.columns in
        let row : i / t.columns < t.rows = (div-lt_iff_lt-mul {k = t.columns} {x = i} {y = t.rows} some).1 lt in
        let right : i % t.columns < t.columns = mod-lt i some in
        subst (λ k. get_or t.heights k (pos 0) ≡ get_or u.heights k (pos 0)) at (same (i / t.columns) (i % t.columns) row right ∙ ap (λ n. get_or u.heights (i / t.columns * n + i % t.columns) (pos 0)) (sym columns))

rebuilt : (t u : TideParts) → t.rows ≡ u.rows → t.columns ≡ u.columns → t.heights ≡ u.heights → t ≡ u
rebuilt t u p q r = rw (p, q, r) refl

from_told : (kind : TableKind) (names : List (List ℕ)) (records : List (List (List ℕ))) (t : TideParts) → IsTideOf kind names records t → tide_of kind names records ≡ Ok t
unfolding tide_of
from_told kind names records t told =
    let e = (table_told_law kind names records told.levels).1 told.table in
    let k = table_kept kind names records told.levels e in
    let wide = as_wide kind (length names) told.levels in
    let u : TideParts = tide_from kind (length names) told.levels in
    let rows = rows_have kind (length names) told.levels k.some k.each k.begins told.table.rise in
    let size : length u.heights ≡ u.rows * u.columns = full kind (length names) told.levels k.some k.each ∙ ap (λ n. u.rows * n) (sym wide) in
    let many = same_rows kind told.levels t u told.told rows in
    let columns : t.columns ≡ u.columns = told.columns ∙ sym wide in
    let heights = cell_by_cell t u many columns told.size size (same_cells kind told.levels t u k.some k.begins told.table.rise told.told rows columns) in
    ap (λ (r : Result (List LevelsParts) TideFault). r >>= λ levels. Ok (tide_from kind (length names) levels)) e ∙ ap (λ x. Ok x) (sym (rebuilt t u many columns heights))

pub tide_told_law : TideTold
tide_told_law = λ kind names records t. (to_told kind names records t, from_told kind names records t)
