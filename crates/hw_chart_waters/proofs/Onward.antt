-- Rows of one height, and labels of stands, one after another.
use Rattle.std.proofs.Common.{◌≡◌, ◌≤◌, ◌<◌, ◌+◌, ◌-◌, ◌∙◌, ◌&&◌, ◌++◌, ℕ, ℤ, suc, Bool, true, false, cond, nat_lt, List, [], ◌∷◌, Option, Some, None, ap, refl, arith}
use Rattle.std.proofs.lemmas.Bool.{and_parts, ltb-true}
use Rattle.std.specs.Ordering.{int_eq}
use Rattle.hw_chart_waters.specs.declared.stand.Stand.{Stand}
use Rattle.hw_chart_waters.specs.declared.stand.WaterKind.{WaterKind}
use Rattle.hw_chart_waters.specs.Columns.{ColumnParts, column_height}
use Rattle.hw_chart_waters.specs.Labels.{after_label, fits_from, free_after_some, label_of, label_of_some, water_label, water_labels, waters_text, with_room}
use Rattle.hw_chart_waters.specs.Stands.{stand_at, stand_before, stand_end, stands_from}

-- ---- where a stand ends

-- a row is shown, and has this height
abbrev pub is_level : ColumnParts → ℤ → ℕ → Bool
is_level c level row = nat_lt row c.rows && int_eq (column_height c row) level

pub level_inside : (c : ColumnParts) (level : ℤ) (row : ℕ) → is_level c level row ≡ true → row < c.rows
level_inside c level row e = ltb-true row c.rows ((and_parts (nat_lt row c.rows) (int_eq (column_height c row) level) e).0)

pub stand_goes : (c : ColumnParts) (level : ℤ) (row result : ℕ) → is_level c level row ≡ true → result ≡ stand_end (column_height c) level (row + 1) (c.rows - (row + 1)) → result ≡ stand_end (column_height c) level row (c.rows - row)
stand_goes c level row result is e =
    let same = (and_parts (nat_lt row c.rows) (int_eq (column_height c row) level) is).1 in
    let lt = level_inside c level row is in
    let more : c.rows - row ≡ suc (c.rows - (row + 1)) = omega (arith, lt) in
    rw (more, same) e

stands_still : (c : ColumnParts) (level : ℤ) (row : ℕ) → row < c.rows → int_eq (column_height c row) level ≡ false → row ≡ stand_end (column_height c) level row (c.rows - row)
stands_still c level row lt other =
    let more : c.rows - row ≡ suc (c.rows - (row + 1)) = omega (arith, lt) in
    rw (more, other) refl

stand_over : (c : ColumnParts) (level : ℤ) (row : ℕ) → c.rows ≤ row → row ≡ stand_end (column_height c) level row (c.rows - row)
stand_over c level row le =
    let none : c.rows - row ≡ 0 = omega (arith, le) in
    rw none refl

stops_by : (c : ColumnParts) (level : ℤ) (row : ℕ) (a b : Bool) → nat_lt row c.rows ≡ a → int_eq (column_height c row) level ≡ b → a && b ≡ false → row ≡ stand_end (column_height c) level row (c.rows - row)
stops_by c level row false b lt same e = stand_over c level row (grind (arith, lt))
stops_by c level row true false lt same e = stands_still c level row (ltb-true row c.rows lt) same
stops_by c level row true true lt same e = absurd cc

pub stand_stops : (c : ColumnParts) (level : ℤ) (row : ℕ) → is_level c level row ≡ false → row ≡ stand_end (column_height c) level row (c.rows - row)
stand_stops c level row e = stops_by c level row (nat_lt row c.rows) (int_eq (column_height c row) level) refl refl e

-- ---- labels

label_by : (b : Bool) (c : ColumnParts) (y free end : ℕ) (s : Stand) (more : List Stand) → water_labels c y (cond b (s ∷ with_room c end more) (with_room c free more)) ≡ cond b (water_label c y s) [] ++ water_labels c y (with_room c (cond b end free) more)
label_by true c y free end s more = refl
label_by false c y free end s more = refl

label_on : (c : ColumnParts) (y free : ℕ) (o : Option Stand) (more : List Stand) → water_labels c y (with_room c free (stand_before o more)) ≡ label_of_some c y free o ++ water_labels c y (with_room c (free_after_some c free o) more)
label_on c y free None more = refl
label_on c y free (Some s) more = label_by (fits_from free (label_of c s)) c y free (after_label (label_of c s)) s more

-- the labels of the stands that begin in the rows from one on
abbrev pub labels_left : ColumnParts → WaterKind → ℕ → ℕ → ℕ → List ℕ
labels_left c kind y free row = water_labels c y (with_room c free (stands_from kind (column_height c) c.rows row (c.rows - row)))

pub labels_next : (c : ColumnParts) (kind : WaterKind) (y free row : ℕ) → row < c.rows → labels_left c kind y free row ≡ label_of_some c y free (stand_at kind (column_height c) c.rows row) ++ labels_left c kind y (free_after_some c free (stand_at kind (column_height c) c.rows row)) (row + 1)
labels_next c kind y free row lt =
    let more : c.rows - row ≡ suc (c.rows - (row + 1)) = omega (arith, lt) in
    ap (λ n. water_labels c y (with_room c free (stands_from kind (column_height c) c.rows row n))) more ∙ label_on c y free (stand_at kind (column_height c) c.rows row) (stands_from kind (column_height c) c.rows (row + 1) (c.rows - (row + 1)))

pub labels_all : (c : ColumnParts) (kind : WaterKind) (y : ℕ) → waters_text c kind y ≡ labels_left c kind y 172 0
labels_all c kind y =
    let all : c.rows ≡ c.rows - 0 = omega arith in
    ap (λ n. water_labels c y (with_room c 172 (stands_from kind (column_height c) c.rows 0 n))) all

pub labels_end : (c : ColumnParts) (kind : WaterKind) (y free row : ℕ) → c.rows ≤ row → labels_left c kind y free row ≡ []
labels_end c kind y free row le =
    let none : c.rows - row ≡ 0 = omega (arith, le) in
    rw none refl
