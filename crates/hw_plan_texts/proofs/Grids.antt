-- Values by ship and slot, row by row.
use Rattle.std.proofs.Common.{◌≡◌, ℕ, zero, suc, ◌+◌, ◌*◌, ◌<◌, ◌≤◌, List, [], ◌∷◌, ◌++◌, flat_map, Option, Some, option_and_then, slice_get, All, length, length-append, suc-mul, refl, sym, ap, subst, ◌∙◌, arith}
use Rattle.std.proofs.lemmas.List.{append-nil}
use Rattle.std.proofs.lemmas.List.Concat.{flat_map-append}
use Rattle.std.proofs.lemmas.List.FromFn.{map-range_with_len_more, length-map-range_with_len, length-range_with_len, get_or-range_with_len}
use Rattle.std.proofs.lemmas.List.Elements.{All-nil, All-append, All-map, All-from_get_or}
use Rattle.std.specs.List.{range_with_len}
use Rattle.hw_lemmas.proofs.Lists.{get_range, get_left, get_right}
use Rattle.hw_plan_texts.specs.Grids.{row_of, grid_of_values, GridValue}

-- ---- a row

pub row_length : (value : ℕ → ℕ → Option ℕ) (slots ship : ℕ) → length (row_of value slots ship) ≡ slots
row_length value slots ship = length-map-range_with_len (value ship) 0 slots

-- ---- rows of the ships from one on

rows : (ℕ → ℕ → Option ℕ) → ℕ → ℕ → ℕ → List (Option ℕ)
rows value slots first many = flat_map (row_of value slots) (range_with_len first many)

rows_length : (value : ℕ → ℕ → Option ℕ) (slots first many : ℕ) → length (rows value slots first many) ≡ many * slots
unfolding rows
rows_length value slots first zero = omega arith
rows_length value slots first (suc many) =
    length-append (row_of value slots first) (flat_map (row_of value slots) (range_with_len (first + 1) many))
    ∙ omega (arith, row_length value slots first, rows_length value slots (first + 1) many, suc-mul many slots)

rows_get : (value : ℕ → ℕ → Option ℕ) (slots first many v k j : ℕ) → v < many → k < slots → j ≡ v * slots + k → slice_get (rows value slots first many) j ≡ Some (value (first + v) k)
unfolding rows
rows_get value slots first zero v k j lt in' at = absurd (omega (arith, lt))
rows_get value slots first (suc many) zero k j lt in' at =
    let here : j ≡ k = omega (arith, at) in
    let e : first ≡ first + 0 = omega arith in
    let z : 0 + k ≡ k = omega arith in
    rw here (get_left (row_of value slots first) (flat_map (row_of value slots) (range_with_len (first + 1) many)) k (omega (arith, in', row_length value slots first)) ∙ (get_range (value first) 0 slots k in' ∙ (ap (λ i. Some (value first i)) z ∙ ap (λ s. Some (value s k)) e)))
rows_get value slots first (suc many) (suc v) k j lt in' at =
    let there : j ≡ length (row_of value slots first) + (v * slots + k) = omega (arith, at, suc-mul v slots, row_length value slots first) in
    let e : first + 1 + v ≡ first + suc v = omega arith in
    get_right (row_of value slots first) (flat_map (row_of value slots) (range_with_len (first + 1) many)) (v * slots + k) j there
    ∙ (rows_get value slots (first + 1) many v k (v * slots + k) (omega (arith, lt)) in' refl ∙ ap (λ s. Some (value s k)) e)

all_range : (P : ℕ → Type 0) (a n : ℕ) → ((k : ℕ) → a ≤ k → k < a + n → P k) → All P (range_with_len a n)
all_range P a n each = All-from_get_or P (range_with_len a n) 0 (λ i lt.
    let in' : i < n = omega (arith, lt, length-range_with_len a n) in
    subst P (sym (get_or-range_with_len a n i 0 in')) (each (a + i) (omega arith) (omega (arith, in'))))

rows_all : (P : Option ℕ → Type 0) (value : ℕ → ℕ → Option ℕ) (slots first many : ℕ) → ((v k : ℕ) → first ≤ v → v < first + many → k < slots → P (value v k)) → All P (rows value slots first many)
unfolding rows
rows_all P value slots first zero each = All-nil P
rows_all P value slots first (suc many) each =
    All-append P (row_of value slots first) (flat_map (row_of value slots) (range_with_len (first + 1) many))
    (All-map P (value first) (range_with_len 0 slots) (all_range (λ k. P (value first k)) 0 slots (λ k low high. each first k (omega arith) (omega arith) (omega (arith, high)))))
    (rows_all P value slots (first + 1) many (λ v k low high in'. each v k (omega (arith, low)) (omega (arith, high)) in'))

-- ---- all rows

pub grid_length : (value : ℕ → ℕ → Option ℕ) (ships slots : ℕ) → length (grid_of_values value ships slots) ≡ ships * slots
unfolding rows
grid_length value ships slots = rows_length value slots 0 ships

pub grid_get : (value : ℕ → ℕ → Option ℕ) (ships slots ship slot : ℕ) → ship < ships → slot < slots → slice_get (grid_of_values value ships slots) (ship * slots + slot) ≡ Some (value ship slot)
unfolding rows
grid_get value ships slots ship slot lt in' =
    let e : 0 + ship ≡ ship = omega arith in
    rows_get value slots 0 ships ship slot (ship * slots + slot) lt in' refl ∙ ap (λ s. Some (value s slot)) e

pub grid_all : (P : Option ℕ → Type 0) (value : ℕ → ℕ → Option ℕ) (ships slots : ℕ) → ((ship slot : ℕ) → ship < ships → slot < slots → P (value ship slot)) → All P (grid_of_values value ships slots)
unfolding rows
grid_all P value ships slots each = rows_all P value slots 0 ships (λ v k low high in'. each v k (omega (arith, high)) in')

pub grid_value : GridValue
grid_value f value ship slot e lt in' =
    ap (λ values. option_and_then (λ v. v) (slice_get values (ship * f.slots + slot))) e ∙ ap (option_and_then (λ v. v)) (grid_get value f.ships f.slots ship slot lt in')

-- one row more
range_more : (a n : ℕ) → range_with_len a (suc n) ≡ range_with_len a n ++ (a + n) ∷ []
range_more a zero = let e : a ≡ a + 0 = omega arith in ap (λ (k : ℕ). k ∷ []) e
range_more a (suc n) =
    let e : a + 1 + n ≡ a + suc n = omega arith in
    ap (λ (ks : List ℕ). a ∷ ks) (range_more (a + 1) n ∙ ap (λ (k : ℕ). range_with_len (a + 1) n ++ k ∷ []) e)

pub numbers_more : (n : ℕ) → range_with_len 0 (n + 1) ≡ range_with_len 0 n ++ n ∷ []
numbers_more n =
    let one : n + 1 ≡ suc n = omega arith in
    let z : 0 + n ≡ n = omega arith in
    ap (range_with_len 0) one ∙ (range_more 0 n ∙ ap (λ (k : ℕ). range_with_len 0 n ++ k ∷ []) z)

pub grid_more : (value : ℕ → ℕ → Option ℕ) (ships slots : ℕ) → grid_of_values value (ships + 1) slots ≡ grid_of_values value ships slots ++ row_of value slots ships
grid_more value ships slots =
    let one : ships + 1 ≡ suc ships = omega arith in
    let z : 0 + ships ≡ ships = omega arith in
    ap (λ (n : ℕ). flat_map (row_of value slots) (range_with_len 0 n)) one
    ∙ (ap (flat_map (row_of value slots)) (range_more 0 ships)
    ∙ (flat_map-append (row_of value slots) (range_with_len 0 ships) ((0 + ships) ∷ [])
    ∙ (ap (λ (xs : List (Option ℕ)). grid_of_values value ships slots ++ xs) (append-nil (row_of value slots (0 + ships)))
    ∙ ap (λ (s : ℕ). grid_of_values value ships slots ++ row_of value slots s) z)))

-- a row with one value more
pub row_more : (value : ℕ → ℕ → Option ℕ) (slots ship : ℕ) → row_of value (slots + 1) ship ≡ row_of value slots ship ++ value ship slots ∷ []
row_more value slots ship = map-range_with_len_more (value ship) 0 slots slots (omega arith)

-- ---- numbers in a row
