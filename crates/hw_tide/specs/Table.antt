-- A tide table, record by record, with the first fault.
use Rattle.std.specs.Prelude.{◌≡◌, ℕ, ◌+◌, ◌-◌, ◌==◌, ℤ, List, [], ◌∷◌, length, drop, Bool, true, false, Option, Some, None, option_and_then, Result, Ok, Err, nat_lt, bytes_eq, codes, if◌then◌else◌}
use Rattle.hw_lemmas.specs.Operators.{◌>>=◌}
use Rattle.hw_text.specs.Numbers.{number_up_to, signed_up_to}
use Rattle.hw_tide.specs.Levels.{LevelsParts}
use Rattle.hw_tide.specs.declared.kind.TableKind.{TableKind}
use Rattle.hw_tide.specs.declared.kind.TableKind.TheVariants.{Heights, Waters}
use Rattle.hw_tide.specs.declared.fault.TideFault.{TideFault}
use Rattle.hw_tide.specs.declared.fault.TideFault.TheVariants.{Header, Length, Field, Few, NoMemory}

-- an answer that gives this reading; memory may run out at any time
abbrev pub TideFails : {Y : Type 0} → TideFault → Result Y TideFault → Type 0
TideFails NoMemory read = Unit {0}
TideFails e read = read ≡ Err e

-- what a call returned, seen by the view, is what reading gives; memory may run out at any time
abbrev pub TideGives : {X Y : Type 0} → (X → Y) → Result X TideFault → Result Y TideFault → Type 0
TideGives view (Ok x) read = read ≡ Ok (view x)
TideGives view (Err e) read = TideFails e read

abbrev pub formed_field : {A : Type 0} → TideFault → Option A → Result A TideFault
formed_field fault None = Err fault
formed_field fault (Some x) = Ok x

abbrev pub needed : TideFault → Bool → Result Bool TideFault
needed fault true = Ok true
needed fault false = Err fault

-- the first word of the header
abbrev pub kind_word : TableKind → List ℕ
kind_word Heights = codes "slot"
kind_word Waters = codes "water"

-- the first column that is wrong, missing or extra
abbrev pub wrong_column : ℕ → List (List ℕ) → List (List ℕ) → Option ℕ
wrong_column i [] [] = None
wrong_column i [] (f ∷ fs) = Some i
wrong_column i (n ∷ ns) [] = Some i
wrong_column i (n ∷ ns) (f ∷ fs) = if bytes_eq f n then wrong_column (i + 1) ns fs else Some i

abbrev pub header_of : Option ℕ → Result Bool TideFault
header_of None = Ok true
header_of (Some column) = Err (Header column)

-- heights go slot by slot from 0 on; waters begin at 0 and rise
abbrev pub slot_fits : TableKind → ℕ → Option ℕ → ℕ → Bool
slot_fits Heights row last slot = slot == row - 1
slot_fits Waters row None slot = slot == 0
slot_fits Waters row (Some before) slot = nat_lt before slot

abbrev pub fitting : TableKind → ℕ → Option ℕ → ℕ → Option ℕ
fitting kind row last slot = if slot_fits kind row last slot then Some slot else None

-- the fields end before a place
abbrev pub EndBefore : ℕ → List (List ℕ) → Type 0
EndBefore place fields = drop place fields ≡ []

-- the fields have this one at a place
abbrev pub HasAt : ℕ → List (List ℕ) → List ℕ → Type 0
HasAt place fields field = drop place fields ≡ field ∷ drop (place + 1) fields

abbrev pub first_field : List (List ℕ) → List ℕ
first_field [] = []
first_field (f ∷ fs) = f

-- the heights of a record from a column on
unfoldable pub heights_from : ℕ → ℕ → List (List ℕ) → Result (List ℤ) TideFault
heights_from row column [] = Ok []
heights_from row column (f ∷ fs) = formed_field (Field row column) (signed_up_to 2_000 f) >>= λ h. heights_from row (column + 1) fs >>= λ hs. Ok (h ∷ hs)

-- a record of `columns` columns, the first field among them, after one with the slot `last`
unfoldable pub levels_form : TableKind → ℕ → ℕ → Option ℕ → List (List ℕ) → Result LevelsParts TideFault
levels_form kind columns row last fields = do
  size ← needed (Length row) (length fields == columns)
  slot ← formed_field (Field row 0) (option_and_then (fitting kind row last) (number_up_to 2_047 (first_field (drop 0 fields))))
  heights ← heights_from row 1 (drop 1 fields)
  Ok (record { slot = slot; heights = heights })

-- the records from one on, or the first fault among them
abbrev pub levels_from : TableKind → ℕ → ℕ → Option ℕ → List (List (List ℕ)) → Result (List LevelsParts) TideFault
levels_from kind columns row last [] = Ok []
levels_from kind columns row last (x ∷ xs) = levels_form kind columns row last x >>= λ one. levels_from kind columns (row + 1) (Some one.slot) xs >>= λ more. Ok (one ∷ more)

abbrev pub not_empty : {A : Type 0} → List A → Result (List A) TideFault
not_empty [] = Err Few
not_empty (x ∷ xs) = Ok (x ∷ xs)

-- the table of all records, after a header of the waypoints' names
unfoldable pub table_of : TableKind → List (List ℕ) → List (List (List ℕ)) → Result (List LevelsParts) TideFault
table_of kind names [] = Err (Header 0)
table_of kind names (first ∷ records) = do
  header ← header_of (wrong_column 0 (kind_word kind ∷ names) (drop 0 first))
  levels ← levels_from kind (1 + length names) 1 None records
  not_empty levels
