-- What a tide table says, record by record, whatever way it is read.
use Rattle.std.specs.Prelude.{◌≡◌, ◌↔◌, ◌<◌, ◌≤◌, ◌+◌, ◌-◌, ◌*◌, ℕ, ℤ, pos, List, [], ◌∷◌, length, map, drop, slice_get, slice_index_or, Some, Ok}
use Rattle.hw_text.specs.Numbers.{number_up_to, signed_up_to}
use Rattle.hw_tide.specs.declared.kind.TableKind.{TableKind}
use Rattle.hw_tide.specs.declared.kind.TableKind.TheVariants.{Heights, Waters}
use Rattle.hw_tide.specs.Twelfths.{height_between}
use Rattle.hw_tide.specs.Levels.{LevelsParts, TideParts, height_at}
use Rattle.hw_tide.specs.Table.{kind_word, first_field, table_of}
use Rattle.hw_tide.specs.Tides.{slot_at, tide_of}

-- a record tells its slot, and a height for each of this many waypoints
pub record RecordTells (waypoints : ℕ) (fields : List (List ℕ)) (l : LevelsParts) : Type 0 where
  pub width : length fields ≡ 1 + waypoints
  pub slot : number_up_to 2_047 (first_field fields) ≡ Some l.slot
  pub heights : map (signed_up_to 2_000) (drop 1 fields) ≡ map (λ h. Some h) l.heights

-- each record tells what stands at its place
abbrev pub EachTells : ℕ → List (List (List ℕ)) → List LevelsParts → Type 0
EachTells waypoints [] [] = Unit {0}
EachTells waypoints [] (l ∷ ls) = ⊥
EachTells waypoints (x ∷ xs) [] = ⊥
EachTells waypoints (x ∷ xs) (l ∷ ls) = RecordTells waypoints x l × EachTells waypoints xs ls

-- heights stand slot by slot, and each water is later than that before
abbrev pub Next : TableKind → ℕ → ℕ → Type 0
Next Heights slot next = next ≡ slot + 1
Next Waters slot next = slot < next

-- each record stands to the next one as `Next` says
abbrev pub Rise : TableKind → List LevelsParts → Type 0
Rise kind [] = Unit {0}
Rise kind (l ∷ []) = Unit {0}
Rise kind (l ∷ m ∷ more) = Next kind l.slot m.slot × Rise kind (m ∷ more)

-- after the header with the waypoints' names, records that tell these levels, from slot 0 on
pub record IsTableOf (kind : TableKind) (names : List (List ℕ)) (records : List (List (List ℕ))) (levels : List LevelsParts) : Type 0 where
  pub rows : List (List (List ℕ))
  pub header : records ≡ (kind_word kind ∷ names) ∷ rows
  pub told : EachTells (length names) rows levels
  pub some : 1 ≤ length levels
  pub begins : slot_at levels 0 ≡ 0
  pub rise : Rise kind levels

-- a table is read as these levels exactly where its records tell them
abbrev pub TableTold : Type 0
TableTold = (kind : TableKind) (names : List (List ℕ)) (records : List (List (List ℕ))) (levels : List LevelsParts) → ((table_of kind names records ≡ Ok levels) ↔ IsTableOf kind names records levels)

-- the height that a record tells in a column, 0 past the end
abbrev pub height_of : LevelsParts → ℕ → ℤ
height_of l column = slice_index_or l.heights column (pos 0)

-- heights: a row for each record, and in its slot what the record tells
pub record HasHeights (levels : List LevelsParts) (t : TideParts) : Type 0 where
  pub rows : t.rows ≡ length levels
  pub heights : (place column : ℕ) (here : LevelsParts) → slice_get levels place ≡ Some here → column < t.columns → height_at t here.slot column ≡ height_of here column

-- waters: rows up to the last record's slot; by the formula from one record's slot up to the next one's, and at the last one what it tells
pub record HasWaters (levels : List LevelsParts) (t : TideParts) : Type 0 where
  pub rows : t.rows ≡ slot_at levels (length levels - 1) + 1
  pub between : (place slot column : ℕ) (here next : LevelsParts) → slice_get levels place ≡ Some here → slice_get levels (place + 1) ≡ Some next → here.slot ≤ slot → slot < next.slot → column < t.columns → height_at t slot column ≡ height_between (height_of here column) (height_of next column) (slot - here.slot) (next.slot - here.slot)
  pub last : (column : ℕ) (here : LevelsParts) → slice_get levels (length levels - 1) ≡ Some here → column < t.columns → height_at t here.slot column ≡ height_of here column

abbrev pub HasRows : TableKind → List LevelsParts → TideParts → Type 0
HasRows Heights levels t = HasHeights levels t
HasRows Waters levels t = HasWaters levels t

-- the tide of records: a column for each of the names, and rows from what the records tell
pub record IsTideOf (kind : TableKind) (names : List (List ℕ)) (records : List (List (List ℕ))) (t : TideParts) : Type 0 where
  pub levels : List LevelsParts
  pub table : IsTableOf kind names records levels
  pub columns : t.columns ≡ length names
  pub size : length t.heights ≡ t.rows * t.columns
  pub told : HasRows kind levels t

-- a table is read as this tide exactly where the tide is that of its records
abbrev pub TideTold : Type 0
TideTold = (kind : TableKind) (names : List (List ℕ)) (records : List (List (List ℕ))) (t : TideParts) → ((tide_of kind names records ≡ Ok t) ↔ IsTideOf kind names records t)
