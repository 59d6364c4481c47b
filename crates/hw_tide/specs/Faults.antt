-- What the first fault of a tide table is, whatever way the table is read.
use Rattle.std.specs.Prelude.{◌≡◌, ◌↔◌, ◌<◌, ◌+◌, ℕ, zero, suc, List, [], ◌∷◌, ◌++◌, length, drop, slice_get, slice_index_or, Some, None, Err}
use Rattle.hw_text.specs.Numbers.{number_up_to, signed_up_to}
use Rattle.hw_tide.specs.declared.kind.TableKind.{TableKind}
use Rattle.hw_tide.specs.declared.fault.TideFault.{TideFault}
use Rattle.hw_tide.specs.declared.fault.TideFault.TheVariants.{Header, Length, Field, Few, NoMemory}
use Rattle.hw_tide.specs.Levels.{LevelsParts}
use Rattle.hw_tide.specs.Table.{kind_word, first_field}
use Rattle.hw_tide.specs.Tides.{slot_at, tide_of}
use Rattle.hw_tide.specs.Told.{EachTells, Next, Rise}

-- the records in front of one are without fault, and tell these levels
pub record AreFaultless (kind : TableKind) (waypoints : ℕ) (records : List (List (List ℕ))) (levels : List LevelsParts) : Type 0 where
  pub told : EachTells waypoints records levels
  pub begins : slot_at levels 0 ≡ 0
  pub rise : Rise kind levels

-- a slot that may follow these: 0 in the first record, later the next by the kind
abbrev pub Follows : TableKind → List LevelsParts → ℕ → Type 0
Follows kind [] slot = slot ≡ 0
Follows kind (l ∷ []) slot = Next kind l.slot slot
Follows kind (l ∷ m ∷ more) slot = Follows kind (m ∷ more) slot

-- the first field is a slot that may stand there
abbrev pub HasSlot : (ℕ → Type 0) → List (List ℕ) → Type 0
HasSlot Fits fields = (slot : ℕ) × (number_up_to 2_047 (first_field fields) ≡ Some slot) × Fits slot

-- the first of these fields that is no height
pub record IsFirstNoHeight (fields : List (List ℕ)) (place : ℕ) : Type 0 where
  pub inside : place < length fields
  pub wrong : signed_up_to 2_000 (slice_index_or fields place []) ≡ None
  pub before : (k : ℕ) → k < place → signed_up_to 2_000 (slice_index_or fields k []) ≡ None → ⊥

-- the first wrong field of a record: the slot's, or that of the first height that is none
abbrev pub IsWrongField : (ℕ → Type 0) → List (List ℕ) → ℕ → Type 0
IsWrongField Fits fields zero = HasSlot Fits fields → ⊥
IsWrongField Fits fields (suc place) = HasSlot Fits fields × IsFirstNoHeight (drop 1 fields) place

-- what is wrong with record `row`, in which such slots may stand: its number of fields, else a field
abbrev pub IsWrong : ℕ → (ℕ → Type 0) → ℕ → List (List ℕ) → TideFault → Type 0
IsWrong waypoints Fits row fields (Length at) = (at ≡ row) × (length fields ≡ 1 + waypoints → ⊥)
IsWrong waypoints Fits row fields (Field at column) = (at ≡ row) × (length fields ≡ 1 + waypoints) × IsWrongField Fits fields column
IsWrong waypoints Fits row fields (Header column) = ⊥
IsWrong waypoints Fits row fields Few = ⊥
IsWrong waypoints Fits row fields NoMemory = ⊥

-- the first place where two lists of words differ, or one of them ends
pub record IsFirstOther (words others : List (List ℕ)) (place : ℕ) : Type 0 where
  pub here : slice_get words place ≡ slice_get others place → ⊥
  pub before : (k : ℕ) → k < place → slice_get words k ≡ slice_get others k

-- after the right header and records without fault, a record with this fault
pub record IsFirstBad (kind : TableKind) (names : List (List ℕ)) (records : List (List (List ℕ))) (fault : TideFault) : Type 0 where
  pub before : List (List (List ℕ))
  pub fields : List (List ℕ)
  pub after : List (List (List ℕ))
  pub levels : List LevelsParts
  pub split : records ≡ (kind_word kind ∷ names) ∷ (before ++ fields ∷ after)
  pub faultless : AreFaultless kind (length names) before levels
  pub wrong : IsWrong (length names) (Follows kind levels) (1 + length before) fields fault

-- the header's fields, none where no record is
abbrev pub header_in : List (List (List ℕ)) → List (List ℕ)
header_in [] = []
header_in (first ∷ records) = first

-- the first fault: the header's, else that of the first bad record, else that no record follows the header
abbrev pub IsFirstFault : TableKind → List (List ℕ) → List (List (List ℕ)) → TideFault → Type 0
IsFirstFault kind names records (Header column) = IsFirstOther (kind_word kind ∷ names) (header_in records) column
IsFirstFault kind names records (Length row) = IsFirstBad kind names records (Length row)
IsFirstFault kind names records (Field row column) = IsFirstBad kind names records (Field row column)
IsFirstFault kind names records Few = records ≡ (kind_word kind ∷ names) ∷ []
IsFirstFault kind names records NoMemory = ⊥

-- a table is refused for a fault exactly where that is its first one
abbrev pub FaultTold : Type 0
FaultTold = (kind : TableKind) (names : List (List ℕ)) (records : List (List (List ℕ))) (fault : TideFault) → ((tide_of kind names records ≡ Err fault) ↔ IsFirstFault kind names records fault)
