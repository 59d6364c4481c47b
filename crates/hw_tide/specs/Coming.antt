-- The records of a table that are still to be read.
use Rattle.std.specs.Prelude.{◌≡◌, ◌<◌, ℕ, List, [], ◌∷◌, true, Option, Some, None, Result, Ok, Err}
use Rattle.std.specs.Borrow.{Bor}
use Rattle.csv.specs.Reading.{AreRecords, Ready, default_config, is_flexible, owned_rows_left, owned_rows_reader, reader_config, reader_state, reader_trim, source_of}
use Rattle.csv.specs.Records.{Row, fields_of}
use Rattle.csv.specs.declared.iter.ByteRecordsIntoIter.{ByteRecordsIntoIter}
use Rattle.csv.specs.declared.parser.State.{State}
use Rattle.csv.specs.declared.reader.Trim.TheVariants as trim
use Rattle.hw_tide.specs.declared.fault.TideFault.{TideFault}
use Rattle.hw_tide.specs.declared.fault.TideFault.TheVariants.{NoMemory}
use Rattle.hw_tide.specs.Table.{TideGives}

abbrev pub Records : Type 0
Records = ByteRecordsIntoIter (Bor (List ℕ))

-- a reader of these bytes, which takes records of any length and leaves their fields as they are
pub record IsAt (records : Records) (place : State) (text : List ℕ) : Type 0 where
  pub state : reader_state (owned_rows_reader records) ≡ place
  pub bytes : source_of (λ b. Some b.now) (owned_rows_reader records) ≡ Some text
  pub config : reader_config (owned_rows_reader records) ≡ default_config
  pub flexible : is_flexible (owned_rows_reader records) ≡ true
  pub plain : reader_trim (owned_rows_reader records) ≡ trim.None
  pub ready : Ready (owned_rows_reader records)
  pub some : 0 < owned_rows_left records

abbrev pub IsReading : Records → Type 0
IsReading records = (place : State) × (text : List ℕ) × IsAt records place text

-- these are all the records that are still to come
abbrev pub AreComing : Records → List (List (List ℕ)) → Type 0
AreComing records coming = (place : State) × (text : List ℕ) × IsAt records place text × AreRecords default_config place text coming

-- the first of the records to come was taken, or there was none; an error is only out of memory
abbrev pub Takes : Records → Result (Option Row) TideFault → Records → Type 0
Takes old (Ok None) new = AreComing old []
Takes old (Ok (Some row)) new = IsReading new × ((coming : List (List (List ℕ))) → AreComing new coming → AreComing old (fields_of row ∷ coming))
Takes old (Err fault) new = fault ≡ NoMemory

-- an answer that a function gives of the records to come; memory may run out at any time
abbrev pub ReadsComing : {X Y : Type 0} → (X → Y) → Records → (List (List (List ℕ)) → Result Y TideFault) → Result X TideFault → Type 0
ReadsComing view records read (Err NoMemory) = Unit {0}
ReadsComing view records read result = (coming : List (List (List ℕ))) × AreComing records coming × TideGives view result (read coming)
