-- What a table says, in the words of the port's rules.
use Rattle.std.specs.Prelude.{◌≡◌, ◌↔◌, ◌⊎◌, ℕ, ◌<◌, ◌+◌, ◌*◌, ℤ, ◌≤ℤ◌, List, [], ◌∷◌, length, map, All, Contains, Option, Some, None, decimal, ⊤}
use Rattle.std.specs.Fmt.{signed_decimal}
use Rattle.csv.specs.Reading.{AreRecords, default_config, strip_bom}
use Rattle.csv.specs.declared.parser.State.TheVariants as st
use Rattle.hw_port.specs.Kept.{IsStart}
use Rattle.hw_port.specs.Parts.{ShipParts}
use Rattle.hw_port.specs.Whole.{Parts}
use Rattle.hw_tide.specs.Levels.{TideParts}
use Rattle.hw_port_model.specs.Numbers.{whole}
use Rattle.hw_port_model.specs.Drafts.{IsAllowedDraft, sailing_draft, ship_value}
use Rattle.hw_port_model.specs.Permitted.{PortPermits, Stays}
use Rattle.hw_port_model.specs.Timetables.{IsGiven, IsPortTimetable, SailsIn}
use Rattle.hw_draft.specs.Laws.{IsLimited}
use Rattle.hw_draft.specs.Passages.{under_keel, waypoint_name}
use Rattle.hw_port_dates.specs.declared.moment.Moment.{Moment}
use Rattle.hw_port_dates.specs.Moments.{IsMoment, minutes_of, start_of}
use Rattle.hw_port_dates.specs.Texts.{moment_text}
use Rattle.hw_port_csv.specs.Entries.{ShipEntry, entries}
use Rattle.hw_port_csv.specs.Fields.{tonnes_text}
use Rattle.hw_port_csv.specs.Sailings.{figure_fields, time_text}
use Rattle.hw_port_csv.specs.Tables.{course_fields, header, ship_record, whole_table_text}

-- ---- what is read of it

-- the records of a table: the header, and one for each ship of a timetable
abbrev pub all_records : Parts → TideParts → Option (List ℕ) → List (List (List ℕ))
all_records p h None = header p ∷ []
all_records p h (Some table) = header p ∷ map (ship_record p h) (entries p table)

-- a reader of CSV reads just these records, whatever the names are
abbrev pub TableReadsBack : Type 0
TableReadsBack = (p : Parts) (h : TideParts) (table : Option (List ℕ)) → AreRecords default_config st.StartRecord (strip_bom (whole_table_text p h table)) (all_records p h table)

-- each record has as many fields as the header
abbrev pub SameColumns : Type 0
SameColumns = (p : Parts) (h : TideParts) (e : ShipEntry) → length (ship_record p h e) ≡ length (header p)

-- ---- which ships, in which order

-- a lower slot, or a lower number where the slots are alike
abbrev pub EntryPrecedes : ShipEntry → ShipEntry → Type 0
EntryPrecedes e f = (e.slot < f.slot) ⊎ ((e.slot ≡ f.slot) × (e.number < f.number))

-- each precedes all after it
abbrev pub InOrder : List ShipEntry → Type 0
InOrder [] = ⊤
InOrder (e ∷ more) = All (EntryPrecedes e) more × InOrder more

-- the ships are those of the timetable, each once, by their slots
pub record ShipsInOrder : Type 0 where
  pub ordered : (p : Parts) (table : List ℕ) → InOrder (entries p table)
  pub told : (p : Parts) (table : List ℕ) (e : ShipEntry) → IsPortTimetable p table → (Contains (entries p table) e ↔ IsGiven p table e.number e.ship e.slot)

-- ---- when

-- a text is that of the date and time that stands some minutes after a start
pub record IsDated (start : List ℕ) (minutes : ℕ) (text : List ℕ) : Type 0 where
  pub moment : Moment
  pub exists : IsMoment moment
  pub later : minutes_of moment ≡ minutes_of (start_of start) + minutes
  pub written : text ≡ moment_text moment

-- a slot begins as many minutes after slot 0 as the slots before it have: told from the start of slot 0, or as a number where the port doesn't say when this is
pub record TimesAreTrue : Type 0 where
  pub dated : (p : Parts) (slot : ℕ) (start : List ℕ) → p.start ≡ Some start → IsStart start → IsDated start (slot * whole p.slot_minutes) (time_text p slot)
  pub counted : (p : Parts) (slot : ℕ) → p.start ≡ None → time_text p slot ≡ decimal (slot * whole p.slot_minutes)

-- ---- what is told of a ship

-- the sailing draft and the allowed one, the pass that limits this and its clearance, which is kept, and the cargo: these are in the fields
pub record IsToldOf (p : Parts) (h : TideParts) (s : ShipParts) (slot : ℕ) (fields : List (List ℕ)) : Type 0 where
  pub draft : ℤ
  pub sails : sailing_draft p h s slot ≡ Some draft
  pub most : ℤ
  pub allowed : IsAllowedDraft p h s slot most
  pub limited : IsLimited p h s slot most
  pub enough : limited.limit.clearance ≤ℤ under_keel limited.limit draft
  pub cargo : ℕ
  pub carries : ship_value p h s slot ≡ Some cargo
  pub told : fields ≡ decimal slot ∷ time_text p slot ∷ signed_decimal draft ∷ signed_decimal most ∷ waypoint_name p limited.limit.waypoint ∷ signed_decimal (under_keel limited.limit draft) ∷ signed_decimal limited.limit.clearance ∷ tonnes_text cargo ∷ []

-- of a timetable that the port permits: of each ship that sails this is told, and nothing of one that stays
pub record RecordsAreTrue : Type 0 where
  pub sails : (p : Parts) (h : TideParts) (table : List ℕ) (v slot : ℕ) (s : ShipParts) → PortPermits p h table → SailsIn p table v s slot → IsToldOf p h s slot (figure_fields (record { port = p; tide = h; number = v; ship = s; slot = slot }))
  pub stays : (p : Parts) (h : TideParts) (e : ShipEntry) → Stays p e.slot → All (λ field. field ≡ []) (course_fields p h e)
