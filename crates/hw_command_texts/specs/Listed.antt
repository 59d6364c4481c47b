-- The text of what is listed.
use Rattle.std.specs.Prelude.{◌≡◌, ℕ, List, Vec, Result, Ok, Err, length, option_map, ⊤}
use Rattle.std.specs.declared.alloc.Global.{Global}
use Rattle.hw_model.specs.declared.memory.NoMemory.{NoMemory}
use Rattle.hw_port_windows.specs.Windows.{windows_text}
use Rattle.hw_report.specs.Reports.{Report, whole_text, no_memory}
use Rattle.hw_subject.specs.Reading.{naming_of}
use Rattle.hw_subject.specs.declared.source.Named.{Named}
use Rattle.hw_subject.specs.declared.source.Named.TheVariants.{ByNumber, ByName}
use Rattle.hw_command_texts.specs.Listings.{programme_text}
use Rattle.hw_command_texts.specs.Tables.{listing_table}
use Rattle.hw_command_texts.specs.declared.listing.Listing.{Listing}
use Rattle.hw_command_texts.specs.declared.listing.Listing.TheVariants.{Windows, Model, Table}

abbrev pub listing_text : Listing → List ℕ
listing_text (Windows port tide) = windows_text port.now tide.now
listing_text (Model flat format) = programme_text format flat.now
listing_text (Table named table) = listing_table (naming_of named.now) (option_map (λ t. t.now) table)

-- a tide has a column for each waypoint of its port
abbrev pub HasTable : Named → Type 0
HasTable ByNumber = ⊤
HasTable (ByName port tide) = tide.columns ≡ length port.waypoints

abbrev pub CanList : Listing → Type 0
CanList (Windows port tide) = tide.now.columns ≡ length port.now.waypoints
CanList (Table named table) = HasTable named.now
CanList listing = ⊤

-- the report of a text that is made in memory before it is sent
abbrev pub text_report : Result (Vec ℕ Global) NoMemory → Report
text_report (Ok text) = whole_text text.items
text_report (Err stop) = no_memory
