-- Reading an input.
use Rattle.std.specs.Prelude.{◌≡◌, ◌≤◌, ℕ, List, [], ◌∷◌, true, Option, Result, Ok, Err, IfSome, length, Vec}
use Rattle.std.specs.declared.alloc.Global.{Global}
use Rattle.hw_model.specs.Limits.{IsFlat}
use Rattle.hw_model.specs.Problem.{Problem}
use Rattle.hw_desk.specs.Calls.{OnlyFeed}
use Rattle.hw_desk.specs.State.{DeskState, Rose}
use Rattle.hw_desk.specs.declared.desk.Feed.{Feed}
use Rattle.hw_desk.specs.declared.desk.Feed.TheVariants as feeds
use Rattle.hw_desk.specs.declared.whole.ReadStop.{ReadStop}
use Rattle.hw_desk.specs.declared.whole.ReadStop.TheVariants as stops
use Rattle.hw_flat.specs.Text.{flat_text}
use Rattle.hw_flat.specs.TextWritten.{IsWritable}
use Rattle.hw_flat.specs.declared.fault.FlatFault.{FlatFault}
use Rattle.hw_flat.specs.declared.fault.FlatFault.TheVariants as faults
use Rattle.hw_flat.specs.declared.fault.FlatWord.{FlatWord}
use Rattle.hw_report.specs.Reports.{Report, bad_flat, read_fault, too_long, no_memory}
use Rattle.hw_command.specs.Scope.{Entered, named_feed}
use Rattle.hw_command.specs.Values.{most_bytes, IsLong, IsProblemText, FlatGives}
use Rattle.hw_command.specs.Works.{StopsReading}

-- an input is begun under its name, and nothing else is touched
pub record Enters (feed : Feed) (name : List ℕ) (old new : DeskState) : Type 0 where
  pub only : OnlyFeed feed old new
  pub begun : (new.feeds feed).begun ≡ true
  pub named : IfSome (new.feeds feed).name (λ n. n ≡ name)

-- why an input isn't read to its end: a fault has its cause, and otherwise no read failed
abbrev pub StopsFor : Option (List ℕ) → DeskState → DeskState → ReadStop → Type 0
StopsFor told old new stops.Fault = Rose old.read_faults new.read_faults
StopsFor told old new stops.TooLong = IfSome told IsLong × (new.read_faults ≡ old.read_faults)
StopsFor told old new stops.NoMemory = new.read_faults ≡ old.read_faults

-- the bytes that were read are all those that are told, and keep the limit
abbrev pub IsWholeOf : Option (List ℕ) → List ℕ → Type 0
IsWholeOf told bytes = IfSome told (λ all. all ≡ bytes) × (length bytes ≤ most_bytes)

abbrev pub InputAnswer : Option (List ℕ) → DeskState → DeskState → Result (Vec ℕ Global) ReadStop → Type 0
InputAnswer told old new (Ok v) = IsWholeOf told v.items × (new.read_faults ≡ old.read_faults)
InputAnswer told old new (Err stop) = StopsFor told old new stop

-- an input is begun under its name and read to its end
pub record ReadsInput (feed : Feed) (name : List ℕ) (old new : DeskState) (result : Result (Vec ℕ Global) ReadStop) : Type 0 where
  pub enters : Enters feed name old new
  pub answer : InputAnswer (old.held name) old new result

-- the bytes keep the limit, and this is their first bad line
abbrev pub IsBadAt : ℕ → FlatWord → List ℕ → Type 0
IsBadAt number word bytes = (length bytes ≤ most_bytes) × (flat_text bytes ≡ Err (record { number = number; word = word }))

-- the text was begun and no read failed: a problem within the limits, which has a text, and that of the bytes held under the name, where they are told
pub record ReadsFlat (name : List ℕ) (old new : DeskState) (f : Problem) : Type 0 where
  pub entered : Entered (named_feed feeds.Flat name ∷ []) old new
  pub read_faults : new.read_faults ≡ old.read_faults
  pub limits : IsFlat f
  pub writable : IsWritable f
  pub reads : IfSome (old.held name) (IsProblemText f)

-- what a report says of a text that gives no problem, where it is told. No other is given
abbrev pub NoFlat : Option (List ℕ) → Report → Type 0
NoFlat text (bad_flat number word) = IfSome text (IsBadAt number word)
NoFlat text (too_long feeds.Flat) = IfSome text IsLong
NoFlat text _ = ⊥

-- why there is no problem
abbrev pub StopsAtFlat : List ℕ → DeskState → DeskState → Report → Type 0
StopsAtFlat name old new r = StopsReading (named_feed feeds.Flat name ∷ []) (FlatGives name old.held) (NoFlat (old.held name)) old new r

-- the report of an input that isn't read to its end
abbrev pub report_of_stop : Feed → ReadStop → Report
report_of_stop feed stops.Fault = read_fault feed
report_of_stop feed stops.TooLong = too_long feed
report_of_stop feed stops.NoMemory = no_memory

-- the report of bytes that give no problem
abbrev pub report_of_fault : FlatFault → Report
report_of_fault (faults.Line number word) = bad_flat number word
report_of_fault faults.NoMemory = no_memory
