-- Reading a port: its instance, and then its tide table.
use Rattle.std.specs.Prelude.{◌≡◌, ◌≢◌, ℕ, List, [], ◌∷◌, Option, Result, Ok, Err, IfSome, length}
use Rattle.hw_model.specs.Limits.{IsFlat}
use Rattle.hw_model.specs.Problem.{Problem}
use Rattle.hw_desk.specs.State.{DeskState}
use Rattle.hw_desk.specs.declared.desk.Feed.TheVariants.{Instance, Tides}
use Rattle.hw_desk.specs.declared.whole.ReadStop.TheVariants as stops
use Rattle.hw_flat.specs.TextWritten.{IsWritable}
use Rattle.hw_port.specs.Kept.{PortKept}
use Rattle.hw_port.specs.Whole.{Parts}
use Rattle.hw_read.specs.declared.fault.ReadFault.{ReadFault}
use Rattle.hw_read.specs.declared.fault.ReadFault.TheVariants as read
use Rattle.hw_tide.specs.Levels.{IsTide, TideParts}
use Rattle.hw_tide.specs.declared.fault.TideFault.{TideFault}
use Rattle.hw_tide.specs.declared.fault.TideFault.TheVariants as tide
use Rattle.hw_port_model.specs.Alike.{IsSameProblem}
use Rattle.hw_port_model.specs.Flattened.{flattened}
use Rattle.hw_report.specs.Reports.{Report, bad_json, bad_field, bad_tides, too_long}
use Rattle.hw_command.specs.Inputs.{Enters, StopsFor, report_of_stop}
use Rattle.hw_command.specs.Scope.{Entered, named_feed}
use Rattle.hw_command.specs.Values.{IsLong, IsInstance, ReadsTideTable, IsPortOf, GivesPort, PortGives}
use Rattle.hw_command.specs.Works.{StopsReading}
use Rattle.hw_command.specs.declared.port_input.InstanceStop.{InstanceStop}
use Rattle.hw_command.specs.declared.port_input.InstanceStop.TheVariants as instances
use Rattle.hw_command.specs.declared.port_input.PortNames.{PortNames}
use Rattle.hw_command.specs.declared.port_input.PortProblem.{PortProblem}
use Rattle.hw_command.specs.declared.port_input.TideStop.{TideStop}
use Rattle.hw_command.specs.declared.port_input.TideStop.TheVariants as tables

-- why bytes are no instance
abbrev pub stop_of_instance : ReadFault → InstanceStop
stop_of_instance read.NotJson = instances.NotJson
stop_of_instance (read.Field fault) = instances.Field fault
stop_of_instance read.NoMemory = instances.Input stops.NoMemory

-- why bytes are no tide table
abbrev pub stop_of_tide : TideFault → TideStop
stop_of_tide (tide.Header column) = tables.Table (tide.Header column)
stop_of_tide (tide.Length row) = tables.Table (tide.Length row)
stop_of_tide (tide.Field row column) = tables.Table (tide.Field row column)
stop_of_tide tide.Few = tables.Table tide.Few
stop_of_tide tide.NoMemory = tables.Input stops.NoMemory

-- a port that keeps the meaning rules, and that of the bytes held under the name, where they are told; or why there is none
abbrev pub InstanceAnswer : Option (List ℕ) → DeskState → DeskState → Result Parts InstanceStop → Type 0
InstanceAnswer told old new (Ok p) = PortKept p × IfSome told (IsInstance (Ok p)) × (new.read_faults ≡ old.read_faults)
InstanceAnswer told old new (Err instances.NotJson) = IfSome told (IsInstance (Err read.NotJson)) × (new.read_faults ≡ old.read_faults)
InstanceAnswer told old new (Err (instances.Field fault)) = IfSome told (IsInstance (Err (read.Field fault))) × (new.read_faults ≡ old.read_faults)
InstanceAnswer told old new (Err (instances.Input stop)) = StopsFor told old new stop

-- the instance is begun under its name, read to its end and parsed
pub record ReadsInstance (name : List ℕ) (old new : DeskState) (result : Result Parts InstanceStop) : Type 0 where
  pub enters : Enters Instance name old new
  pub answer : InstanceAnswer (old.held name) old new result

-- a tide within the limits, with as many columns as the port has waypoints, and that of the bytes held under the name, where they are told; or why there is none
abbrev pub TideAnswer : Parts → Option (List ℕ) → DeskState → DeskState → Result TideParts TideStop → Type 0
TideAnswer p told old new (Ok h) = IsTide h × (h.columns ≡ length p.waypoints) × IfSome told (ReadsTideTable p (Ok h)) × (new.read_faults ≡ old.read_faults)
TideAnswer p told old new (Err (tables.Table fault)) = (fault ≢ tide.NoMemory) × IfSome told (ReadsTideTable p (Err fault)) × (new.read_faults ≡ old.read_faults)
TideAnswer p told old new (Err (tables.Input stop)) = StopsFor told old new stop

-- the tide table of a port is begun under its name, read to its end and parsed
pub record ReadsTide (p : Parts) (name : List ℕ) (old new : DeskState) (result : Result TideParts TideStop) : Type 0 where
  pub enters : Enters Tides name old new
  pub answer : TideAnswer p (old.held name) old new result

-- the report of an instance that gives no port
abbrev pub report_of_instance : InstanceStop → Report
report_of_instance (instances.Input stop) = report_of_stop Instance stop
report_of_instance instances.NotJson = bad_json
report_of_instance (instances.Field fault) = bad_field fault

-- the report of a table that gives no tide
abbrev pub report_of_tide : TideStop → Report
report_of_tide (tables.Input stop) = report_of_stop Tides stop
report_of_tide (tables.Table fault) = bad_tides fault

-- the instance gives a port, of which the table gives no tide but this fault, each where it is told
pub record IsBadTable (instance table : Option (List ℕ)) (fault : TideFault) : Type 0 where
  pub port : Parts
  pub kept : PortKept port
  pub instance_reads : IfSome instance (IsInstance (Ok port))
  pub is_fault : fault ≢ tide.NoMemory
  pub table_reads : IfSome table (ReadsTideTable port (Err fault))

-- what a report says of an instance and a table that give no port with its tide, each where it is told. For the same told bytes at most one report but `memory` is right, and nothing else is printed
abbrev pub NoPort : Option (List ℕ) → Option (List ℕ) → Report → Type 0
NoPort instance table bad_json = IfSome instance (IsInstance (Err read.NotJson))
NoPort instance table (bad_field fault) = IfSome instance (IsInstance (Err (read.Field fault)))
NoPort instance table (bad_tides fault) = IsBadTable instance table fault
NoPort instance table (too_long Instance) = IfSome instance IsLong
NoPort instance table (too_long Tides) = GivesPort instance × IfSome table IsLong
NoPort instance table _ = ⊥

-- both inputs were begun and no read failed: a port with its tide, and its flat problem, which has a text and says what the port says
pub record ReadsPortProblem (instance table : List ℕ) (old new : DeskState) (p : Parts) (h : TideParts) (f : Problem) : Type 0 where
  pub entered : Entered (named_feed Instance instance ∷ named_feed Tides table ∷ []) old new
  pub read_faults : new.read_faults ≡ old.read_faults
  pub port : IsPortOf (old.held instance) (old.held table) p h
  pub problem : f ≡ flattened p h
  pub limits : IsFlat f
  pub writable : IsWritable f
  pub same : IsSameProblem p h f

-- why there is no port with its tide
abbrev pub StopsAtPort : List ℕ → List ℕ → DeskState → DeskState → Report → Type 0
StopsAtPort instance table old new r = StopsReading (named_feed Instance instance ∷ named_feed Tides table ∷ []) (PortGives instance table old.held) (NoPort (old.held instance) (old.held table)) old new r

-- the same, by the names and what was read
abbrev pub ReadsNamed : PortNames → DeskState → DeskState → PortProblem → Type 0
ReadsNamed names old new read = ReadsPortProblem names.instance.now names.tides.now old new read.port read.tide read.flat

abbrev pub StopsNamed : PortNames → DeskState → DeskState → Report → Type 0
StopsNamed names old new r = StopsAtPort names.instance.now names.tides.now old new r
