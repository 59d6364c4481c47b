-- Commands that begin with an instance and its tide table.
use Rattle.std.proofs.Common.{◌≡◌, ◌∙◌, ℕ, List, [], ◌∷◌, length, Option, None, Result, Ok, Err, refl, ap, subst}
use Rattle.std.specs.Prelude.{IfSome, Vec}
use Rattle.std.specs.declared.alloc.Global.{Global}
use Rattle.hw_desk.specs.State.{DeskState}
use Rattle.hw_desk.specs.declared.desk.Feed.TheVariants.{Instance, Tides}
use Rattle.hw_flat.specs.TextWritten.{IsWritable}
use Rattle.hw_model.specs.Limits.{IsFlat}
use Rattle.hw_model.specs.Problem.{Problem}
use Rattle.hw_port.specs.declared.fault.PortFault.{PortFault}
use Rattle.hw_port.specs.Whole.{Parts}
use Rattle.hw_port.specs.Kept.{PortKept}
use Rattle.hw_read.specs.Instance.{PortReads as ReadsPort}
use Rattle.hw_tide.specs.Levels.{IsTide, TideParts}
use Rattle.hw_tide.specs.Whole.{TideReads as ReadsHeights, tide_by_header, waypoint_names}
use Rattle.hw_tide.specs.declared.fault.TideFault.{TideFault}
use Rattle.hw_port_model.specs.Alike.{IsSameProblem}
use Rattle.hw_port_model.specs.Flattened.{flattened}
use Rattle.hw_report.specs.Reports.{Report, bad_json, bad_field, bad_tides, too_long, no_memory}
use Rattle.hw_command.specs.Inputs.{ReadsInput, StopsFor}
use Rattle.hw_command.specs.PortInputs.{ReadsInstance, ReadsTide, NoPort, ReadsPortProblem, StopsAtPort, report_of_instance, report_of_tide}
use Rattle.hw_command.specs.Scope.{Entered, named_feed}
use Rattle.hw_command.specs.Values.{ReadsTideTable, IsPortOf, GivesPort, GivesTide}
use Rattle.hw_command.specs.declared.port_input.InstanceStop.{InstanceStop}
use Rattle.hw_command.specs.declared.port_input.InstanceStop.TheVariants as instances
use Rattle.hw_command.specs.declared.port_input.TideStop.{TideStop}
use Rattle.hw_command.specs.declared.port_input.TideStop.TheVariants as tables
use Rattle.hw_command.proofs.Begun.{entered_none, entered_on, input_stops, refuses, wants_memory}
use Rattle.hw_command.proofs.FlatForms.{of_whole}

-- what was read as a tide within the limits is the tide of the table
pub reads_tide : {name : List ℕ} {x y : DeskState} {v : Vec ℕ Global} {p : Parts} {t : TideParts} → ReadsInput Tides name x y (Ok v) → ReadsHeights v.items (tide_by_header (waypoint_names p)) (Ok t) → IsTide t → t.columns ≡ length p.waypoints → ReadsTide p name x y (Ok t)
reads_tide {name = name} {x = x} {v = v} {p = p} {t = t} h reads limits columns = record {
  enters = h.enters;
  answer = (limits, columns, of_whole (λ bytes. ReadsHeights bytes (tide_by_header (waypoint_names p)) (Ok t)) (x.held name) v.items h.answer.0 reads, h.answer.1);
}

-- what was read as a port that keeps the meaning rules is the port of the instance
pub reads_instance : {name : List ℕ} {x y : DeskState} {v : Vec ℕ Global} {p : Parts} → ReadsInput Instance name x y (Ok v) → ReadsPort v.items (Ok p) → PortKept p → ReadsInstance name x y (Ok p)
reads_instance {name = name} {x = x} {v = v} {p = p} h reads kept = record {
  enters = h.enters;
  answer = (kept, of_whole (λ bytes. ReadsPort bytes (Ok p)) (x.held name) v.items h.answer.0 reads, h.answer.1);
}

-- the instance was begun
instance_entered : {name : List ℕ} {x y : DeskState} {r : Result Parts InstanceStop} → ReadsInstance name x y r → Entered (named_feed Instance name ∷ []) x y
instance_entered {x = x} h = entered_on [] (entered_none x) h.enters refl

-- the instance gives the port
pub gives_port : {name : List ℕ} {x y : DeskState} {p : Parts} → ReadsInstance name x y (Ok p) → GivesPort (x.held name)
gives_port {p = p} h = record { port = p; kept = h.answer.0; reads = h.answer.1 }

-- both were begun
port_entered : {name table : List ℕ} {x y z : DeskState} {p : Parts} {r : Result TideParts TideStop} → ReadsInstance name x y (Ok p) → ReadsTide p table y z r → Entered (named_feed Instance name ∷ named_feed Tides table ∷ []) x z
port_entered {name = name} h k = entered_on (named_feed Instance name ∷ []) (instance_entered h) k.enters refl

-- what is held is as it was before the instance was read
table_held : {name table : List ℕ} {x y : DeskState} {r : Result Parts InstanceStop} → ReadsInstance name x y r → y.held table ≡ x.held table
table_held {table = table} h = ap (λ held. held table) h.enters.only.held

-- the instance gives no port
pub instance_stops : {name table : List ℕ} {x y : DeskState} (stop : InstanceStop) → ReadsInstance name x y (Err stop) → StopsAtPort name table x y (report_of_instance stop)
instance_stops {name = name} {table = table} {x = x} (instances.Input stop) h = input_stops x [] Instance name (named_feed Tides table ∷ []) stop (λ long. long) refl (instance_entered h) tt refl h.answer
instance_stops {name = name} {table = table} instances.NotJson h = record {
  works = refuses None [] (named_feed Instance name) (named_feed Tides table ∷ []) bad_json refl refl (instance_entered h) tt h.answer.1;
  early = λ e. absurd (cc);
  why = λ own. h.answer.0;
}
instance_stops {name = name} {table = table} (instances.Field fault) h = record {
  works = refuses None [] (named_feed Instance name) (named_feed Tides table ∷ []) (bad_field fault) refl refl (instance_entered h) tt h.answer.1;
  early = λ e. absurd (cc);
  why = λ own. h.answer.0;
}

-- the table gives no tide
pub table_stops : {name table : List ℕ} {x y z : DeskState} {p : Parts} (stop : TideStop) → ReadsInstance name x y (Ok p) → ReadsTide p table y z (Err stop) → StopsAtPort name table x z (report_of_tide stop)
table_stops {name = name} {table = table} {y = y} {z = z} (tables.Input stop) h k = input_stops y (named_feed Instance name ∷ []) Tides table [] stop (λ long. (gives_port h, long)) refl (port_entered h k) (gives_port h, tt) h.answer.2 (subst (λ (told : Option (List ℕ)). StopsFor told y z stop) (table_held h) k.answer)
table_stops {name = name} {table = table} {p = p} (tables.Table fault) h k = record {
  works = refuses None (named_feed Instance name ∷ []) (named_feed Tides table) [] (bad_tides fault) refl refl (port_entered h k) (gives_port h, tt) (k.answer.2 ∙ h.answer.2);
  early = λ e. absurd (cc);
  why = λ own. record {
    port = p;
    kept = h.answer.0;
    instance_reads = h.answer.1;
    is_fault = k.answer.0;
    table_reads = subst (λ (told : Option (List ℕ)). IfSome told (ReadsTideTable p (Err fault))) (table_held h) k.answer.1;
  };
}

-- memory ran out for the flat problem
pub memory_stops : {name table : List ℕ} {x y z : DeskState} {p : Parts} {t : TideParts} → ReadsInstance name x y (Ok p) → ReadsTide p table y z (Ok t) → StopsAtPort name table x z no_memory
memory_stops {name = name} {table = table} h k = record {
  works = wants_memory None (named_feed Instance name ∷ named_feed Tides table ∷ []) [] refl (port_entered h k) (gives_port h, tt) (k.answer.3 ∙ h.answer.2);
  early = λ e. absurd (cc);
  why = λ own. absurd (cc);
}

-- the instance and the table give the port with its tide
pub gives_tide : {name table : List ℕ} {x y : DeskState} {p : Parts} {t : TideParts} {f : Problem} → ReadsPortProblem name table x y p t f → GivesTide (x.held name) (x.held table)
gives_tide {p = p} {t = t} h = record { port = p; tide = t; reads = h.port }

-- and the instance gives the port
pub port_given : {name table : List ℕ} {x y : DeskState} {p : Parts} {t : TideParts} {f : Problem} → ReadsPortProblem name table x y p t f → GivesPort (x.held name)
port_given {p = p} h = record { port = p; kept = h.port.kept; reads = h.port.instance_reads }

-- what such a report says, by the five that have a cause of their own
pub by_fault : (instance table : Option (List ℕ)) (P : Report → Type 0) (r : Report) → (NoPort instance table bad_json → P bad_json) → ((fault : PortFault) → NoPort instance table (bad_field fault) → P (bad_field fault)) → ((fault : TideFault) → NoPort instance table (bad_tides fault) → P (bad_tides fault)) → (NoPort instance table (too_long Instance) → P (too_long Instance)) → (NoPort instance table (too_long Tides) → P (too_long Tides)) → NoPort instance table r → P r
by_fault instance table P bad_json json field tides long too h = json h
by_fault instance table P (bad_field fault) json field tides long too h = field fault h
by_fault instance table P (bad_tides fault) json field tides long too h = tides fault h
by_fault instance table P (too_long Instance) json field tides long too h = long h
by_fault instance table P (too_long Tides) json field tides long too h = too h
by_fault instance table P r json field tides long too h = absurd h

-- the port with its tide
pub is_port : {name table : List ℕ} {x y z : DeskState} {p : Parts} {t : TideParts} → ReadsInstance name x y (Ok p) → ReadsTide p table y z (Ok t) → IsPortOf (x.held name) (x.held table) p t
is_port {p = p} {t = t} h k = record {
  kept = h.answer.0;
  limits = k.answer.0;
  columns = k.answer.1;
  instance_reads = h.answer.1;
  table_reads = subst (λ (told : Option (List ℕ)). IfSome told (ReadsTideTable p (Ok t))) (table_held h) k.answer.2;
}

-- the port with its tide and its flat problem
pub reads_problem : {name table : List ℕ} {x y z : DeskState} {p : Parts} {t : TideParts} {f : Problem} → ReadsInstance name x y (Ok p) → ReadsTide p table y z (Ok t) → f ≡ flattened p t → IsFlat f → IsWritable f → IsSameProblem p t f → ReadsPortProblem name table x z p t f
reads_problem h k problem limits writable same = record {
  entered = port_entered h k;
  read_faults = k.answer.3 ∙ h.answer.2;
  port = is_port h k;
  problem = problem;
  limits = limits;
  writable = writable;
  same = same;
}
