-- A refusal after its hints, and the hints on what was read.
use Rattle.std.proofs.Common.{◌≡◌, ◌∙◌, ℕ, List, [], ◌∷◌, Option, None, Some, Result, Ok, Err, ap, false, inl, inr, refl, subst, sym}
use Rattle.std.specs.Prelude.{◌≢◌, IfOk, IfSome, Vec}
use Rattle.std.specs.declared.alloc.Global.{Global}
use Rattle.hw_model.specs.declared.memory.NoMemory.{NoMemory}
use Rattle.hw_desk.specs.State.{DeskState}
use Rattle.hw_desk.specs.Whole.{SendsText}
use Rattle.hw_desk.specs.declared.desk.Feed.{Feed}
use Rattle.hw_desk.specs.declared.desk.Feed.TheVariants.{Instance, Tides}
use Rattle.hw_desk.specs.declared.desk.Tray.TheVariants as tray
use Rattle.hw_desk.specs.declared.whole.ReadStop.{ReadStop}
use Rattle.hw_desk.specs.declared.whole.ReadStop.TheVariants as stops
use Rattle.hw_port.specs.Whole.{Parts}
use Rattle.hw_port.specs.declared.fault.PortFault.{PortFault}
use Rattle.hw_read.specs.Instance.{PortReads as ReadsPort}
use Rattle.hw_read.specs.declared.fault.ReadFault.{ReadFault}
use Rattle.hw_read.specs.declared.fault.ReadFault.TheVariants as read
use Rattle.hw_tide.specs.Levels.{TideParts}
use Rattle.hw_tide.specs.Whole.{TideReads as ReadsHeights, tide_by_header, waypoint_names}
use Rattle.hw_tide.specs.declared.fault.TideFault.{TideFault}
use Rattle.hw_tide.specs.declared.fault.TideFault.TheVariants as tide
use Rattle.hw_port_lint.specs.Instances.{IsBreak, IsFieldTold}
use Rattle.hw_port_lint.specs.Ports.{lint_text}
use Rattle.hw_port_lint.specs.Tables.{table_hints}
use Rattle.hw_report.specs.Reports.{Report, bad_json, bad_field, bad_tides, whole_text, no_memory}
use Rattle.hw_report.specs.Texts.{report_text}
use Rattle.hw_command.specs.Carries.{Carries}
use Rattle.hw_command.specs.Ends.{Ends}
use Rattle.hw_command.specs.Inputs.{ReadsInput, IsWholeOf, report_of_stop}
use Rattle.hw_command.specs.PortInputs.{NoPort, ReadsInstance, ReadsTide, StopsAtPort}
use Rattle.hw_command.specs.Scope.{Entered, named_feed}
use Rattle.hw_command.specs.Statuses.{status_of}
use Rattle.hw_command.specs.Works.{is_common}
use Rattle.hw_command.specs.declared.port_input.InstanceStop.TheVariants as instances
use Rattle.hw_command.specs.declared.port_input.TideStop.TheVariants as tables
use Rattle.hw_command.specs.declared.status.Status.{Status}
use Rattle.hw_command.specs.declared.status.Status.TheVariants.{WriteFault}
use Rattle.hw_command.proofs.Begun.{answers, entered_none, entered_on}
use Rattle.hw_command.proofs.Endings.{all_sent, cut_off, nothing_sent, sent_more}
use Rattle.hw_command.proofs.FlatForms.{of_whole}
use Rattle.hw_command.proofs.PortForms.{instance_stops, memory_stops, table_stops, gives_port, is_port}
use Rattle.hw_command.proofs.Stops.{stops_carries}
use Rattle.hw_command_texts.specs.Linted.{Refusal, RefusesInstance, RefusesTable, hinted_reports}
use Rattle.hw_command_texts.specs.Listed.{text_report}
use Rattle.hw_command_texts.specs.Lints.{HintsOf, LintsTexts, lint_task}

-- ---- two reports

pub first_cut : {E : Type 0} {x y : DeskState} {e : E} (a b : Report) → SendsText tray.Report (report_text a) x y (Err e) → Ends (a ∷ b ∷ []) x y WriteFault
first_cut {x = x} a b cut = cut_off (a ∷ b ∷ []) [] a (b ∷ []) refl (nothing_sent x) refl cut

pub second_cut : {E F : Type 0} {x y z : DeskState} {u : Unit {0}} {e : F} (a b : Report) → SendsText {E = E} tray.Report (report_text a) x y (Ok u) → SendsText tray.Report (report_text b) y z (Err e) → Ends (a ∷ b ∷ []) x z WriteFault
second_cut {x = x} a b h cut =
    let sent = sent_more [] a (nothing_sent x) refl h in
    cut_off (a ∷ b ∷ []) (a ∷ []) b [] refl sent.0 sent.1 cut

pub both_sent : {E F : Type 0} {x y z : DeskState} {u v : Unit {0}} {s : Status} (a b : Report) → s ≡ status_of b → SendsText {E = E} tray.Report (report_text a) x y (Ok u) → SendsText {E = F} tray.Report (report_text b) y z (Ok v) → Ends (a ∷ b ∷ []) x z s
both_sent {x = x} a b e h k =
    let one = sent_more [] a (nothing_sent x) refl h in
    let two = sent_more (a ∷ []) b one.0 one.1 k in
    all_sent a (b ∷ []) e two.0 two.1

-- the hints that were made, and the refusal
pub hinted_told : {x y : DeskState} {s : Status} {r : Report} (Hints : List ℕ → Type 0) (made : Result (Vec ℕ Global) NoMemory) → IfOk made (λ hints. Hints hints.items) → Ends (hinted_reports made r) x y s → Refusal Hints r x y s
hinted_told Hints (Ok hints) are ends = inl (record { hints = hints.items; are = are; ends = ends })
hinted_told Hints (Err stop) are ends = inr ends

-- ---- an input that isn't read to its end

input_says : (instance table : Option (List ℕ)) (feed : Feed) (stop : ReadStop) → NoPort instance table (report_of_stop feed stop) → LintsTexts instance table (report_of_stop feed stop ∷ [])
input_says instance table feed stops.Fault h = absurd h
input_says instance table feed stops.TooLong h = h
input_says instance table feed stops.NoMemory h = absurd h

stops_at : {name table : List ℕ} {x y z : DeskState} {s : Status} (feed : Feed) (stop : ReadStop) → StopsAtPort name table x y (report_of_stop feed stop) → Ends (report_of_stop feed stop ∷ []) y z s → Carries (lint_task name table) x z s
stops_at {name = name} {table = table} {x = x} feed stop h ends = stops_carries (lint_task name table) [] h refl (λ feed given. given) (input_says (x.held name) (x.held table) feed stop) ends

-- the instance was read to this stop
unread_instance : {name : List ℕ} {x y : DeskState} (stop : ReadStop) → ReadsInput Instance name x y (Err stop) → ReadsInstance name x y (Err (instances.Input stop))
unread_instance stop h = record { enters = h.enters; answer = h.answer }

pub instance_unread : {name table : List ℕ} {x y z : DeskState} {s : Status} (stop : ReadStop) → ReadsInput Instance name x y (Err stop) → Ends (report_of_stop Instance stop ∷ []) y z s → Carries (lint_task name table) x z s
instance_unread stop h ends = stops_at Instance stop (instance_stops (instances.Input stop) (unread_instance stop h)) ends

unread_table : {name : List ℕ} {x y : DeskState} (p : Parts) (stop : ReadStop) → ReadsInput Tides name x y (Err stop) → ReadsTide p name x y (Err (tables.Input stop))
unread_table p stop h = record { enters = h.enters; answer = h.answer }

pub table_unread : {name table : List ℕ} {x y z w : DeskState} {s : Status} {p : Parts} (stop : ReadStop) → ReadsInstance name x y (Ok p) → ReadsInput Tides table y z (Err stop) → Ends (report_of_stop Tides stop ∷ []) z w s → Carries (lint_task name table) x w s
table_unread {p = p} stop h k ends = stops_at Tides stop (table_stops (tables.Input stop) h (unread_table p stop k)) ends

-- ---- a refusal

-- what holds of the bytes that were read holds of those that are told
of_told : (P : List ℕ → Type 0) (told : Option (List ℕ)) (bytes : List ℕ) → IsWholeOf told bytes → P bytes → IfSome told P
of_told P None bytes h p = tt
of_told P (Some all) bytes h p = subst P (sym h.0) p

-- a refusal of the readers' own, after hints on the input
hinted_sent : {name table : List ℕ} {x y z : DeskState} {s : Status} (r : Report) (hints : List ℕ) → StopsAtPort name table x y r → is_common r ≡ false → HintsOf (x.held name) (x.held table) r hints → Ends (whole_text hints ∷ r ∷ []) y z s → Carries (lint_task name table) x z s
hinted_sent {y = y} r hints h own are ends = record {
  mid = y;
  reports = whole_text hints ∷ r ∷ [];
  works = h.works;
  says = λ e. (h.why own, are);
  ends = ends;
}

memory_sent : {name table : List ℕ} {x y z : DeskState} {s : Status} → StopsAtPort name table x y no_memory → Ends (no_memory ∷ []) y z s → Carries (lint_task name table) x z s
memory_sent {name = name} {table = table} h ends = stops_carries (lint_task name table) [] h refl (λ feed given. given) (λ why. absurd why) ends

-- the instance was read to its end, and is none
json_read : {name : List ℕ} {x y : DeskState} {v : Vec ℕ Global} → ReadsInput Instance name x y (Ok v) → ReadsPort v.items (Err read.NotJson) → ReadsInstance name x y (Err instances.NotJson)
json_read {name = name} {x = x} {v = v} h bad = record {
  enters = h.enters;
  answer = (of_whole (λ bytes. ReadsPort bytes (Err read.NotJson)) (x.held name) v.items h.answer.0 bad, h.answer.1);
}

field_read : {name : List ℕ} {x y : DeskState} {v : Vec ℕ Global} (fault : PortFault) → ReadsInput Instance name x y (Ok v) → ReadsPort v.items (Err (read.Field fault)) → ReadsInstance name x y (Err (instances.Field fault))
field_read {name = name} {x = x} {v = v} fault h bad = record {
  enters = h.enters;
  answer = (of_whole (λ bytes. ReadsPort bytes (Err (read.Field fault))) (x.held name) v.items h.answer.0 bad, h.answer.1);
}

memory_read : {name : List ℕ} {x y : DeskState} {v : Vec ℕ Global} → ReadsInput Instance name x y (Ok v) → ReadsInstance name x y (Err (instances.Input stops.NoMemory))
memory_read h = record { enters = h.enters; answer = h.answer.1 }

pub instance_refused : {name table : List ℕ} {x y z : DeskState} {v : Vec ℕ Global} {s : Status} (fault : ReadFault) → ReadsInput Instance name x y (Ok v) → ReadsPort v.items (Err fault) → RefusesInstance v.items fault y z s → Carries (lint_task name table) x z s
instance_refused {name = name} {x = x} {v = v} read.NotJson h bad (inl sent) = hinted_sent bad_json sent.hints (instance_stops instances.NotJson (json_read h bad)) refl (of_told (λ bytes. IsBreak bytes sent.hints) (x.held name) v.items h.answer.0 sent.are) sent.ends
instance_refused read.NotJson h bad (inr ends) = memory_sent (instance_stops (instances.Input stops.NoMemory) (memory_read h)) ends
instance_refused {name = name} {x = x} {v = v} (read.Field fault) h bad (inl sent) = hinted_sent (bad_field fault) sent.hints (instance_stops (instances.Field fault) (field_read fault h bad)) refl (of_told (λ bytes. IsFieldTold bytes fault sent.hints) (x.held name) v.items h.answer.0 sent.are) sent.ends
instance_refused (read.Field fault) h bad (inr ends) = memory_sent (instance_stops (instances.Input stops.NoMemory) (memory_read h)) ends
instance_refused read.NoMemory h bad ends = memory_sent (instance_stops (instances.Input stops.NoMemory) (memory_read h)) ends

-- what is held is as it was before the instance was read
table_held : {name table : List ℕ} {x y : DeskState} {p : Parts} → ReadsInstance name x y (Ok p) → y.held table ≡ x.held table
table_held {table = table} h = ap (λ held. held table) h.enters.only.held

table_read : {table : List ℕ} {y z : DeskState} {v : Vec ℕ Global} (p : Parts) (fault : TideFault) → fault ≢ tide.NoMemory → ReadsInput Tides table y z (Ok v) → ReadsHeights v.items (tide_by_header (waypoint_names p)) (Err fault) → ReadsTide p table y z (Err (tables.Table fault))
table_read {table = table} {y = y} {v = v} p fault other k bad = record {
  enters = k.enters;
  answer = (other, of_whole (λ bytes. ReadsHeights bytes (tide_by_header (waypoint_names p)) (Err fault)) (y.held table) v.items k.answer.0 bad, k.answer.1);
}

table_memory : {table : List ℕ} {y z : DeskState} {v : Vec ℕ Global} (p : Parts) → ReadsInput Tides table y z (Ok v) → ReadsTide p table y z (Err (tables.Input stops.NoMemory))
table_memory p k = record { enters = k.enters; answer = k.answer.1 }

bad_table : {name table : List ℕ} {x y z w : DeskState} {v : Vec ℕ Global} {s : Status} {p : Parts} (fault : TideFault) → fault ≢ tide.NoMemory → ReadsInstance name x y (Ok p) → ReadsInput Tides table y z (Ok v) → ReadsHeights v.items (tide_by_header (waypoint_names p)) (Err fault) → Refusal (λ hints. hints ≡ table_hints v.items) (bad_tides fault) z w s → Carries (lint_task name table) x w s
bad_table {table = table} {y = y} {v = v} {p = p} fault other h k bad (inl sent) =
    let told : IfSome (y.held table) (λ bytes. sent.hints ≡ table_hints bytes) = of_told (λ bytes. sent.hints ≡ table_hints bytes) (y.held table) v.items k.answer.0 sent.are in
    hinted_sent (bad_tides fault) sent.hints (table_stops (tables.Table fault) h (table_read p fault other k bad)) refl (subst (λ (o : Option (List ℕ)). IfSome o (λ bytes. sent.hints ≡ table_hints bytes)) (table_held h) told) sent.ends
bad_table {p = p} fault other h k bad (inr ends) = memory_sent (table_stops (tables.Input stops.NoMemory) h (table_memory p k)) ends

pub table_refused : {name table : List ℕ} {x y z w : DeskState} {v : Vec ℕ Global} {s : Status} {p : Parts} (fault : TideFault) → ReadsInstance name x y (Ok p) → ReadsInput Tides table y z (Ok v) → ReadsHeights v.items (tide_by_header (waypoint_names p)) (Err fault) → RefusesTable v.items fault z w s → Carries (lint_task name table) x w s
table_refused (tide.Header column) h k bad sent = bad_table (tide.Header column) (λ e. absurd (cc)) h k bad sent
table_refused (tide.Length row) h k bad sent = bad_table (tide.Length row) (λ e. absurd (cc)) h k bad sent
table_refused (tide.Field row column) h k bad sent = bad_table (tide.Field row column) (λ e. absurd (cc)) h k bad sent
table_refused tide.Few h k bad sent = bad_table tide.Few (λ e. absurd (cc)) h k bad sent
table_refused {p = p} tide.NoMemory h k bad ends = memory_sent (table_stops (tables.Input stops.NoMemory) h (table_memory p k)) ends

-- ---- both are read

both_entered : {name table : List ℕ} {x y z : DeskState} {p : Parts} {t : TideParts} → ReadsInstance name x y (Ok p) → ReadsTide p table y z (Ok t) → Entered (named_feed Instance name ∷ named_feed Tides table ∷ []) x z
both_entered {name = name} {x = x} h k = entered_on (named_feed Instance name ∷ []) (entered_on [] (entered_none x) h.enters refl) k.enters refl

pub hints_sent : {name table : List ℕ} {x y z w : DeskState} {v : Vec ℕ Global} {s : Status} {p : Parts} {t : TideParts} (text : Result (Vec ℕ Global) NoMemory) → ReadsInstance name x y (Ok p) → ReadsInput Tides table y z (Ok v) → ReadsTide p table y z (Ok t) → IfOk text (λ made. made.items ≡ lint_text p t.rows v.items) → Ends (text_report text ∷ []) z w s → Carries (lint_task name table) x w s
hints_sent {table = table} {y = y} {z = z} {v = v} {p = p} {t = t} (Ok made) h i k is ends = record {
  mid = z;
  reports = whole_text made.items ∷ [];
  works = answers None (whole_text made.items) refl (both_entered h k) (gives_port h, tt) (k.answer.3 ∙ h.answer.2);
  says = λ own. record { port = p; tide = t; reads = is_port h k; is_text = subst (λ (o : Option (List ℕ)). IfSome o (λ bytes. made.items ≡ lint_text p t.rows bytes)) (table_held h) (of_told (λ bytes. made.items ≡ lint_text p t.rows bytes) (y.held table) v.items i.answer.0 is) };
  ends = ends;
}
hints_sent (Err stop) h i k is ends = memory_sent (memory_stops h k) ends
