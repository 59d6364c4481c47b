-- How a command over a day ends.
use Rattle.std.proofs.Common.{◌≡◌, ◌∙◌, ℕ, List, [], ◌∷◌, ◌++◌, length, map, take, None, inl, inr, refl, sym, ap, subst}
use Rattle.std.specs.List.{range_with_len}
use Rattle.hw_desk.specs.State.{DeskState}
use Rattle.hw_port_model.specs.Flattened.{flattened}
use Rattle.hw_port_model.specs.Numbers.{whole}
use Rattle.hw_report.specs.Reports.{Report, audit_end, whole_text}
use Rattle.hw_audit.specs.Audits.{Audited, in_state}
use Rattle.hw_audit.specs.Watching.{watched, after_all}
use Rattle.hw_audit.proofs.Ports.{none_port_broken_after}
use Rattle.hw_repair.specs.Written.{written_plan}
use Rattle.hw_audit.specs.Carried.{carried_plan}
use Rattle.hw_audit.proofs.Meeting.{keeps_the_day}
use Rattle.hw_command.specs.Carries.{Carries}
use Rattle.hw_command.specs.Ends.{Ends}
use Rattle.hw_command.specs.Works.{of_answer, speaks, ReadCauseOf, Works, last_report}
use Rattle.hw_command.specs.declared.status.Status.{Status}
use Rattle.hw_command.proofs.Begun.{answers}
use Rattle.hw_command.proofs.Stops.{stops_carries}
use Rattle.hw_command_audit.specs.AuditPort.{line_after, audit_reports, audit_answer, audit_port_task}
use Rattle.hw_command_audit.specs.CarryPort.{carry_answer, carry_port_task}
use Rattle.hw_command_audit.specs.Days.{ReadsDay, StopsAtDay, DayAnswer, day_inputs, day_task}
use Rattle.hw_command_audit.specs.Values.{AuditGives}
use Rattle.hw_command_audit.specs.declared.day.Day.{Day}
use Rattle.hw_command_audit.proofs.Fronts.{front_taken}
use Rattle.hw_command_audit.proofs.Lines.{starts, ends_last}

-- there is none
pub no_day : {x y z : DeskState} {r : Report} {s : Status} (answer : DayAnswer) (instance tides plan events : List ℕ) → StopsAtDay instance tides plan events x y r → Ends (r ∷ []) y z s → Carries (day_task answer instance tides plan events) x z s
no_day answer instance tides plan events h ends = stops_carries (day_task answer instance tides plan events) [] h refl (λ feed given. given) inl ends

-- its reports were sent, of which this is the last one
day_ends : {instance tides plan events : List ℕ} {x y z : DeskState} {day : Day} {s : Status} (answer : DayAnswer) (first : Report) (more : List Report) (last : Report) (read : ReadsDay instance tides plan events x y day) → last_report first more ≡ last → speaks last ≡ of_answer → ReadCauseOf x y last
    → answer.reports (flattened read.gives.port read.gives.tide) (watched read.gives.table) read.gives.happened ≡ first ∷ more → answer.Means read.gives.port read.gives.tide read.gives.table read.gives.happened → Ends (first ∷ more) y z s → Carries (day_task answer instance tides plan events) x z s
day_ends {instance = instance} {tides = tides} {plan = plan} {events = events} {x = x} {y = y} answer first more last read is_last own cause printed means ends = record {
  mid = y;
  reports = first ∷ more;
  works = subst (λ (r : Report). Works (day_inputs instance tides plan events) (AuditGives instance tides plan x.held) None x y r) (sym is_last) (answers None last own read.entered read.give cause);
  says = λ given. inr (record { day = read.gives; printed = sym printed; means = means });
  ends = ends;
}

pub audit_ends : {instance tides plan events : List ℕ} {x y z : DeskState} {day : Day} {s : Status} → ReadsDay instance tides plan events x y day → Ends (audit_reports day.audit.problem day.audit.state day.happened) y z s → Carries (audit_port_task instance tides plan events) x z s
audit_ends {y = y} {z = z} {s = s} read ends =
    let d = read.gives in
    let f = flattened d.port d.tide in
    let state = watched d.table in
    let first = line_after f state d.happened 0 in
    let lines = map (line_after f state d.happened) (range_with_len 1 (length d.happened)) in
    let more = lines ++ audit_end ∷ [] in
    let start : audit_reports f state d.happened ≡ first ∷ more = starts f state d.happened in
    let last : last_report first more ≡ audit_end = ends_last first lines in
    let sent : Ends (audit_reports f state d.happened) y z s = subst (λ (v : Day). Ends (audit_reports v.audit.problem v.audit.state v.happened) y z s) read.is ends in
    day_ends audit_answer first more audit_end read last refl read.read_faults start
    (λ n le. none_port_broken_after d.port d.tide 2 d.table (take n d.happened) d.reads.kept d.planned.listed (front_taken f (whole d.port.fleet) 2 state d.happened n d.taken))
    (subst (λ (rs : List Report). Ends rs y z s) start sent)

pub carry_ends : {instance tides plan events : List ℕ} {x y z : DeskState} {day : Day} {s : Status} (now : Audited) → ReadsDay instance tides plan events x y day → now ≡ in_state day.audit (after_all day.audit.state day.happened)
    → Ends (whole_text (written_plan (carried_plan day.table now.state)) ∷ []) y z s → Carries (carry_port_task instance tides plan events) x z s
carry_ends {day = day} now read is ends =
    let d = read.gives in
    let report = whole_text (written_plan (carried_plan day.table now.state)) in
    let by_state = ap (λ (a : Audited). whole_text (written_plan (carried_plan day.table a.state)) ∷ []) is in
    let by_day = ap (λ (v : Day). whole_text (written_plan (carried_plan v.table (after_all v.audit.state v.happened))) ∷ []) read.is in
    day_ends carry_answer report [] report read refl refl read.read_faults (sym (by_state ∙ by_day)) (λ other. keeps_the_day d.port d.tide 2 d.table d.happened other d.reads.kept d.planned.listed d.taken) ends
