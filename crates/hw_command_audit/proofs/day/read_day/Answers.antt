use Rattle.std.proofs.Common.{List, Ok, Err, subst, sym}
use Rattle.hw_report.specs.Reports.{Report}
use Rattle.hw_audit.specs.Audits.{audited}
use Rattle.hw_audit.specs.declared.event.PortEvent.{PortEvent}
use Rattle.hw_command_audit.specs.Days.{StopsAtDay}
use Rattle.hw_command_audit.specs.Trying.{TriesEvents}
use Rattle.hw_command_audit.proofs.Days.{port_stops, table_stops, trial_stops, day_read}
use Rattle.hw_command_audit.proofs.Inputs.{port_table, plan_read, plan_stops, events_read, events_told, events_stop}
use Rattle.hw_command_audit.proofs.day.read_day.Goals as goal

pub returns-in-Err-clause-stops : goal.returns-in-Err-clause-stops
returns-in-Err-clause-stops g c = port_stops c.args.port.instance.now c.args.port.tides.now c.args.plan.now c.args.events.now c.in-Err.ensures.no_problem

pub returns-in-Err-read_plan-clause-stops : goal.returns-in-Err-read_plan-clause-stops
returns-in-Err-read_plan-clause-stops g c =
    let stops = plan_stops c.args.events.now c.in-Err-read_plan.stop c.in-Ok.ensures.problem (rw c.shape.ensures.value at c.in-Err-read_plan.ensures.reads) in
    let by = table_stops c.args.port.instance.now c.args.port.tides.now c.args.plan.now c.args.events.now stops in
    subst (λ (r : Report). StopsAtDay c.args.port.instance.now c.args.port.tides.now c.args.plan.now c.args.events.now (g.D.Desk.state c.args.desk.now) (g.D.Desk.state c.read_plan.new.desk) r) (sym c.no_text.ensures.value) by

pub returns-in-Err-read_happened-clause-stops : goal.returns-in-Err-read_happened-clause-stops
returns-in-Err-read_happened-clause-stops g c =
    let read = plan_read c.in-Ok.ensures.problem (rw c.shape.ensures.value at c.in-Ok-read_plan.ensures.reads) (rw c.shape.ensures.value at c.in-Ok-read_plan.ensures.each_ship) (rw c.shape.ensures.value at c.in-Ok-read_plan.ensures.each_slot) in
    let by = events_stop c.in-Err-read_happened.stop read c.in-Err-read_happened.ensures.reads in
    subst (λ (r : Report). StopsAtDay c.args.port.instance.now c.args.port.tides.now c.args.plan.now c.args.events.now (g.D.Desk.state c.args.desk.now) (g.D.Desk.state c.read_happened.new.desk) r) (sym c.no_text-in-Err-read_happened.ensures.value) by

pub try_events-requires-clause-listed : goal.try_events-requires-clause-listed
try_events-requires-clause-listed g c = port_table c.in-Ok.problem.tide c.in-Ok-read_plan.table c.in-Ok.ensures.problem.problem (rw c.shape.ensures.value at c.in-Ok-read_plan.ensures.each_ship) (rw c.shape.ensures.value at c.in-Ok-read_plan.ensures.each_slot)

pub returns-in-Ok-try_events-clause-read : goal.returns-in-Ok-try_events-clause-read
returns-in-Ok-try_events-clause-read g c =
    let read = plan_read c.in-Ok.ensures.problem (rw c.shape.ensures.value at c.in-Ok-read_plan.ensures.reads) (rw c.shape.ensures.value at c.in-Ok-read_plan.ensures.each_ship) (rw c.shape.ensures.value at c.in-Ok-read_plan.ensures.each_slot) in
    let all = events_read read c.in-Ok-read_happened.ensures.reads c.in-Ok-read_happened.ensures.reads.answer.1 in
    let first = audited c.in-Ok.problem.port c.in-Ok.problem.tide c.in-Ok-read_plan.table in
    let tries = subst (λ (events : List PortEvent). TriesEvents first events (Ok c.in-Ok-try_events.audit)) c.happened.view_is (rw c.deref.ensures.value at c.in-Ok-try_events.ensures) in
    day_read (record { table = c.in-Ok-read_plan.table; happened = c.in-Ok-read_happened.happened; audit = c.in-Ok-try_events.audit }) all (events_told read c.in-Ok-read_happened.ensures.reads) tries

pub returns-clause-stops : goal.returns-clause-stops
returns-clause-stops g c =
    let read = plan_read c.in-Ok.ensures.problem (rw c.shape.ensures.value at c.in-Ok-read_plan.ensures.reads) (rw c.shape.ensures.value at c.in-Ok-read_plan.ensures.each_ship) (rw c.shape.ensures.value at c.in-Ok-read_plan.ensures.each_slot) in
    let all = events_read read c.in-Ok-read_happened.ensures.reads c.in-Ok-read_happened.ensures.reads.answer.1 in
    let first = audited c.in-Ok.problem.port c.in-Ok.problem.tide c.in-Ok-read_plan.table in
    let stop = c.in-Err-try_events.stop in
    let tries = subst (λ (events : List PortEvent). TriesEvents first events (Err stop)) c.happened.view_is (subst (λ (events : List PortEvent). TriesEvents first events (Err stop)) c.deref.ensures.value c.in-Err-try_events.ensures) in
    let by = trial_stops c.in-Ok-read_happened.happened stop all (events_told read c.in-Ok-read_happened.ensures.reads) tries in
    subst (λ (r : Report). StopsAtDay c.args.port.instance.now c.args.port.tides.now c.args.plan.now c.args.events.now (g.D.Desk.state c.args.desk.now) (g.D.Desk.state c.read_happened.new.desk) r) (sym c.no_text-in-Err-try_events.ensures.value) by
