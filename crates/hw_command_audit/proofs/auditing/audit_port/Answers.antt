use Rattle.std.proofs.Common.{List, subst}
use Rattle.hw_audit.specs.declared.event.PortEvent.{PortEvent}
use Rattle.hw_command.specs.Ends.{Ends}
use Rattle.hw_command_audit.specs.AuditPort.{audit_answer, audit_reports}
use Rattle.hw_command_audit.proofs.Ended.{no_day, audit_ends}
use Rattle.hw_command_audit.proofs.auditing.audit_port.Goals as goal

pub returns-in-Ok : goal.returns-in-Ok
returns-in-Ok g c =
    let day = c.in-Ok.day in
    let sent = subst (λ (events : List PortEvent). Ends (audit_reports day.audit.problem day.audit.state events) (g.D.Desk.state c.read_day.new.desk) (g.D.Desk.state c.send_audit.new.desk) c.send_audit.result) c.happened.view_is (rw c.deref.ensures.value at c.send_audit.ensures) in
    audit_ends c.in-Ok.ensures.read sent

pub returns-in-Err : goal.returns-in-Err
returns-in-Err g c = no_day audit_answer c.args.port.instance.now c.args.port.tides.now c.args.plan.now c.args.events.now c.in-Err.ensures.stops c.finish.ensures
