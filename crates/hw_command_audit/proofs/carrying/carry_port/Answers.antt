use Rattle.std.proofs.Common.{◌≡◌, List, subst}
use Rattle.hw_audit.specs.Audits.{in_state}
use Rattle.hw_audit.specs.Watching.{after_all}
use Rattle.hw_audit.specs.declared.event.PortEvent.{PortEvent}
use Rattle.hw_command_audit.specs.CarryPort.{carry_answer}
use Rattle.hw_command_audit.proofs.Ended.{no_day, carry_ends}
use Rattle.hw_command_audit.proofs.carrying.carry_port.Goals as goal

pub returns-in-Ok : goal.returns-in-Ok
returns-in-Ok g c =
    let day = c.in-Ok.day in
    let now = c.take_all.new.audit in
    let taken = subst (λ (events : List PortEvent). now ≡ in_state day.audit (after_all day.audit.state events)) c.happened.view_is (rw c.deref.ensures.value at c.take_all.ensures) in
    carry_ends now c.in-Ok.ensures.read taken c.send_plan.ensures

pub returns-in-Err : goal.returns-in-Err
returns-in-Err g c = no_day carry_answer c.args.port.instance.now c.args.port.tides.now c.args.plan.now c.args.events.now c.in-Err.ensures.stops c.finish.ensures
