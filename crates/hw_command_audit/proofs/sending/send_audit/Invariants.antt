use Rattle.std.proofs.Common.{◌≡◌, ◌+◌, take}
use Rattle.hw_desk.specs.Calls.{Sends}
use Rattle.hw_desk.specs.declared.desk.Tray.TheVariants.{Report}
use Rattle.hw_audit.specs.Audits.{in_state}
use Rattle.hw_audit.specs.Watching.{after_all}
use Rattle.hw_command.specs.Ends.{reports_text}
use Rattle.hw_command_audit.proofs.Lines.{first_lines}
use Rattle.hw_command_audit.proofs.sending.send_audit.Given as goal

abbrev pub invariant-loop-place : goal.invariant-loop-place
invariant-loop-place g l =
    let state = g.D.Desk.state in
    let a = l.fn.audit in
    record {
      stands : l.audit ≡ in_state a (after_all a.state (take l.place l.events));
      sent : Sends Report (reports_text (first_lines a.problem a.state l.events (l.place + 1))) (state l.fn.desk) (state l.desk);
      kept : (state l.desk).write_faults ≡ (state l.fn.desk).write_faults;
    }
