use Rattle.std.proofs.Common.{◌≡◌, ℕ, List, Err, subst}
use Rattle.std.specs.Prelude.{IfOk}
use Rattle.hw_read.specs.Instance.{PortReads as ReadsPort}
use Rattle.hw_tide.specs.Levels.{IsTide, TideParts}
use Rattle.hw_tide.specs.Whole.{TideReads as ReadsHeights, tide_by_header, waypoint_names}
use Rattle.hw_port_lint.specs.Ports.{lint_text}
use Rattle.hw_command.proofs.PortForms.{reads_instance, reads_tide}
use Rattle.hw_command_texts.specs.Linted.{RefusesInstance, RefusesTable}
use Rattle.hw_command_texts.proofs.Linting.{hints_sent, instance_refused, instance_unread, table_refused, table_unread}
use Rattle.hw_command_texts.proofs.lint.lint_port.Goals as goal

pub returns-in-Err : goal.returns-in-Err
returns-in-Err g c = instance_unread c.in-Err.stop c.in-Err.ensures (rw c.stopped.ensures.value at c.finish.ensures)

pub returns-in-Err-read_port : goal.returns-in-Err-read_port
returns-in-Err-read_port g c = instance_refused c.in-Err-read_port.fault c.in-Ok.ensures (subst (λ (bytes : List ℕ). ReadsPort bytes (Err c.in-Err-read_port.fault)) c.deref.ensures.value c.in-Err-read_port.ensures) (subst (λ (bytes : List ℕ). RefusesInstance bytes c.in-Err-read_port.fault (g.D.Desk.state c.read_input.new.desk) (g.D.Desk.state c.refuse_instance.new.desk) c.refuse_instance.result) c.deref-in-Err-read_port.ensures.value c.refuse_instance.ensures)

pub returns-in-Err-read_input : goal.returns-in-Err-read_input
returns-in-Err-read_input g c =
    let port = reads_instance c.in-Ok.ensures (rw c.deref.ensures.value at c.in-Ok-read_port.ensures) (rw c.parts-parts.ensures.parts at c.parts-parts.ensures.kept) in
    table_unread c.in-Err-read_input.stop port c.in-Err-read_input.ensures (rw c.stopped-in-Err-read_input.ensures.value at c.finish-in-Err-read_input.ensures)

pub returns-in-Ok-read_tides : goal.returns-in-Ok-read_tides
returns-in-Ok-read_tides g c =
    let port = reads_instance c.in-Ok.ensures (rw c.deref.ensures.value at c.in-Ok-read_port.ensures) (rw c.parts-parts.ensures.parts at c.parts-parts.ensures.kept) in
    let tide = reads_tide c.in-Ok-read_input.ensures (rw c.deref-2.ensures.value at c.in-Ok-read_tides.ensures.tide) (subst IsTide c.tide.view_is c.tide.invariant) c.in-Ok-read_tides.ensures.columns in
    let text : IfOk c.lint_text.result (λ made. made.items ≡ lint_text c.in-Ok-read_port.port c.in-Ok-read_tides.tide.rows c.in-Ok-read_input.table.items) =
    subst (λ (t : TideParts). IfOk c.lint_text.result (λ made. made.items ≡ lint_text c.in-Ok-read_port.port t.rows c.in-Ok-read_input.table.items)) c.tide.view_is (rw c.deref-in-Ok-read_tides.ensures.value at c.lint_text.ensures) in
    hints_sent c.lint_text.result port c.in-Ok-read_input.ensures tide text c.list_held.ensures

pub returns : goal.returns
returns g c =
    let port = reads_instance c.in-Ok.ensures (rw c.deref.ensures.value at c.in-Ok-read_port.ensures) (rw c.parts-parts.ensures.parts at c.parts-parts.ensures.kept) in
    table_refused c.in-Err-read_tides.fault port c.in-Ok-read_input.ensures (subst (λ (bytes : List ℕ). ReadsHeights bytes (tide_by_header (waypoint_names c.in-Ok-read_port.port)) (Err c.in-Err-read_tides.fault)) c.deref-2.ensures.value c.in-Err-read_tides.ensures.tide) (subst (λ (bytes : List ℕ). RefusesTable bytes c.in-Err-read_tides.fault (g.D.Desk.state c.read_input-2.new.desk) (g.D.Desk.state c.refuse_table.new.desk) c.refuse_table.result) c.deref-in-Err-read_tides.ensures.value c.refuse_table.ensures)
