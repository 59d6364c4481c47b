use Rattle.hw_command_clash.proofs.Checked.{clash_checked, clash_refused}
use Rattle.hw_command_clash.proofs.checking.check_clash.Goals as goal

pub returns-in-Ok : goal.returns-in-Ok
returns-in-Ok g c = clash_checked c.in-Ok.ensures.checked (rw c.part_report.ensures.value at c.finish.ensures)

pub returns-in-Err : goal.returns-in-Err
returns-in-Err g c = clash_refused c.in-Err.ensures.stops c.finish-in-Err.ensures
