use Rattle.hw_command.proofs.PortForms.{instance_stops, table_stops, memory_stops, reads_problem}
use Rattle.hw_command.proofs.port_input.read_port_problem.Goals as goal

pub returns-in-Err-clause-no_problem : goal.returns-in-Err-clause-no_problem
returns-in-Err-clause-no_problem g c = rw c.no_port.ensures.value (instance_stops c.in-Err.stop c.in-Err.ensures)

pub returns-in-Err-read_table-clause-no_problem : goal.returns-in-Err-read_table-clause-no_problem
returns-in-Err-read_table-clause-no_problem g c = rw c.no_tide.ensures.value (table_stops c.in-Err-read_table.stop c.in-Ok.ensures c.in-Err-read_table.ensures)

pub returns-in-Ok-flatten-clause-problem : goal.returns-in-Ok-flatten-clause-problem
returns-in-Ok-flatten-clause-problem g c = reads_problem c.in-Ok.ensures c.in-Ok-read_table.ensures c.in-Ok-flatten.ensures.problem c.shape-shape.ensures.limits c.in-Ok-flatten.ensures.writable c.in-Ok-flatten.ensures.same

pub returns-clause-no_problem : goal.returns-clause-no_problem
returns-clause-no_problem g c = memory_stops c.in-Ok.ensures c.in-Ok-read_table.ensures
