use Rattle.std.proofs.Common.{map, string_bytes, refl}
use Rattle.hw_desk.specs.Calm.{calm_state}
use Rattle.hw_command.proofs.Faults.{none_rose}
use Rattle.hw_app.proofs.RunFaults.{fault_causes}
use Rattle.hw_app.proofs.calm.run_calm.Goals as goal

pub returns-clause-no_read_fault : goal.returns-clause-no_read_fault
returns-clause-no_read_fault c = λ e. none_rose refl refl ((fault_causes (map string_bytes c.args.words.now) (calm_state c.args.desk.now) (calm_state c.run.new.desk) c.run.result c.run.ensures).read e)

pub returns-clause-no_write_fault : goal.returns-clause-no_write_fault
returns-clause-no_write_fault c = λ e. none_rose refl refl ((fault_causes (map string_bytes c.args.words.now) (calm_state c.args.desk.now) (calm_state c.run.new.desk) c.run.result c.run.ensures).write e)
