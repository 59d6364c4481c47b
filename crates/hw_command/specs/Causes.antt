-- The causes of faults.
use Rattle.std.specs.Prelude.{◌≡◌}
use Rattle.hw_desk.specs.State.{DeskState, Rose}
use Rattle.hw_command.specs.declared.status.Status.{Status}
use Rattle.hw_command.specs.declared.status.Status.TheVariants.{ReadFault, WriteFault}

-- a fault comes only where the count of its kind rose
pub record FaultsCaused (old new : DeskState) (s : Status) : Type 0 where
  pub read : s ≡ ReadFault → Rose old.read_faults new.read_faults
  pub write : s ≡ WriteFault → Rose old.write_faults new.write_faults
