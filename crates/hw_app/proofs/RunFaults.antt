-- Faults of a run have their causes.
use Rattle.std.proofs.Common.{◌≡◌, ℕ, Result, Ok, Err}
use Rattle.hw_desk.specs.State.{DeskState}
use Rattle.hw_report.specs.Reports.{bad_words}
use Rattle.hw_command.specs.Causes.{FaultsCaused}
use Rattle.hw_command.specs.Statuses.{status_of}
use Rattle.hw_command.specs.declared.status.Status.{Status}
use Rattle.hw_command.specs.declared.status.Status.TheVariants.{ReadFault}
use Rattle.hw_command.proofs.Faults.{carries_caused, report_ended}
use Rattle.hw_app.specs.Commands.{Command, command_of}
use Rattle.hw_app.specs.Laws.{FaultCauses}
use Rattle.hw_app.specs.Run.{CommandMeets, task_of}

by_command : (c : Result Command ℕ) (old new : DeskState) (s : Status) → CommandMeets c old new s → FaultsCaused old new s
by_command (Ok command) old new s m = carries_caused (task_of command) old new s m
by_command (Err place) old new s ends = report_ended old new s (bad_words place) other ends
  where
    other : ReadFault ≡ status_of (bad_words place) → ⊥
    other e = cc

pub fault_causes : FaultCauses
fault_causes words old new s m = by_command (command_of words) old new s m
