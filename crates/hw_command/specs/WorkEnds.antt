-- How the work of a command ends that reads a certificate and makes Proof.
use Rattle.std.specs.Prelude.{Result, Ok, Err}
use Rattle.hw_desk.specs.State.{DeskState}
use Rattle.hw_desk.specs.declared.desk.DeskFailed.{DeskFailed}
use Rattle.hw_command.specs.declared.ending.Ending.{Ending}
use Rattle.hw_command.specs.declared.ending.Ending.TheVariants.{Stopped, Sent, WriteFailed}
use Rattle.hw_command.specs.declared.outcome.CertOutcome.{CertOutcome}
use Rattle.hw_command.specs.declared.outcome.CertStop.{CertStop}

-- it stopped before Proof was made, or a text of which this is told was sent there, or a make or a write failed while one was sent
abbrev pub WorkEnds : {T : Type 0} → (DeskState → DeskState → Result CertOutcome CertStop → Type 0) → (DeskState → DeskState → T → Result Unit DeskFailed → Type 0) → DeskState → DeskState → Ending T → Type 0
WorkEnds Stops Sends old new (Stopped stopped) = Stops old new stopped
WorkEnds Stops Sends old new (Sent told) = Sends old new told (Ok tt)
WorkEnds {T = T} Stops Sends old new WriteFailed = (told : T) × Sends old new told (Err (record {}))
