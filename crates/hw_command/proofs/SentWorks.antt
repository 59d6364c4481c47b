-- The work of a command that sends a whole certificate to Proof after its inputs were read.
use Rattle.std.proofs.Common.{◌≡◌, ℕ, List, Some, Result, Ok, Err}
use Rattle.hw_desk.specs.State.{DeskState}
use Rattle.hw_desk.specs.declared.desk.Feed.{Feed}
use Rattle.hw_report.specs.Reports.{Report}
use Rattle.hw_command.specs.Sending.{SendsTo}
use Rattle.hw_command.specs.Scope.{Named, Entered, GiveBefore, MakesProof}
use Rattle.hw_command.specs.Works.{of_answer, speaks, ReadCauseOf, Works, Breaks}
use Rattle.hw_command.proofs.Made.{makes_past, made_works, breaks_off}

-- Proof was made
pub made : {E : Type 0} {inputs : List Named} {proof text : List ℕ} {x y z : DeskState} {r : Result Unit E} → Entered inputs x y → SendsTo proof text y z r → MakesProof proof x z
made h k = makes_past h k.only k.made k.named

-- the work where the certificate was sent
pub sent_works : {E : Type 0} {inputs : List Named} {Gives : Feed → Type 0} {proof text : List ℕ} {x y z : DeskState} {u : Unit {0}} (r : Report) → speaks r ≡ of_answer → Entered inputs x y → GiveBefore Gives inputs → SendsTo {E = E} proof text y z (Ok u) → ReadCauseOf x z r → Works inputs Gives (Some proof) x z r
sent_works r e h give k cause = made_works r e h give k.only (made h k) k.answer.0 cause

-- the work where a make or a write failed
pub broken_works : {E : Type 0} {inputs : List Named} {Gives : Feed → Type 0} {proof text : List ℕ} {x y z : DeskState} {e : E} → Entered inputs x y → GiveBefore Gives inputs → y.read_faults ≡ x.read_faults → SendsTo proof text y z (Err e) → Breaks inputs Gives (Some proof) x z
broken_works h give read k = breaks_off h give read k.only (made h k) k.answer.0
