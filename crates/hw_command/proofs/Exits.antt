-- How a command of one report ends after its inputs were read.
use Rattle.std.proofs.Common.{◌≡◌, ◌∙◌, ℕ, List, [], ◌∷◌, Option, Some, None, Ok, Err, append-nil, sym}
use Rattle.hw_desk.specs.State.{DeskState}
use Rattle.hw_desk.specs.declared.desk.Feed.{Feed}
use Rattle.hw_report.specs.Reports.{Report, no_memory}
use Rattle.hw_command.specs.Carries.{Carries, one_report}
use Rattle.hw_command.specs.Ends.{Ends}
use Rattle.hw_command.specs.Scope.{Named, GiveBefore, Entered, MakesProof}
use Rattle.hw_command.specs.Sending.{SendsTo}
use Rattle.hw_command.specs.Works.{of_answer, speaks, ReadCauseOf}
use Rattle.hw_command.specs.declared.status.Status.{Status}
use Rattle.hw_command.proofs.Begun.{wants_memory}
use Rattle.hw_command.proofs.SentWorks.{made, sent_works, broken_works}

-- memory ran out
pub memory_carries : {x y end : DeskState} {s : Status} (inputs : List Named) (Gives : (List ℕ → Option (List ℕ)) → Feed → Type 0) (Says : DeskState → DeskState → Option Report → Type 0) (proof : Option (List ℕ)) → Entered inputs x y → GiveBefore (Gives x.held) inputs → y.read_faults ≡ x.read_faults → Ends (no_memory ∷ []) y end s → Carries (record { inputs = inputs; Gives = Gives; proof = proof; Says = one_report Says }) x end s
memory_carries {y = y} inputs Gives Says proof h give read ends = record {
  mid = y;
  reports = no_memory ∷ [];
  works = wants_memory proof inputs [] (sym (append-nil inputs)) h give read;
  says = λ own. absurd (cc);
  ends = ends;
}

-- a text was sent to Proof, and then an answer
pub sent_carries : {E : Type 0} {proof text : List ℕ} {x y z end : DeskState} {u : Unit {0}} {s : Status} (inputs : List Named) (Gives : (List ℕ → Option (List ℕ)) → Feed → Type 0) (Says : DeskState → DeskState → Option Report → Type 0) (r : Report)
    → speaks r ≡ of_answer → (z.read_faults ≡ x.read_faults → ReadCauseOf x z r) → Entered inputs x y → GiveBefore (Gives x.held) inputs → y.read_faults ≡ x.read_faults → SendsTo {E = E} proof text y z (Ok u) → (MakesProof proof x z → Says x z (Some r)) → Ends (r ∷ []) z end s
    → Carries (record { inputs = inputs; Gives = Gives; proof = Some proof; Says = one_report Says }) x end s
sent_carries {z = z} inputs Gives Says r answer cause h give read sends says ends = record {
  mid = z;
  reports = r ∷ [];
  works = sent_works r answer h give sends (cause (sends.only.read_faults ∙ read));
  says = λ own. says (made h sends);
  ends = ends;
}

-- a make or a write of Proof failed
pub broke_carries : {E : Type 0} {proof text : List ℕ} {x y z end : DeskState} {fault : E} {s : Status} (inputs : List Named) (Gives : (List ℕ → Option (List ℕ)) → Feed → Type 0) (Says : DeskState → DeskState → Option Report → Type 0)
    → Entered inputs x y → GiveBefore (Gives x.held) inputs → y.read_faults ≡ x.read_faults → SendsTo {E = E} proof text y z (Err fault) → Says x z None → Ends [] z end s
    → Carries (record { inputs = inputs; Gives = Gives; proof = Some proof; Says = one_report Says }) x end s
broke_carries {z = z} inputs Gives Says h give read sends says ends = record {
  mid = z;
  reports = [];
  works = broken_works h give read sends;
  says = λ own. says;
  ends = ends;
}
