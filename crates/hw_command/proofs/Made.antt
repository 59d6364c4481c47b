-- The work of a command that makes Proof after its inputs were read.
use Rattle.std.proofs.Common.{◌≡◌, ◌∙◌, ℕ, true, List, [], Some, append-nil, inr, refl, ap, sym, subst}
use Rattle.std.specs.Prelude.{IfSome}
use Rattle.hw_desk.specs.Calls.{OnlyTray}
use Rattle.hw_desk.specs.State.{DeskState, put_tray, Rose}
use Rattle.hw_desk.specs.declared.desk.Feed.{Feed}
use Rattle.hw_desk.specs.declared.desk.Tray.TheVariants.{Proof}
use Rattle.hw_report.specs.Reports.{Report}
use Rattle.hw_command.specs.Scope.{Named, Entered, GiveBefore, MakesProof}
use Rattle.hw_command.specs.Works.{Speaks, of_answer, speaks, UpTo, TraysOf, ReadCauseOf, Works, Breaks}
use Rattle.hw_command.proofs.Begun.{begun_past, rose_on}

-- Proof was made after inputs were begun
pub makes_past : {inputs : List Named} {proof : List ℕ} {x y z : DeskState} → Entered inputs x y → OnlyTray Proof y z → (z.trays Proof).made ≡ true → IfSome (z.trays Proof).name (λ n. n ≡ proof) → MakesProof proof x z
makes_past {z = z} h only made named = record {
  trays = only.trays ∙ ap (λ trays. put_tray trays Proof (z.trays Proof)) h.trays;
  made = made;
  named = named;
}

-- the work before an answer
pub made_works : {inputs : List Named} {Gives : Feed → Type 0} {proof : List ℕ} {x y z : DeskState} (r : Report) → speaks r ≡ of_answer → Entered inputs x y → GiveBefore Gives inputs → OnlyTray Proof y z → MakesProof proof x z → z.write_faults ≡ y.write_faults → ReadCauseOf x z r → Works inputs Gives (Some proof) x z r
made_works {inputs = inputs} {proof = proof} {x = x} {z = z} r e h give only makes kept read = record {
  done = inputs;
  rest = [];
  parts = sym (append-nil inputs);
  begins = begun_past only h.begins;
  give = give;
  upto = subst (λ (s : Speaks). UpTo inputs [] s) (sym e) refl;
  trays = subst (λ (s : Speaks). TraysOf (Some proof) x z s) (sym e) (inr makes);
  read_cause = read;
  write_faults = kept ∙ h.write_faults;
}

-- the work where a make or a write failed
pub breaks_off : {inputs : List Named} {Gives : Feed → Type 0} {proof : List ℕ} {x y z : DeskState} → Entered inputs x y → GiveBefore Gives inputs → y.read_faults ≡ x.read_faults → OnlyTray Proof y z → MakesProof proof x z → Rose y.write_faults z.write_faults → Breaks inputs Gives (Some proof) x z
breaks_off h give read only makes rose = record {
  begins = begun_past only h.begins;
  give = give;
  makes = makes;
  read_faults = only.read_faults ∙ read;
  write_cause = rose_on h.write_faults rose;
}
