-- Commands whose inputs give nothing to go on with.
use Rattle.std.proofs.Common.{◌≡◌, ◌++◌, ◌∙◌, ℕ, List, [], ◌∷◌, Option, None, ap, append_assoc, refl}
use Rattle.std.specs.Prelude.{◌≢◌}
use Rattle.hw_desk.specs.State.{DeskState}
use Rattle.hw_desk.specs.declared.desk.Feed.{Feed}
use Rattle.hw_report.specs.Reports.{Report}
use Rattle.hw_command.specs.Carries.{Task, Carries}
use Rattle.hw_command.specs.Ends.{Ends}
use Rattle.hw_command.specs.Scope.{Named}
use Rattle.hw_command.specs.Works.{Speaks, of_answer, of_input, of_memory, speaks, UpTo, TraysOf, Works, StopsReading}
use Rattle.hw_command.specs.declared.status.Status.{Status}
use Rattle.hw_command.proofs.Begun.{gives_on}

up_to : (done rest more : List Named) (s : Speaks) → s ≢ of_answer → UpTo done rest s → UpTo done (rest ++ more) s
up_to done rest more of_answer early h = absurd (early refl)
up_to done rest more (of_input feed) early h = h
up_to done rest more of_memory early h = tt

untouched : (proof : Option (List ℕ)) (x y : DeskState) (s : Speaks) → s ≢ of_answer → TraysOf None x y s → TraysOf proof x y s
untouched proof x y of_answer early h = absurd (early refl)
untouched proof x y (of_input feed) early h = h
untouched proof x y of_memory early h = h

-- the same work of a command that has more inputs, and makes Proof
pub further : {inputs : List Named} {Gives More : Feed → Type 0} {x y : DeskState} {r : Report} (all more : List Named) (proof : Option (List ℕ)) → all ≡ inputs ++ more → ((feed : Feed) → Gives feed → More feed) → speaks r ≢ of_answer → Works inputs Gives None x y r → Works all More proof x y r
further {x = x} {y = y} {r = r} all more proof parts same early h = record {
  done = h.done;
  rest = h.rest ++ more;
  parts = parts ∙ ap (λ (xs : List Named). xs ++ more) h.parts ∙ append_assoc h.done h.rest more;
  begins = h.begins;
  give = gives_on h.done same h.give;
  upto = up_to h.done h.rest more (speaks r) early h.upto;
  trays = untouched proof x y (speaks r) early h.trays;
  read_cause = h.read_cause;
  write_faults = h.write_faults;
}

-- a command whose first inputs stop it
pub stops_carries : {inputs : List Named} {Gives : Feed → Type 0} {Why : Report → Type 0} {x y z : DeskState} {r : Report} {s : Status} (task : Task) (more : List Named)
    → StopsReading inputs Gives Why x y r → task.inputs ≡ inputs ++ more → ((feed : Feed) → Gives feed → task.Gives x.held feed) → (Why r → task.Says x y (r ∷ [])) → Ends (r ∷ []) y z s → Carries task x z s
stops_carries {y = y} {r = r} task more h parts same says ends = record {
  mid = y;
  reports = r ∷ [];
  works = further task.inputs more task.proof parts same h.early h.works;
  says = λ own. says (h.why own);
  ends = ends;
}
