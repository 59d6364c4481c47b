-- A subject's words are those of a flat problem, of a port, and of a plan.
use Rattle.std.proofs.Common.{ℕ, List, arith}
use Rattle.hw_model.specs.Problem.{Problem}
use Rattle.hw_port.specs.Whole.{Parts}
use Rattle.hw_tide.specs.Levels.{TideParts}
use Rattle.hw_repair.specs.Wishes.{PlanParts, PermitsPlan}
use Rattle.hw_subject.specs.Subjects.{MeetsPlan, flat_subject, port_subject}
use Rattle.hw_subject_laws.specs.Laws.{PortPermitsPlan, SameWords, planned, port_planned}

to_plan : {name : List ℕ} {f : Problem} {parts : PlanParts} (table : List ℕ) → MeetsPlan (flat_subject name) (planned name f parts) table → PermitsPlan f parts table
to_plan table h = record { permitted = h.permitted; granted = h.granted }

from_plan : {name : List ℕ} {f : Problem} {parts : PlanParts} (table : List ℕ) → PermitsPlan f parts table → MeetsPlan (flat_subject name) (planned name f parts) table
from_plan table h = record { permitted = h.permitted; granted = h.granted }

to_port_plan : {instance tides : List ℕ} {p : Parts} {t : TideParts} {parts : PlanParts} (table : List ℕ) → MeetsPlan (port_subject instance tides) (port_planned instance tides p t parts) table → PortPermitsPlan p t parts table
to_port_plan table h = record { permitted = h.permitted; granted = h.granted }

from_port_plan : {instance tides : List ℕ} {p : Parts} {t : TideParts} {parts : PlanParts} (table : List ℕ) → PortPermitsPlan p t parts table → MeetsPlan (port_subject instance tides) (port_planned instance tides p t parts) table
from_port_plan table h = record { permitted = h.permitted; granted = h.granted }

pub same_words_law : SameWords
same_words_law = record {
  flat_best = λ name f table c. (
    λ h. record { permitted = h.permitted; worth = h.worth; greatest = h.greatest },
    λ h. record { permitted = h.permitted; worth = h.worth; greatest = h.greatest; fewest = λ other permits e. omega arith },
  );
  flat_none = λ name f. (λ h. h, λ h. h);
  flat_bound = λ name f bound. (λ h. h, λ h. h);
  port_best = λ instance tides p t table c. (
    λ h. record { permitted = h.permitted; worth = h.worth; greatest = h.greatest },
    λ h. record { permitted = h.permitted; worth = h.worth; greatest = h.greatest; fewest = λ other permits e. omega arith },
  );
  port_none = λ instance tides p t. (λ h. h, λ h. h);
  port_bound = λ instance tides p t bound. (λ h. h, λ h. h);
  repair_best = λ name plan f parts table c. (
    λ h. record { meets = to_plan {name = name} table h.permitted; worth = h.worth; greatest = λ other d m e. h.greatest other d (from_plan {name = name} other m) e; fewest = λ other m e. h.fewest other (from_plan {name = name} other m) e },
    λ h. record { permitted = from_plan {name = name} table h.meets; worth = h.worth; greatest = λ other d m e. h.greatest other d (to_plan {name = name} other m) e; fewest = λ other m e. h.fewest other (to_plan {name = name} other m) e },
  );
  repair_none = λ name plan f parts. (
    λ h table m. h table (from_plan {name = name} table m),
    λ h table m. h table (to_plan {name = name} table m),
  );
  port_repair_best = λ instance tides plan p t parts table c. (
    λ h. record { meets = to_port_plan {instance = instance} {tides = tides} table h.permitted; worth = h.worth; greatest = λ other d m e. h.greatest other d (from_port_plan {instance = instance} {tides = tides} other m) e; fewest = λ other m e. h.fewest other (from_port_plan {instance = instance} {tides = tides} other m) e },
    λ h. record { permitted = from_port_plan {instance = instance} {tides = tides} table h.meets; worth = h.worth; greatest = λ other d m e. h.greatest other d (to_port_plan {instance = instance} {tides = tides} other m) e; fewest = λ other m e. h.fewest other (to_port_plan {instance = instance} {tides = tides} other m) e },
  );
}
