-- Reading a plan of a problem, and making the problem of its repair.
use Rattle.std.specs.Prelude.{◌≡◌, ℕ, List, Option, Result, Ok, Err, IfSome}
use Rattle.hw_model.specs.Problem.{Problem}
use Rattle.hw_desk.specs.State.{DeskState}
use Rattle.hw_desk.specs.declared.desk.Feed.TheVariants as feeds
use Rattle.hw_desk.specs.declared.whole.ReadStop.TheVariants as reads
use Rattle.hw_report.specs.Reports.{Report, bad_text}
use Rattle.hw_command.specs.Inputs.{Enters, StopsFor, report_of_stop}
use Rattle.hw_repair.specs.declared.fault.PlanWord.{PlanWord}
use Rattle.hw_repair.specs.Repaired.{repaired}
use Rattle.hw_repair.specs.Words.{plan_word_text}
use Rattle.hw_plan_texts.specs.declared.fault.LineFault.{LineFault}
use Rattle.hw_plan_texts.specs.declared.fault.LineFault.TheVariants as faults
use Rattle.hw_subject.specs.Plans.{IsPlanOf, IsPlanText}
use Rattle.hw_subject.specs.declared.plan_input.PlanStop.{PlanStop}
use Rattle.hw_subject.specs.declared.plan_input.PlanStop.TheVariants as stops
use Rattle.hw_subject.specs.declared.plan_input.Repair.{Repair}

-- why bytes are no plan
abbrev pub stop_of_plan : LineFault PlanWord → PlanStop
stop_of_plan (faults.Line number word) = stops.Line number word
stop_of_plan faults.NoMemory = stops.Input reads.NoMemory

-- a plan of the problem, that of the bytes held under the name, where they are told, with the problem of its repair; or why there is none
abbrev pub PlanAnswer : Problem → Option (List ℕ) → DeskState → DeskState → Result Repair PlanStop → Type 0
PlanAnswer f told old new (Ok read) = IsPlanOf told f read.plan × (read.flat ≡ repaired f read.plan) × (new.read_faults ≡ old.read_faults)
PlanAnswer f told old new (Err (stops.Line number word)) = IfSome told (IsPlanText f (Err (record { number = number; word = word }))) × (new.read_faults ≡ old.read_faults)
PlanAnswer f told old new (Err (stops.Input stop)) = StopsFor told old new stop

-- the plan is begun under its name, read to its end, and gives the problem of its repair
pub record ReadsRepair (f : Problem) (name : List ℕ) (old new : DeskState) (result : Result Repair PlanStop) : Type 0 where
  pub enters : Enters feeds.Plan name old new
  pub answer : PlanAnswer f (old.held name) old new result

-- the report of why there is no plan
abbrev pub report_of_plan : PlanStop → Report
report_of_plan (stops.Input stop) = report_of_stop feeds.Plan stop
report_of_plan (stops.Line number word) = bad_text feeds.Plan number (plan_word_text word)
