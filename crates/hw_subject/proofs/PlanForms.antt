-- Commands that read a plan after their other inputs.
use Rattle.std.proofs.Common.{◌≡◌, ◌++◌, ◌∙◌, ℕ, false, List, [], ◌∷◌, Option, None, Ok, Err, append-nil, refl, sym, ap, subst}
use Rattle.std.specs.Prelude.{IfSome}
use Rattle.hw_desk.specs.State.{DeskState}
use Rattle.hw_desk.specs.declared.desk.Feed.{Feed}
use Rattle.hw_desk.specs.declared.desk.Feed.TheVariants as feeds
use Rattle.hw_model.specs.Problem.{Problem}
use Rattle.hw_report.specs.Reports.{Report, bad_text, too_long}
use Rattle.hw_command.specs.Inputs.{StopsFor}
use Rattle.hw_command.specs.Scope.{Named, named_feed, feed_is_among, GiveBefore, Entered}
use Rattle.hw_command.specs.Values.{IsLong}
use Rattle.hw_command.specs.Works.{StopsReading}
use Rattle.hw_command.proofs.Begun.{entered_on, input_stops, refuses}
use Rattle.hw_repair.specs.Words.{plan_word_text}
use Rattle.hw_repair.specs.declared.fault.PlanWord.{PlanWord}
use Rattle.hw_subject.specs.PlanInputs.{ReadsRepair, report_of_plan}
use Rattle.hw_subject.specs.Plans.{IsPlanText, IsPlanOf}
use Rattle.hw_subject.specs.declared.plan_input.PlanStop.{PlanStop}
use Rattle.hw_subject.specs.declared.plan_input.PlanStop.TheVariants as stops
use Rattle.hw_subject.specs.declared.plan_input.Repair.{Repair}

-- what is held is as it was before the other inputs were read
pub still_held : {before : List Named} {x y : DeskState} (name : List ℕ) → Entered before x y → y.held name ≡ x.held name
still_held name h = ap (λ held. held name) h.begins.held

-- the plan that was read is that of the bytes held at first
pub plan_of : {before : List Named} {f : Problem} {name : List ℕ} {x y z : DeskState} {read : Repair} → Entered before x y → ReadsRepair f name y z (Ok read) → IsPlanOf (x.held name) f read.plan
plan_of {f = f} {name = name} {read = read} h k = subst (λ (told : Option (List ℕ)). IsPlanOf told f read.plan) (still_held name h) k.answer.0

-- there is no plan
pub plan_stops : {before : List Named} {Gives : Feed → Type 0} {Why : Report → Type 0} {f : Problem} {name : List ℕ} {x y z : DeskState} (stop : PlanStop) → Entered before x y → y.read_faults ≡ x.read_faults → feed_is_among before feeds.Plan ≡ false → GiveBefore Gives (before ++ named_feed feeds.Plan name ∷ [])
    → (IfSome (x.held name) IsLong → Why (too_long feeds.Plan)) → ((number : ℕ) (word : PlanWord) → IfSome (x.held name) (IsPlanText f (Err (record { number = number; word = word }))) → Why (bad_text feeds.Plan number (plan_word_text word)))
    → ReadsRepair f name y z (Err stop) → StopsReading (before ++ named_feed feeds.Plan name ∷ []) Gives Why x z (report_of_plan stop)
plan_stops {before = before} {name = name} {y = y} {z = z} (stops.Input stop) h kept new give long wrong k =
    input_stops y before feeds.Plan name [] stop long (sym (append-nil _)) (entered_on before h k.enters new) give kept (subst (λ (told : Option (List ℕ)). StopsFor told y z stop) (still_held name h) k.answer)
plan_stops {before = before} {f = f} {name = name} (stops.Line number word) h kept new give long wrong k = record {
  works = refuses None before (named_feed feeds.Plan name) [] (bad_text feeds.Plan number (plan_word_text word)) (sym (append-nil _)) refl (entered_on before h k.enters new) give (k.answer.1 ∙ kept);
  early = λ e. absurd (cc);
  why = λ own. wrong number word (subst (λ (told : Option (List ℕ)). IfSome told (IsPlanText f (Err (record { number = number; word = word })))) (still_held name h) k.answer.0);
}
