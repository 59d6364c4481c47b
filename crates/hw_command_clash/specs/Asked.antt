-- The problem of a subject with the wishes of its plan and the tugs that it leaves, if it is the repair of one.
use Rattle.std.specs.Prelude.{List, [], Option, Some, None}
use Rattle.hw_model.specs.Problem.{Problem}
use Rattle.hw_plan_texts.specs.Fleets.{lessened}
use Rattle.hw_repair.specs.Wishes.{PlanParts}
use Rattle.hw_repair.specs.declared.plan.Wish.{Wish}
use Rattle.hw_report.specs.Reports.{Naming}
use Rattle.hw_clash.specs.Wished.{Wished, with_wishes}
use Rattle.hw_subject.specs.Subjects.{Subject}

abbrev pub wishes_in : Option PlanParts → List Wish
wishes_in None = []
wishes_in (Some plan) = plan.wishes

abbrev pub tugs_left : Problem → Option PlanParts → Problem
tugs_left f None = f
tugs_left f (Some plan) = lessened plan.withdrawn f

abbrev pub asked_by : Problem → Option PlanParts → Wished
asked_by f plan = with_wishes (tugs_left f plan) (wishes_in plan)

abbrev pub asked : (s : Subject) → s.Value → Wished
asked s v = asked_by (s.problem v) (s.plan v)

-- by what names it is reported, of a port with the tugs that are left
abbrev pub names_by : (s : Subject) → s.Value → Option PlanParts → Naming
names_by s v None = s.naming v
names_by s v (Some plan) = s.naming (s.less plan.withdrawn v)

abbrev pub names_left : (s : Subject) → s.Value → Naming
names_left s v = names_by s v (s.plan v)
