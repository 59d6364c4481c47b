-- `chart clash` of a port: draws the kept restrictions of a clash that holds.
use Rattle.std.specs.Prelude.{◌≡◌, ℕ, List, [], ◌∷◌, ◌++◌, Option, None, Some, map}
use Rattle.hw_desk.specs.State.{DeskState}
use Rattle.hw_desk.specs.declared.desk.Feed.TheVariants as feeds
use Rattle.hw_cert_lines.specs.declared.check.Verdict.TheVariants.{Infeasible}
use Rattle.hw_report.specs.Reports.{Report, Naming, by_number, by_name, clash_holds, picture}
use Rattle.hw_command.specs.Carries.{Task, one_report}
use Rattle.hw_command.specs.Scope.{named_feed}
use Rattle.hw_command.specs.declared.outcome.CertOutcome.TheVariants.{Shows}
use Rattle.hw_clash.specs.Clashes.{Clash}
use Rattle.hw_chart_clash.specs.Marks.{kept_mark_at}
use Rattle.hw_chart_clash.specs.Pictures.{clash_picture}
use Rattle.hw_chart_clash.specs.declared.mark.Mark.{Mark}
use Rattle.hw_subject.specs.Subjects.{Subject, port_subject}
use Rattle.hw_command_clash.specs.Inputs.{clash_feed}
use Rattle.hw_command_clash.specs.CheckClash.{ChecksClash, ClashChecks, ClashGives}

-- the marks of kept restrictions, which only those of a port have
abbrev pub marks_in : Naming → List ℕ → List Mark
marks_in by_number kept = []
marks_in (by_name p h) kept = map (kept_mark_at p) kept

-- the picture with these marks, and for each of them a timetable that meets the other restrictions
abbrev pub marked_clash : Naming → List Mark → List (List ℕ) → List ℕ
marked_clash by_number marks drops = []
marked_clash (by_name p h) marks drops = clash_picture p h marks drops

-- the picture of kept restrictions of the port by whose names they are reported, and of a clash
abbrev pub kept_drawn : Naming → List ℕ → List (List ℕ) → List ℕ
kept_drawn names kept drops = marked_clash names (marks_in names kept) drops

abbrev pub clash_drawn : Naming → Clash → List ℕ
clash_drawn names clash = kept_drawn names clash.kept clash.drops

-- the clash holds, as `check clash` says, and its picture is this
pub record DrawsClash (s : Subject) (name cert : List ℕ) (held : List ℕ → Option (List ℕ)) (drawn : List ℕ) : Type 0 where
  pub checks : ChecksClash s name cert held (Shows Infeasible)
  pub is_picture : drawn ≡ clash_drawn (s.naming checks.value) checks.clash

-- what a report says of the inputs, of the clash text and of the certificate, each as far as it is told: what `check clash` says of them, unless that is that the clash holds, which is drawn
abbrev pub ChartsClash : Subject → List ℕ → List ℕ → (List ℕ → Option (List ℕ)) → Report → Type 0
ChartsClash s name cert held (picture shows drawn) = (shows ≡ Infeasible) × DrawsClash s name cert held drawn
ChartsClash s name cert held clash_holds = ⊥
ChartsClash s name cert held r = ClashChecks s name cert held r

abbrev pub ClashChartSays : Subject → List ℕ → List ℕ → DeskState → Option Report → Type 0
ClashChartSays s name cert old None = ⊥
ClashChartSays s name cert old (Some r) = ChartsClash s name cert old.held r

-- of any subject; only a port has a form
abbrev pub clash_chart_task : Subject → List ℕ → List ℕ → Task
clash_chart_task s name cert = record {
  inputs = s.inputs ++ (named_feed (clash_feed s) name ∷ named_feed feeds.Certificate cert ∷ []);
  Gives = ClashGives s name;
  proof = None;
  Says = one_report (λ old new. ClashChartSays s name cert old);
}

-- a port by its instance and its tide table, the clash text, the certificate
abbrev pub chart_clash_task : List ℕ → List ℕ → List ℕ → List ℕ → Task
chart_clash_task instance tides name cert = clash_chart_task (port_subject instance tides) name cert
