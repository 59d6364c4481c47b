-- A certificate that is read before a command goes on from it.
use Rattle.std.proofs.Common.{◌≡◌, ◌∙◌, ◌++◌, ℕ, List, [], ◌∷◌, Option, Some, None, Result, Ok, Vec, false, ap, append-nil, refl, subst, sym}
use Rattle.std.specs.declared.alloc.Global.{Global}
use Rattle.hw_model.specs.Problem.{Problem}
use Rattle.hw_desk.specs.State.{DeskState}
use Rattle.hw_desk.specs.declared.desk.Feed.{Feed}
use Rattle.hw_desk.specs.declared.desk.Feed.TheVariants.{Certificate}
use Rattle.hw_cert_lines.specs.declared.check.Verdict.{Verdict}
use Rattle.hw_cert_lines.specs.declared.line.Line.{Line}
use Rattle.hw_cert.specs.declared.version.Version.TheVariants.{Three}
use Rattle.hw_check.specs.Follows.{CheckerFollows}
use Rattle.hw_check.specs.States.{CheckState}
use Rattle.hw_cert_course.specs.declared.going_on.Course.{Course}
use Rattle.hw_cert_course.specs.declared.stop.CourseStop.{CourseStop}
use Rattle.hw_cert_course.specs.declared.stop.CourseStop.TheVariants as stops
use Rattle.hw_report.specs.Reports.{Naming}
use Rattle.hw_command.specs.Certificates.{report_of_check}
use Rattle.hw_command.specs.Readings.{HandsChecker, KeepsLines, ReadsCert}
use Rattle.hw_command.specs.Scope.{Entered, GiveBefore, Named, named_feed}
use Rattle.hw_command.specs.Starting.{StartsCourse, StartsOn, shows_nothing, stop_outcome}
use Rattle.hw_command.specs.Works.{Works}
use Rattle.hw_command.specs.declared.cert.ReadCert.{ReadCert}
use Rattle.hw_command.specs.declared.outcome.CertOutcome.{CertOutcome}
use Rattle.hw_command.specs.declared.outcome.CertOutcome.TheVariants.{Shows, Wrong, TooLong}
use Rattle.hw_command.specs.declared.outcome.CertStop.{CertStop}
use Rattle.hw_command.proofs.Begun.{refuses, wants_memory}

pub ok_same : (a b : CertOutcome) → ◌≡◌ {A = Result CertOutcome CertStop} (Ok a) (Ok b) → b ≡ a
ok_same a b e = cc

-- what it shows, where it shows something
pub shown_by : (o : CertOutcome) → shows_nothing o ≡ false → (v : Verdict) × (o ≡ Shows v)
shown_by (Shows v) e = (v, refl)
shown_by (Wrong number word hint) e = absurd (cc)
shown_by TooLong e = absurd (cc)

abbrev pub starts_on : {K : Type 0} {Kept : K → List Line → Type 0} {f : Problem} {cert : List ℕ} {x y : DeskState} (read : ReadCert K) → ReadsCert Three Kept f cert x y (Ok read) → shows_nothing read.outcome ≡ false → StartsOn Kept f cert x y
starts_on read h e = let v = shown_by read.outcome e in record { read = read; shows = v.0; reads = h; outcome = v.1 }

-- what it shows, by the checker that is left
left_by : (f : Problem) (all : List Line) (o : CertOutcome) (checker : CheckState) → HandsChecker f all o (Some checker) → (v : Verdict) × (o ≡ Shows v) × CheckerFollows checker all × (checker.problem ≡ f)
left_by f all (Shows v) checker h = (v, refl, h.0, h.1)
left_by f all (Wrong number word hint) checker h = absurd (cc)
left_by f all TooLong checker h = absurd (cc)

-- the lines with their checker
pub course_starts : {f : Problem} {cert : List ℕ} {x y : DeskState} (read : ReadCert (Vec Line Global)) (checker : CheckState) (course : Course) → ReadsCert Three KeepsLines f cert x y (Ok read) → read.checker ≡ Some checker → course.flat.now ≡ f → course.checker ≡ checker → course.lines ≡ read.kept → StartsCourse f cert x y course
course_starts {f = f} read checker course h left problem taken same =
    let lines = h.reads.1 in
    let by = left_by f lines.lines read.outcome checker (subst (λ (it : Option CheckState). HandsChecker f lines.lines read.outcome it) left lines.hands) in
    let all : course.lines.items ≡ lines.lines = ap (λ (kept : Vec Line Global). kept.items) same ∙ lines.kept in
    record {
      starts = record { read = read; shows = by.0; reads = h; outcome = by.1 };
      stands = record {
        problem = problem;
        checked = ap (λ (c : CheckState). c.problem) taken ∙ by.3;
        follows = subst (λ (ls : List Line). CheckerFollows course.checker ls) (sym all) (subst (λ (c : CheckState). CheckerFollows c lines.lines) (sym taken) by.2);
      };
      lines = all;
    }

-- the work up to the report of lines that can't be gone on from: one of them is refused, or memory ran out
pub course_works : {Gives : Feed → Type 0} {x z : DeskState} (before : List Named) (cert : List ℕ) (names : Naming) (proof : Option (List ℕ)) (stop : CourseStop) → Entered (before ++ named_feed Certificate cert ∷ []) x z → GiveBefore Gives (before ++ named_feed Certificate cert ∷ []) → z.read_faults ≡ x.read_faults → Works (before ++ named_feed Certificate cert ∷ []) Gives proof x z (report_of_check names None None (stop_outcome stop))
course_works before cert names proof (stops.Refused number cause) h give read = refuses proof before (named_feed Certificate cert) [] _ (sym (append-nil _)) refl h give read
course_works before cert names proof stops.NoMemory h give read = wants_memory proof (before ++ named_feed Certificate cert ∷ []) [] (sym (append-nil _)) h give read
