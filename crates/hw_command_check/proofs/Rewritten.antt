-- A certificate whose renewed lines go to Proof.
use Rattle.std.proofs.Common.{◌≡◌, ◌∙◌, ℕ, List, Result, sym, subst, ap}
use Rattle.hw_model.specs.Problem.{Problem, shape_of}
use Rattle.hw_desk.specs.State.{DeskState}
use Rattle.hw_desk.specs.declared.desk.DeskFailed.{DeskFailed}
use Rattle.hw_cert_lines.specs.declared.line.Line.{Line}
use Rattle.hw_cert_lines.specs.Tolled.{bound_of}
use Rattle.hw_cert_lines.specs.Valid.{Valid, verdict}
use Rattle.hw_cert_laws.specs.Renewing.{renewed}
use Rattle.hw_cert_laws.proofs.Fitting.{renewing_keeps}
use Rattle.hw_cert.specs.declared.version.Version.TheVariants.{Three}
use Rattle.hw_cert.specs.Stream.{cert_stream_to}
use Rattle.hw_cert.specs.Texts.{cert_text}
use Rattle.hw_cert_course.specs.declared.going_on.Course.{Course}
use Rattle.hw_command.specs.Certificates.{cert_outcome_to}
use Rattle.hw_command.specs.Keeping.{Keeps}
use Rattle.hw_command.specs.Readings.{KeepsLines}
use Rattle.hw_command.specs.Sending.{SendsTo}
use Rattle.hw_command.specs.Starting.{StartsCourse, StartsOn}
use Rattle.hw_command.specs.declared.outcome.CertOutcome.{CertOutcome}
use Rattle.hw_command.specs.declared.outcome.CertOutcome.TheVariants.{Shows}
use Rattle.hw_command_check.specs.Renewing.{StillShows, version_for}
use Rattle.hw_command_check.specs.Rewriting.{SendsRenewed}
use Rattle.hw_command_check.specs.declared.renewing.ShownAgain.{ShownAgain}

-- the lines that show something
abbrev shown_by : {f : Problem} {cert : List ℕ} {x y : DeskState} → (h : StartsOn KeepsLines f cert x y) → Keeps f (x.held cert) (cert_outcome_to Three f) (cert_stream_to Three (shape_of f)) h.reads.reads.1.lines (Shows h.shows)
shown_by {f = f} {cert = cert} {x = x} h = subst (λ (o : CertOutcome). Keeps f (x.held cert) (cert_outcome_to Three f) (cert_stream_to Three (shape_of f)) h.reads.reads.1.lines o) h.outcome h.reads.reads.1.keeps

-- they show the same once renewed
shows_again : {f : Problem} {cert : List ℕ} {x y : DeskState} → (h : StartsOn KeepsLines f cert x y) → StillShows f h.shows h.read.bound (renewed h.reads.reads.1.lines)
shows_again {f = f} h =
    let k = h.reads.reads.1 in
    let shown = shown_by h in
    let again = renewing_keeps f k.lines shown.valid in
    record { fit = again.fit shown.fit; valid = again.valid; verdict = shown.comes.0 ∙ sym again.same_verdict; last_bound = k.last ∙ sym again.same_bound }

-- they went to Proof, or a part of their text
pub sends_renewed : {f : Problem} {cert proof : List ℕ} {x y z : DeskState} {sent : Result Unit DeskFailed} (course : Course) (shown : ShownAgain) (made : List Line) → StartsCourse f cert x y course → shown.verdict ≡ verdict course.checker.problem course.lines.items → shown.bound ≡ bound_of course.lines.items → made ≡ renewed course.lines.items → SendsTo proof (cert_text (version_for made) made) y z sent → SendsRenewed f cert proof x z shown sent
sends_renewed {f = f} {proof = proof} {y = y} {z = z} {sent = sent} course shown made h told bound is sends =
    let s = h.starts in
    record {
      mid = y;
      starts = s;
      verdict = told ∙ ap (λ (g : Problem). verdict g course.lines.items) h.stands.checked ∙ ap (verdict f) h.lines ∙ sym (shown_by s).comes.0;
      bound = bound ∙ ap bound_of h.lines ∙ sym s.reads.reads.1.last;
      again = shows_again s;
      sends = subst (λ (all : List Line). SendsTo proof (cert_text (version_for all) all) y z sent) (is ∙ ap renewed h.lines) sends;
    }

-- the lines of a course are valid
pub course_valid : {f : Problem} {cert : List ℕ} {x y : DeskState} {course : Course} → StartsCourse f cert x y course → Valid f course.lines.items
course_valid {f = f} h = subst (λ (all : List Line). Valid f all) (sym h.lines) h.starts.reads.reads.1.keeps.valid
