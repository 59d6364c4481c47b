-- The bytes decide what is drawn.
use Rattle.std.proofs.Common.{◌≡◌, ◌≤◌, ◌⊎◌, ◌∙◌, ℕ, cond, List, length, Option, Some, inl, inr, refl, sym, ap, subst}
use Rattle.std.specs.Prelude.{IfSome}
use Rattle.std.proofs.lemmas.Bool.{le-ltb, lt-ltb}
use Rattle.hw_model.specs.Problem.{Problem, shape_of}
use Rattle.hw_desk.specs.declared.desk.Feed.TheVariants.{Flat, Certificate}
use Rattle.hw_flat.specs.Text.{flat_text as text_read}
use Rattle.hw_cert_lines.specs.declared.check.Verdict.{Verdict}
use Rattle.hw_cert_lines.specs.declared.line.Line.{Line}
use Rattle.hw_cert_lines.specs.Lines.{last_table}
use Rattle.hw_cert_lines.specs.Tolled.{bound_of}
use Rattle.hw_cert.specs.declared.version.Version.TheVariants.{Three}
use Rattle.hw_cert.specs.Stream.{CertLines, cert_stream_to}
use Rattle.hw_report.specs.Reports.{Report, Naming, checked, picture, refused, too_long}
use Rattle.hw_command.specs.Certificates.{cert_outcome_to}
use Rattle.hw_command.specs.Inputs.{NoFlat}
use Rattle.hw_command.specs.Keeping.{complete_lines}
use Rattle.hw_command.specs.Values.{most_bytes, IsProblemText}
use Rattle.hw_command.specs.declared.outcome.CertOutcome.{CertOutcome}
use Rattle.hw_command.specs.declared.outcome.CertOutcome.TheVariants.{Shows}
use Rattle.hw_command.proofs.FlatForms.{by_line}
use Rattle.hw_repair.specs.Wishes.{PlanParts}
use Rattle.hw_subject.specs.Meanings.{judged}
use Rattle.hw_subject.specs.Subjects.{Subject, flat_subject, topic_subject}
use Rattle.hw_subject.specs.Decided.{ReportedBy}
use Rattle.hw_subject.specs.Shown.{Refused, Shown}
use Rattle.hw_subject.proofs.Decided.{one_of, subjects_decided_law, told_bytes}
use Rattle.hw_command_chart.specs.Charts.{Draws, Charts, picture_of}
use Rattle.hw_command_chart.specs.Laws.{OneChart, TextsDecideChart}
use Rattle.hw_command_chart.specs.Texts.{outcome_chart, judged_chart, cert_chart, read_chart, texts_chart}
use Rattle.hw_subject.specs.Texts.{cert_table}

-- ---- by what is read of the inputs

-- the report that the certificate's bytes give by what is read
abbrev pub drawn_of : (s : Subject) → List ℕ → s.Value → Report
drawn_of s bytes v = cert_chart (s.naming v) (s.problem v) (s.plan v) bytes

abbrev pub DrawnBy : (s : Subject) → (List ℕ → Option (List ℕ)) → List ℕ → Report → Type 0
DrawnBy s held bytes r = ReportedBy s held (drawn_of s bytes) r

-- valid lines of the judged problem that are all of the certificate's
drawn_told : (names : Naming) (f : Problem) (plan : Option PlanParts) (g : Problem) (bytes : List ℕ) (lines : List Line) (w : Verdict) (bound : Option ℕ) (table : Option (List ℕ)) → bound ≡ bound_of lines → table ≡ last_table lines → cert_stream_to Three (shape_of g) bytes ≡ complete_lines lines → Shows w ≡ cert_outcome_to Three g bytes → picture w (picture_of names f plan table (record { verdict = w; bound = bound })) ≡ judged_chart names f plan g bytes
drawn_told names f plan g bytes lines w bound table b t read o =
    ap (λ (t : Option (List ℕ)). picture w (picture_of names f plan t (record { verdict = w; bound = bound }))) (t ∙ sym (ap (λ (all : CertLines). last_table all.lines) read))
    ∙ ap (λ (b : Option ℕ). picture w (picture_of names f plan (cert_table g bytes) (record { verdict = w; bound = b }))) (b ∙ sym (ap (λ (all : CertLines). bound_of all.lines) read))
    ∙ ap (outcome_chart names f plan g bytes) o

picture_by : {held : List ℕ → Option (List ℕ)} {cert bytes drawn : List ℕ} {w : Verdict} (s : Subject) → held cert ≡ Some bytes → Draws s cert held w drawn → DrawnBy s held bytes (picture w drawn)
picture_by {bytes = bytes} {w = w} s told says =
    let v = says.value in
    let shown = subst (λ (o : Option (List ℕ)). Shown s v Three o w says.bound says.table) told says.shown in
    record {
      value = v;
      reads = says.reads;
      report = ap (picture w) says.is_picture ∙ drawn_told (s.naming v) (s.problem v) (s.plan v) (judged s v) bytes shown.lines w says.bound says.table shown.last_bound shown.last_table shown.reads shown.outcome;
    }

outcome_by : {held : List ℕ → Option (List ℕ)} {cert bytes : List ℕ} {o : CertOutcome} {r : Report} (s : Subject) → held cert ≡ Some bytes → (says : Refused s Three cert held o) → r ≡ outcome_chart (s.naming says.value) (s.problem says.value) (s.plan says.value) (judged s says.value) bytes o → DrawnBy s held bytes r
outcome_by {bytes = bytes} {o = o} s told says is =
    let v = says.value in
    let outcome : o ≡ cert_outcome_to Three (judged s v) bytes = subst (λ (x : Option (List ℕ)). IfSome x (λ bs. o ≡ cert_outcome_to Three (judged s v) bs)) told says.outcome in
    record { value = v; reads = says.reads; report = is ∙ ap (outcome_chart (s.naming v) (s.problem v) (s.plan v) (judged s v) bytes) outcome }

pub decided : (s : Subject) (cert bytes : List ℕ) (held : List ℕ → Option (List ℕ)) (r : Report) → held cert ≡ Some bytes → Charts s cert held r → s.Refuses held r ⊎ DrawnBy s held bytes r
decided s cert bytes held (picture w drawn) told says = inr (picture_by s told says)
decided s cert bytes held (checked w bound ships names) told says = absurd says
decided s cert bytes held (refused number word hint) told says = inr (outcome_by s told says refl)
decided s cert bytes held (too_long Certificate) told says = inr (outcome_by s told says refl)
decided s cert bytes held r told says = inl says

-- ---- by all the bytes

pub one_chart_law : OneChart
one_chart_law topic cert held r t all told h g =
    let s = topic_subject topic in
    let bytes = told_bytes (held cert) told in
    one_of s held (drawn_of s bytes.0) r t (subjects_decided_law topic held all) (decided s cert bytes.0 held r bytes.1 h) (decided s cert bytes.0 held t bytes.1 g)

-- ---- a flat text

within : (text bytes : List ℕ) → length text ≤ most_bytes → texts_chart text bytes ≡ read_chart (text_read text) bytes
within text bytes h = ap (λ b. cond b (too_long Flat) (read_chart (text_read text) bytes)) (le-ltb _ _ h)

no_flat : (text bytes : List ℕ) (r : Report) → NoFlat (Some text) r → r ≡ texts_chart text bytes
no_flat text bytes r h = by_line (Some text) (λ (r : Report). r ≡ texts_chart text bytes) r (λ number word bad. sym (within text bytes bad.0 ∙ ap (λ read. read_chart read bytes) bad.1)) (λ long. sym (ap (λ passes. cond passes (too_long Flat) (read_chart (text_read text) bytes)) (lt-ltb _ _ long))) h

by_text : (name text bytes : List ℕ) (held : List ℕ → Option (List ℕ)) (r : Report) → held name ≡ Some text → (flat_subject name).Refuses held r ⊎ DrawnBy (flat_subject name) held bytes r → r ≡ texts_chart text bytes
by_text name text bytes held r told (inl bad) = no_flat text bytes r (subst (λ (o : Option (List ℕ)). NoFlat o r) told bad)
by_text name text bytes held r told (inr drawn) =
    let is_text : IsProblemText drawn.value text = subst (λ (o : Option (List ℕ)). IfSome o (IsProblemText drawn.value)) told drawn.reads.reads in
    drawn.report ∙ sym (within text bytes is_text.0 ∙ ap (λ read. read_chart read bytes) is_text.1)

pub texts_decide_law : TextsDecideChart
texts_decide_law name cert text bytes held r told read says = by_text name text bytes held r told (decided (flat_subject name) cert bytes held r read says)
