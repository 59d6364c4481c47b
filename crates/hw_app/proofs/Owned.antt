-- A certificate that a search wrote, checked.
use Rattle.std.proofs.Common.{◌≡◌, ◌⊎◌, ◌+◌, ◌++◌, ◌∙◌, ℕ, Bool, true, List, [], ◌∷◌, Option, Some, None, Result, Ok, All, inl, inr, refl, sym, ap, subst, append-nil, append_assoc}
use Rattle.std.specs.Prelude.{if◌then◌else◌}
use Rattle.std.specs.List.{AllByRecursion, list_all}
use Rattle.std.proofs.lemmas.Bool.{and_parts}
use Rattle.std.proofs.lemmas.List.Elements.{All-nil, All-cons, All-head, All-tail, All-append}
use Rattle.hw_model.specs.Problem.{Problem, shape_of}
use Rattle.hw_cert_lines.specs.declared.check.Refusal.{Refusal}
use Rattle.hw_model.specs.declared.lit.Lit.{Lit}
use Rattle.hw_cert_lines.specs.declared.line.Line.{Line}
use Rattle.hw_cert_lines.specs.declared.line.Line.TheVariants as kinds
use Rattle.hw_cert_lines.specs.Lines.{clause_of}
use Rattle.hw_cert_lines.specs.Tolled.{is_plain}
use Rattle.hw_cert_lines.specs.Refusals.{refusal}
use Rattle.hw_cert_lines.specs.Valid.{LineFits, ValidFrom, Valid, verdict}
use Rattle.hw_cert_lines.specs.declared.check.Verdict.{Verdict}
use Rattle.hw_cert_laws.specs.Renewing.{last_named, never_named, deletion, deletions, undeleting, next_number, renewed_from, renewed}
use Rattle.hw_cert_laws.proofs.Fitting.{renewing_keeps}
use Rattle.hw_cert_laws.proofs.Refused.{plain_judge, from_valid, valid_from}
use Rattle.hw_cert.specs.declared.stop.FormWord.{FormWord}
use Rattle.hw_cert.specs.declared.version.Version.{Version}
use Rattle.hw_cert.specs.declared.version.Version.TheVariants.{Two, Three}
use Rattle.hw_cert.specs.Certs.{Cert, BadLine, cert_read}
use Rattle.hw_cert.specs.Laws.{StreamAgrees, IsLine}
use Rattle.hw_cert.specs.Stream.{CertEnd, complete, broken, overlong, cert_stream}
use Rattle.hw_cert.specs.Texts.{cert_text}
use Rattle.hw_cert.proofs.ValidText.{are_lines, none_few}
use Rattle.hw_cert.proofs.WordBytes.{both_on}
use Rattle.hw_cert.proofs.Formed.{plain_formed, plain_read}
use Rattle.hw_cert.proofs.Shapes.{fits_problem}
use Rattle.hw_cert.proofs.WholeCerts.{cert_again, cert_back, stream_agrees}
use Rattle.hw_cert.proofs.ValidCerts.{one_cert}
use Rattle.hw_command.specs.Certificates.{cert_outcome, end_outcome, line_outcome, lines_outcome}
use Rattle.hw_command_check.specs.Renewing.{version_for}
use Rattle.hw_app.specs.Laws.{IsShownByCertificate, OwnCertificate, RenewedCertificate, ShowsValid}
use Rattle.hw_command.specs.declared.outcome.CertOutcome.{CertOutcome}
use Rattle.hw_command.specs.declared.outcome.CertOutcome.TheVariants.{Shows}

-- ---- plain lines

-- the line says nothing of tolls or prices
abbrev Plain : Line → Type 0
Plain line = is_plain line ≡ true

all_plain : (all : List Line) → list_all is_plain all ≡ true → All Plain all
all_plain [] e = All-nil Plain
all_plain (line ∷ more) e =
    let parts = and_parts (is_plain line) (list_all is_plain more) e in
    All-cons Plain line more parts.0 (all_plain more parts.1)

pub plain_all : (all : List Line) → All Plain all → list_all is_plain all ≡ true
plain_all [] h = refl
plain_all (line ∷ more) h = both_on (is_plain line) (list_all is_plain more) (All-head Plain line more h) (plain_all more (All-tail Plain line more h))

deletion_plain : (ids : List ℕ) → All Plain (deletion ids)
deletion_plain [] = All-nil Plain
deletion_plain (id ∷ ids) = All-cons Plain (kinds.Delete (id ∷ ids)) [] refl (All-nil Plain)

deletions_plain : (n : ℕ) (line : Line) (later : List Line) (o : Option (List Lit)) → All Plain (deletions n line later o)
deletions_plain n line later None = All-nil Plain
deletions_plain n line later (Some []) = All-nil Plain
deletions_plain n line later (Some (lit ∷ lits)) = All-append Plain (deletion (last_named line later)) (deletion (never_named n later)) (deletion_plain (last_named line later)) (deletion_plain (never_named n later))

itself_plain : (line : Line) → is_plain line ≡ true → All Plain (undeleting line)
itself_plain (kinds.Table table) e = All-cons Plain _ [] e (All-nil Plain)
itself_plain (kinds.Explain n clause) e = All-cons Plain _ [] e (All-nil Plain)
itself_plain (kinds.Order v w x clause) e = All-cons Plain _ [] e (All-nil Plain)
itself_plain (kinds.Goal clause) e = All-cons Plain _ [] e (All-nil Plain)
itself_plain (kinds.Lemma clause hints) e = All-cons Plain _ [] e (All-nil Plain)
itself_plain (kinds.Delete ids) e = All-nil Plain
itself_plain (kinds.Toll toll) e = absurd (cc)
itself_plain (kinds.Tariff tariff) e = absurd (cc)
itself_plain (kinds.Priced clause) e = absurd (cc)
itself_plain (kinds.Bound bound) e = absurd (cc)

renewed_plain : (n : ℕ) (all : List Line) → All Plain all → All Plain (renewed_from n all)
renewed_plain n [] h = All-nil Plain
renewed_plain n (line ∷ later) h =
    let due = deletions n line later (clause_of line) in
    let rest = renewed_from (next_number n (clause_of line)) later in
    All-append Plain (undeleting line ++ due) rest
    (All-append Plain (undeleting line) due (itself_plain line (All-head Plain line later h)) (deletions_plain n line later (clause_of line)))
    (renewed_plain (next_number n (clause_of line)) later (All-tail Plain line later h))

-- ---- what lines show

-- valid lines to the end show their verdict
valid_shows : (f : Problem) (more before : List Line) (number : ℕ) → All Plain more → All (LineFits f) more → ValidFrom f before more → lines_outcome f before number more complete ≡ Shows (verdict f (before ++ more))
valid_shows f [] before number plain fit valid = ap (λ (all : List Line). Shows (verdict f all)) (sym (append-nil before))
valid_shows f (line ∷ more) before number plain fit valid =
    ap (λ (r : Option Refusal). line_outcome number r (lines_outcome f (before ++ line ∷ []) (number + 1) more complete)) (from_valid f before line (All-head (LineFits f) line more fit) (plain_judge f before line (All-head Plain line more plain)) valid.0)
    ∙ valid_shows f more (before ++ line ∷ []) (number + 1) (All-tail Plain line more plain) (All-tail (LineFits f) line more fit) valid.1
    ∙ ap (λ (all : List Line). Shows (verdict f all)) (append_assoc before (line ∷ []) more)

-- and where a verdict is shown, these are the lines up to the end
pub record Ended (f : Problem) (before more : List Line) (stop : CertEnd) (v : Verdict) : Type 0 where
  pub whole : stop ≡ complete
  pub valid : All (LineFits f) more → ValidFrom f before more
  pub proves : v ≡ verdict f (before ++ more)

same_shown : {v w : Verdict} → Shows v ≡ Shows w → v ≡ w
same_shown e = cc

shown_ends : (f : Problem) (before : List Line) (stop : CertEnd) (v : Verdict) → end_outcome f before stop ≡ Shows v → Ended f before [] stop v
shown_ends f before complete v e = record { whole = refl; valid = λ fit. tt; proves = sym (same_shown e) ∙ ap (verdict f) (sym (append-nil before)) }
shown_ends f before (broken number word) v e = absurd (cc)
shown_ends f before overlong v e = absurd (cc)

not_refused : (number : ℕ) (r : Option Refusal) (later : CertOutcome) (v : Verdict) → line_outcome number r later ≡ Shows v → (r ≡ None) × (later ≡ Shows v)
not_refused number None later v e = (refl, e)
not_refused number (Some r) later v e = absurd (cc)

shown_lines : (f : Problem) (more before : List Line) (number : ℕ) (stop : CertEnd) (v : Verdict) → All Plain more → lines_outcome f before number more stop ≡ Shows v → Ended f before more stop v
shown_lines f [] before number stop v plain e = shown_ends f before stop v e
shown_lines f (line ∷ more) before number stop v plain e =
    let parts = not_refused number (refusal f before line) (lines_outcome f (before ++ line ∷ []) (number + 1) more stop) v e in
    let later = shown_lines f more (before ++ line ∷ []) (number + 1) stop v (All-tail Plain line more plain) parts.1 in
    record {
      whole = later.whole;
      valid = λ fit. (valid_from f before line (All-head (LineFits f) line more fit) (plain_judge f before line (All-head Plain line more plain)) parts.0, later.valid (All-tail (LineFits f) line more fit));
      proves = later.proves ∙ ap (verdict f) (append_assoc before (line ∷ []) more);
    }

all_fit : (f : Problem) (version : Version) (all : List Line) → AllByRecursion (IsLine (shape_of f) version) all → All (LineFits f) all
all_fit f version [] h = All-nil (LineFits f)
all_fit f version (line ∷ more) h = All-cons (LineFits f) line more (fits_problem f line h.0.fits) (all_fit f version more h.1)

lines_fit : (f : Problem) (bytes : List ℕ) (version : Version) (all : List Line) → cert_read (shape_of f) bytes ≡ Ok (record { version = version; lines = all }) → All (LineFits f) all
lines_fit f bytes version all e = all_fit f version all (cert_back Two (shape_of f) bytes version all e).each

shown_by : (f : Problem) (bytes : List ℕ) (v : Verdict) (lines : List Line) (stop : CertEnd) → stop ≡ (cert_stream (shape_of f) bytes).stop → Ended f [] lines stop v → StreamAgrees stop lines (cert_read (shape_of f) bytes) → IsShownByCertificate f bytes v
shown_by f bytes v lines complete same h a = record {
  version = a.0;
  lines = lines;
  within = λ e. not_long (same ∙ e);
  read = a.1;
  valid = h.valid (lines_fit f bytes a.0 lines a.1);
  proves = h.proves;
}
  where
    not_long : complete ≡ overlong → ⊥
    not_long e = cc
shown_by f bytes v lines (broken number word) same h a = absurd (broken_ends number word h.whole)
  where
    broken_ends : (number : ℕ) (word : FormWord) → broken number word ≡ complete → ⊥
    broken_ends number word e = cc
shown_by f bytes v lines overlong same h a = absurd (long_ends h.whole)
  where
    long_ends : overlong ≡ complete → ⊥
    long_ends e = cc

by_end : (f : Problem) (all : List Line) (version : Version) (lines : List Line) (stop : CertEnd) (read : Result Cert BadLine) → All Plain all → All (LineFits f) all → Valid f all → read ≡ Ok (record { version = version; lines = all }) → StreamAgrees stop lines read → (stop ≡ overlong) ⊎ (lines_outcome f [] 2 lines stop ≡ Shows (verdict f all))
by_end f all version lines complete read plain fit valid e a =
    let same : all ≡ lines = ap (λ (c : Cert). c.lines) (one_cert e a.1) in
    inr (subst (λ (xs : List Line). lines_outcome f [] 2 xs complete ≡ Shows (verdict f all)) same (valid_shows f all [] 2 plain fit valid))
by_end f all version lines (broken number word) read plain fit valid e a = absurd (cc)
by_end f all version lines overlong read plain fit valid e a = inl refl

pub own_certificate : OwnCertificate
own_certificate f all flat plain fit valid =
    let bytes = cert_text Two all in
    let lines = cert_stream (shape_of f) bytes in
    let each = are_lines f Two all [] (plain_formed all (plain_all all plain)) flat (none_few f) fit valid in
    by_end f all Two lines.lines lines.stop (cert_read (shape_of f) bytes) plain fit valid (cert_again Two (shape_of f) bytes Two all flat.some_ship (record { text = refl; within = refl; each = each })) (stream_agrees Two (shape_of f) bytes)

by_verdict : {A : Type 0} {o : CertOutcome} {v w : Verdict} → v ≡ w → A ⊎ (o ≡ Shows v) → A ⊎ (o ≡ Shows w)
by_verdict e (inl a) = inl a
by_verdict e (inr p) = inr (p ∙ ap Shows e)

-- they are written in the second version
plain_text : (all : List Line) → All Plain all → cert_text (version_for all) all ≡ cert_text Two all
plain_text all h = ap (λ (b : Bool). cert_text (if b then Two else Three) all) (plain_all all h)

pub renewed_certificate : RenewedCertificate
renewed_certificate f all flat plain fit valid =
    let again = renewing_keeps f all valid in
    let each = renewed_plain 1 all plain in
    let second = by_verdict again.same_verdict (own_certificate f (renewed all) flat each (again.fit fit) again.valid) in
    subst (λ (text : List ℕ). ((cert_stream (shape_of f) text).stop ≡ overlong) ⊎ (cert_outcome f text ≡ Shows (verdict f all))) (sym (plain_text (renewed all) each)) second

-- lines that are read are plain
read_plain : (f : Problem) (bytes : List ℕ) (version : Version) (all : List Line) (lines : List Line) (stop : CertEnd) → (stop ≡ overlong → ⊥) → All Plain lines → cert_read (shape_of f) bytes ≡ Ok (record { version = version; lines = all }) → StreamAgrees stop lines (cert_read (shape_of f) bytes) → All Plain all
read_plain f bytes version all lines complete within plain e a = subst (All Plain) (sym (ap (λ (c : Cert). c.lines) (one_cert e a.1))) plain
read_plain f bytes version all lines (broken number word) within plain e a = absurd (cc)
read_plain f bytes version all lines overlong within plain e a = absurd (within refl)

shows_by : (f : Problem) (bytes : List ℕ) (v : Verdict) → IsShownByCertificate f bytes v → cert_outcome f bytes ≡ Shows v
shows_by f bytes v h =
    let lines = cert_stream (shape_of f) bytes in
    let agrees = stream_agrees Two (shape_of f) bytes in
    let plain = read_plain f bytes h.version h.lines lines.lines lines.stop h.within (all_plain lines.lines (plain_read (shape_of f) bytes)) h.read agrees in
    within h.within (by_end f h.lines h.version lines.lines lines.stop (cert_read (shape_of f) bytes) plain (lines_fit f bytes h.version h.lines h.read) h.valid h.read agrees) ∙ ap Shows (sym h.proves)
  where
    within : {A B : Type 0} → (A → ⊥) → A ⊎ B → B
    within below (inl a) = absurd (below a)
    within below (inr b) = b

pub shows_valid : ShowsValid
shows_valid f bytes v = record {
  shown = λ e. let lines = cert_stream (shape_of f) bytes in shown_by f bytes v lines.lines lines.stop refl (shown_lines f lines.lines [] 2 lines.stop v (all_plain lines.lines (plain_read (shape_of f) bytes)) e) (stream_agrees Two (shape_of f) bytes);
  shows = shows_by f bytes v;
}
