-- One line more of a certificate.
use Rattle.std.proofs.Common.{◌≡◌, ◌+◌, ℕ, List, [], ◌∷◌, ◌++◌, Option, Some, None, Err, refl, sym, ap, ◌∙◌, subst, arith}
use Rattle.std.specs.Prelude.{IfSome, IsSome, IsSomeAnd, is_none, if◌then◌else◌}
use Rattle.hw_model.specs.declared.shape.Shape.{Shape}
use Rattle.hw_model.specs.Problem.{Problem, shape_of}
use Rattle.hw_text.specs.Parts.{parts_of}
use Rattle.hw_desk.specs.State.{DeskState}
use Rattle.hw_cert.proofs.Streams.{steps}
use Rattle.hw_cert_lines.specs.declared.check.Refusal.{Refusal}
use Rattle.hw_cert_lines.specs.declared.line.Line.{Line}
use Rattle.hw_cert.specs.declared.stop.FormWord.{FormWord}
use Rattle.hw_cert.specs.declared.stop.LineStop.{LineStop}
use Rattle.hw_cert.specs.declared.stop.LineStop.TheVariants as lines
use Rattle.hw_check.specs.declared.stop.CheckStop.{CheckStop}
use Rattle.hw_check.specs.declared.stop.CheckStop.TheVariants as checks
use Rattle.hw_check.specs.Follows.{Stops}
use Rattle.hw_cert.specs.declared.version.Version.{Version}
use Rattle.hw_cert.specs.Laws.{following}
use Rattle.hw_cert.specs.Nexts.{rest_of, next_line, ReadPast, TakesNextLine}
use Rattle.hw_cert.specs.Reader.{ReaderModel}
use Rattle.hw_cert_lines.specs.Refusals.{refusal}
use Rattle.hw_cert.specs.Stream.{NextLine, comes, bad, too_long, next_of, CertLines, stream_of}
use Rattle.hw_cert.proofs.Answered.{told_map, some_map}
use Rattle.hw_report.specs.declared.report.RefusedWord.TheVariants.{Form, Check}
use Rattle.hw_command.specs.Certificates.{line_outcome}
use Rattle.hw_command.specs.Checking.{line_number, left_outcome, rest_outcome, ComesOrStops, of_check_stop, of_line_stop}
use Rattle.hw_command.specs.declared.outcome.CertOutcome.TheVariants.{Wrong, TooLong}
use Rattle.hw_command.proofs.Told.{some_gives}

pub line_number_on : {r reader : ReaderModel} {line : Line} → ReadPast r reader line → line_number reader.at ≡ line_number r.at + 1
line_number_on {r = r} {reader = reader} h = on r.at.version reader.at.version h.version h.number
  where
    on : (v w : Option Version) → IsSome w → reader.at.number ≡ r.at.number + (if is_none v then 2 else 1) → reader.at.number + (if is_none w then 1 else 0) ≡ r.at.number + (if is_none v then 1 else 0) + 1
    on v None is_some e = absurd (cc)
    on None (Some w) is_some e = omega arith
    on (Some v) (Some w) is_some e = omega arith

-- the lines that are left, by what comes next
pub streamed : (f : Problem) (r : ReaderModel) (rest : List ℕ) (next : NextLine) → r.shape ≡ shape_of f → next_line r rest ≡ next → stream_of (shape_of f) r.at (parts_of 10 rest) ≡ following (shape_of f) next
streamed f r rest next same e = steps (shape_of f) r.at (parts_of 10 rest) ∙ ap (following (shape_of f)) (subst (λ (s : Shape). next_of s r.at (parts_of 10 rest) ≡ next) same e)

-- the outcome of what is left, by what comes next
decided : (f : Problem) (before : List Line) (r : ReaderModel) (rest : List ℕ) (next : NextLine) → r.shape ≡ shape_of f → next_line r rest ≡ next → rest_outcome f before r.at rest ≡ left_outcome f before (line_number r.at) (following (shape_of f) next)
decided f before r rest next same e = ap (left_outcome f before (line_number r.at)) (streamed f r rest next same e)

-- a line comes next, after which the reader stands
abbrev pub ComesNext : ReaderModel → ReaderModel → Line → DeskState → DeskState → Type 0
ComesNext r reader line x y = IfSome (rest_of r x) (λ rest. IsSomeAnd (rest_of reader y) (λ more. next_line r rest ≡ comes line reader.at (parts_of 10 more)))

-- it is valid
pub valid_comes : (x y : DeskState) (r reader : ReaderModel) (line : Line) (f : Problem) (before : List Line) → r.shape ≡ shape_of f → ReadPast r reader line → refusal f before line ≡ None → ComesNext r reader line x y
    → IfSome (rest_of r x) (λ rest. IsSomeAnd (rest_of reader y) (λ more. rest_outcome f before r.at rest ≡ rest_outcome f (before ++ line ∷ []) reader.at more))
valid_comes x y r reader line f before same h none next =
    told_map (rest_of r x) (λ rest. some_map (rest_of reader y) (λ more e.
    let left : CertLines = stream_of (shape_of f) reader.at (parts_of 10 more) in
    decided f before r rest _ same e
    ∙ ap (λ (found : Option Refusal). line_outcome (line_number r.at) found (left_outcome f (before ++ line ∷ []) (line_number r.at + 1) left)) none
    ∙ ap (λ (number : ℕ). left_outcome f (before ++ line ∷ []) number left) (sym (line_number_on h)))) next

-- it isn't
pub wrong_comes : (x y : DeskState) (r reader : ReaderModel) (line : Line) (f : Problem) (before : List Line) (w : Refusal) (number : ℕ) → r.shape ≡ shape_of f → ReadPast r reader line → number + 1 ≡ line_number reader.at → refusal f before line ≡ Some w → ComesNext r reader line x y
    → IfSome (rest_of r x) (λ rest. Wrong number (Check w.word) w.hint ≡ rest_outcome f before r.at rest)
wrong_comes x y r reader line f before w number same h count is next =
    told_map (rest_of r x) (λ rest. some_gives (rest_of reader y) (λ more e.
    let left : CertLines = stream_of (shape_of f) reader.at (parts_of 10 more) in
    let e1 : line_number reader.at ≡ line_number r.at + 1 = line_number_on h in
    let place : number ≡ line_number r.at = omega arith in
    ap (λ (n : ℕ). Wrong n (Check w.word) w.hint) place
    ∙ sym (decided f before r rest _ same e ∙ ap (λ (found : Option Refusal). line_outcome (line_number r.at) found (left_outcome f (before ++ line ∷ []) (line_number r.at + 1) left)) is))) next

-- no line comes next, for its form or for its length
pub bad_comes : (r : ReaderModel) (f : Problem) (before : List Line) (number : ℕ) (word : FormWord) (known : Option (List ℕ)) → r.shape ≡ shape_of f → IfSome known (λ rest. next_line r rest ≡ bad number word) → IfSome known (λ rest. Wrong number (Form word) None ≡ rest_outcome f before r.at rest)
bad_comes r f before number word known same = told_map known (λ rest e. sym (decided f before r rest (bad number word) same e))

pub long_comes : (r : ReaderModel) (f : Problem) (before : List Line) (known : Option (List ℕ)) → r.shape ≡ shape_of f → IfSome known (λ rest. next_line r rest ≡ too_long) → IfSome known (λ rest. TooLong ≡ rest_outcome f before r.at rest)
long_comes r f before known same = told_map known (λ rest e. sym (decided f before r rest too_long same e))

-- the line that comes next isn't taken
pub line_refused : (x y : DeskState) (r reader : ReaderModel) (line : Line) (f : Problem) (before : List Line) (number : ℕ) (stop : CheckStop) → r.shape ≡ shape_of f → ReadPast r reader line → number + 1 ≡ line_number reader.at → Stops stop (refusal f before line) → ComesNext r reader line x y → y.read_faults ≡ x.read_faults
    → ComesOrStops f before (rest_of r x) (rest_outcome f before r.at) x y (of_check_stop number stop)
line_refused x y r reader line f before number (checks.Refused w) same h count is next kept = (kept, wrong_comes x y r reader line f before w number same h count is next)
line_refused x y r reader line f before number checks.NoMemory same h count is next kept = kept

-- no further line is read
pub none_had : (x y : DeskState) (r : ReaderModel) (f : Problem) (before : List Line) (stop : LineStop) → r.shape ≡ shape_of f → TakesNextLine r x y (Err stop)
    → ComesOrStops f before (rest_of r x) (rest_outcome f before r.at) x y (of_line_stop stop)
none_had x y r f before (lines.Form number word) same t = (t.kept (λ e. absurd (cc)), bad_comes r f before number word (rest_of r x) same t.next)
none_had x y r f before lines.Fault same t = t.fault refl
none_had x y r f before lines.TooLong same t = (t.kept (λ e. absurd (cc)), long_comes r f before (rest_of r x) same t.next)
none_had x y r f before lines.NoMemory same t = t.kept (λ e. absurd (cc))
