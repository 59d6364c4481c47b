-- A certificate whose lines are kept.
use Rattle.std.proofs.Common.{◌≡◌, ◌∙◌, ◌+◌, ◌-◌, ℕ, true, arith, List, [], ◌∷◌, ◌++◌, Option, Some, None, Ok, All, refl, sym, ap, subst, append_assoc}
use Rattle.std.specs.Prelude.{IfSome, IsSome, IsSomeAnd, is_none, if◌then◌else◌}
use Rattle.hw_model.specs.Problem.{Problem, shape_of}
use Rattle.hw_model.specs.declared.shape.Shape.{Shape}
use Rattle.hw_text.specs.Parts.{parts_of}
use Rattle.hw_desk.specs.State.{DeskState}
use Rattle.hw_desk.specs.Calls.{Moves}
use Rattle.hw_desk.specs.declared.desk.Feed.TheVariants.{Certificate}
use Rattle.hw_desk.proofs.Chain.{only_feed_on}
use Rattle.hw_cert_lines.specs.declared.line.Line.{Line}
use Rattle.hw_cert_lines.specs.Valid.{LineFits, Valid}
use Rattle.hw_cert.specs.Nexts.{rest_of, ReadPast}
use Rattle.hw_cert.specs.Reader.{ReaderModel}
use Rattle.hw_cert.specs.declared.version.Version.{Version}
use Rattle.hw_cert.specs.Stream.{start_to, CertLines, stream_of}
use Rattle.hw_cert.proofs.Answered.{told_map, some_map}
use Rattle.hw_check.specs.Follows.{CheckerFollows}
use Rattle.hw_check.specs.States.{CheckState, no_lines}
use Rattle.hw_command.specs.Checking.{Reached, rest_outcome, ComesOrStops, IsCheckingOpen, line_number}
use Rattle.hw_command.specs.Inputs.{Enters}
use Rattle.hw_command.specs.Keeping.{before_lines, complete_lines, rest_read, StepReads, Keeps}
use Rattle.hw_command.specs.declared.cert.CertStep.TheVariants.{Ended}
use Rattle.hw_command.specs.declared.outcome.CertOutcome.{CertOutcome}
use Rattle.hw_command.specs.declared.outcome.CertOutcome.TheVariants.{Shows, Wrong, TooLong}
use Rattle.hw_command.proofs.Checked.{ComesNext, streamed}
use Rattle.hw_command.proofs.Chained.{comes_back, none_pending}

-- the line that comes next is the next one that is read
pub line_read_on : (x y : DeskState) (r reader : ReaderModel) (line : Line) (f : Problem) (before : List Line) → r.shape ≡ shape_of f → ComesNext r reader line x y
    → IfSome (rest_of r x) (λ rest. IsSomeAnd (rest_of reader y) (λ more. rest_read f before r.at rest ≡ rest_read f (before ++ line ∷ []) reader.at more))
line_read_on x y r reader line f before same next =
    told_map (rest_of r x) (λ rest. some_map (rest_of reader y) (λ more e.
    let left : CertLines = stream_of (shape_of f) reader.at (parts_of 10 more) in
    ap (before_lines before) (streamed f r rest _ same e)
    ∙ ap (λ (all : List Line). record { lines = all; stop = left.stop }) (sym (append_assoc before (line ∷ []) left.lines)))) next

-- what is read to the end of the lines left is what was to be read
read_back : {A : Type 0} (a c : List ℕ → A) (b : A) (told rest : Option (List ℕ)) → IfSome told (λ x. IsSomeAnd rest (λ y. a x ≡ c y)) → IfSome rest (λ y. c y ≡ b) → IfSome told (λ x. a x ≡ b)
read_back a c b None rest h k = tt
read_back a c b (Some x) None h k = absurd h
read_back a c b (Some x) (Some y) h k = h ∙ k

-- what is kept after lines that were taken
pub kept_later : {f : Problem} {told : Option (List ℕ)} {outcome : List ℕ → CertOutcome} {read : List ℕ → CertLines} {all : List Line} {r : ReaderModel} {c : CheckState} {y : DeskState} (x z : DeskState) (o : CertOutcome) (left : Option CheckState)
    → Reached f told outcome all r c y → IfSome told (λ bytes. IsSomeAnd (rest_of r y) (λ rest. read bytes ≡ rest_read f all r.at rest)) → y.read_faults ≡ x.read_faults
    → ComesOrStops f all (rest_of r y) (rest_outcome f all r.at) y z (Ok o) → StepReads f all r y z (Ended (Ok o) left) → (z.read_faults ≡ x.read_faults) × Keeps f told outcome read all o
kept_later {f = f} {told = told} {outcome = outcome} {read = is_read} {all = all} {r = r} {y = y} x z (Shows v) left h read kept k reads = (
  k.0 ∙ kept,
  record {
    fit = subst (λ (p : Problem). All (LineFits p) all) h.problem h.follows.fit;
    valid = subst (λ (p : Problem). Valid p all) h.problem h.follows.valid;
    comes = comes_back f all told (rest_of r y) outcome (rest_outcome f all r.at) (Shows v) h.rest k.1;
    reads = read_back is_read (rest_read f all r.at) (complete_lines all) told (rest_of r y) read reads;
  },
)
kept_later {f = f} {told = told} {outcome = outcome} {all = all} {r = r} {y = y} x z (Wrong number word hint) left h read kept k reads = (
  k.0 ∙ kept,
  record {
    fit = subst (λ (p : Problem). All (LineFits p) all) h.problem h.follows.fit;
    valid = subst (λ (p : Problem). Valid p all) h.problem h.follows.valid;
    comes = comes_back f all told (rest_of r y) outcome (rest_outcome f all r.at) (Wrong number word hint) h.rest k.1;
    reads = tt;
  },
)
kept_later {f = f} {told = told} {outcome = outcome} {all = all} {r = r} {y = y} x z TooLong left h read kept k reads = (
  k.0 ∙ kept,
  record {
    fit = subst (λ (p : Problem). All (LineFits p) all) h.problem h.follows.fit;
    valid = subst (λ (p : Problem). Valid p all) h.problem h.follows.valid;
    comes = comes_back f all told (rest_of r y) outcome (rest_outcome f all r.at) TooLong h.rest k.1;
    reads = tt;
  },
)

-- a certificate that was begun, and of which bytes were read
pub enters_on : {cert bytes : List ℕ} {x y z : DeskState} → Enters Certificate cert x y → Moves Certificate bytes y z → Enters Certificate cert x z
enters_on {cert = cert} h m = record {
  only = only_feed_on h.only m.only;
  begun = m.begun ∙ h.begun;
  named = subst (λ (n : Option (List ℕ)). IfSome n (λ t. t ≡ cert)) (sym m.named) h.named;
}

-- a reader and a checker that were made for a certificate that was begun
pub open_is : {most : Version} {f : Problem} {told : Option (List ℕ)} {now : DeskState} (shape : Shape) (r : ReaderModel) (c : CheckState) → shape ≡ shape_of f → r ≡ record { shape = shape; feed = Certificate; at = start_to most; pending = [] } → c ≡ no_lines f → CheckerFollows c [] → (now.feeds Certificate).begun ≡ true → (now.feeds Certificate).left ≡ told → IsCheckingOpen most f told r c now
open_is {most = most} {f = f} {told = told} {now = now} shape r c same e h follows begun left =
    let problem : c.problem ≡ f = ap (λ (k : CheckState). k.problem) h in
    subst (λ (q : ReaderModel). IsCheckingOpen most f told q c now) (sym e) (record {
      ready = record { shape = same ∙ ap shape_of (sym problem); feed = refl; limit = omega arith; begun = begun };
      follows = follows;
      problem = problem;
      first = refl;
      left = none_pending (now.feeds Certificate).left ∙ left;
    })

-- the number of the line after which a reader stands, by that of the next one
pub line_count : {r reader : ReaderModel} {line : Line} (number : ℕ) → ReadPast r reader line → number ≡ reader.at.number → (number - 1) + 1 ≡ line_number reader.at
line_count {r = r} {reader = reader} number h e = on r.at.version reader.at.version h.version (e ∙ h.number) e
  where
    on : (v w : Option Version) → IsSome w → number ≡ r.at.number + (if is_none v then 2 else 1) → number ≡ reader.at.number → (number - 1) + 1 ≡ reader.at.number + (if is_none w then 1 else 0)
    on v None some count same = absurd (cc)
    on None (Some w) some count same = omega arith
    on (Some v) (Some w) some count same = omega arith
