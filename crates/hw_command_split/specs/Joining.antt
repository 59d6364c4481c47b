-- `join` of any subject: the certificates of the parts of a split are checked, joined and sent to Proof.
use Rattle.std.specs.Prelude.{◌≡◌, ◌⊎◌, ℕ, List, [], ◌∷◌, ◌++◌, Option, Some, None, IfSome, Vec}
use Rattle.std.specs.declared.alloc.Global.{Global}
use Rattle.hw_model.specs.Problem.{Problem}
use Rattle.hw_desk.specs.State.{DeskState}
use Rattle.hw_desk.specs.declared.desk.Feed.{Feed}
use Rattle.hw_desk.specs.declared.desk.Feed.TheVariants.{Certificate, Split}
use Rattle.hw_desk.specs.declared.desk.Tray.TheVariants as tray
use Rattle.hw_cert_lines.specs.declared.check.Refusal.{Refusal}
use Rattle.hw_cert_lines.specs.declared.check.Verdict.{Verdict}
use Rattle.hw_cert_lines.specs.declared.line.Line.{Line}
use Rattle.hw_cert_lines.specs.Lines.{last_table}
use Rattle.hw_cert.specs.declared.version.Version.TheVariants.{Three}
use Rattle.hw_cert.specs.Texts.{cert_text}
use Rattle.hw_repair.specs.Wishes.{PlanParts}
use Rattle.hw_report.specs.Plans.{own_worth}
use Rattle.hw_report.specs.Reports.{Report, Naming, bad_text, checked, open_part, refused, too_long}
use Rattle.hw_report.specs.declared.report.RefusedWord.TheVariants.{Check}
use Rattle.hw_command.specs.Carries.{Task}
use Rattle.hw_command.specs.Scope.{named_feed, MakesProof}
use Rattle.hw_command.specs.Sending.{IsCutOf}
use Rattle.hw_command.specs.declared.outcome.CertOutcome.{CertOutcome}
use Rattle.hw_command.specs.declared.outcome.CertOutcome.TheVariants.{TooLong, Wrong}
use Rattle.hw_cert_course.specs.Going.{LineFails}
use Rattle.hw_cert_join.specs.Joining.{JoinsEach}
use Rattle.hw_cert_join.specs.declared.joined.Joined.{Joined}
use Rattle.hw_split_text.specs.declared.node.Node.{Node}
use Rattle.hw_subject.specs.Meanings.{IsBoundOf, VerdictSays, judged}
use Rattle.hw_subject.specs.Subjects.{Subject, LongText}
use Rattle.hw_command_split.specs.Certs.{AreCerts, CertsStopIn}
use Rattle.hw_command_split.specs.Splits.{IsBadSplit, IsSplitOf}

-- ---- the inputs

-- what is read, and a split of the judged problem
pub record GivesSplit (s : Subject) (split : List ℕ) (held : List ℕ → Option (List ℕ)) : Type 0 where
  pub value : s.Value
  pub reads : s.Reads held value
  pub nodes : List Node
  pub is : IsSplitOf (held split) (judged s value) nodes

-- ---- what is said

-- the certificates, where they are told, and lines that they were joined to: each is valid after those before it, and a room that a line of one certificate closes is closed by one of these
pub record JoinsCerts (s : Subject) (split certs : List ℕ) (held : List ℕ → Option (List ℕ)) : Type 0 where
  pub gives : GivesSplit s split held
  pub taken : List (Vec Line Global)
  pub told : IfSome (held certs) (AreCerts (judged s gives.value) taken)
  pub joined : Joined
  pub joins : JoinsEach (judged s gives.value) gives.nodes taken joined

-- the certificates were joined, and Proof was made and holds the joined one, where it is told: it shows this verdict and this bound, both true of the problem, and this is the first part that it leaves open, or none
pub record JoinDone (s : Subject) (split certs proof : List ℕ) (old new : DeskState) (v : Verdict) (bound : Option ℕ) (plan : Option PlanParts) (names : Naming) (first : Option ℕ) : Type 0 where
  pub joins : JoinsCerts s split certs old.held
  pub naming : names ≡ s.naming joins.gives.value
  pub planned : plan ≡ s.plan joins.gives.value
  pub made : MakesProof proof old new
  pub verdict : v ≡ joins.joined.verdict
  pub last_bound : bound ≡ joins.joined.bound
  pub first_open : first ≡ joins.joined.first_open
  pub means : VerdictSays s joins.gives.value v (last_table joins.joined.lines.items)
  pub bounds : IfSome bound (λ b. IsBoundOf s joins.gives.value (own_worth (s.plan joins.gives.value) b))
  pub certificate : IfSome (new.trays tray.Proof).sent (λ bytes. bytes ≡ cert_text Three joins.joined.lines.items)

abbrev pub LineFailsAs : Problem → CertOutcome → Type 0
LineFailsAs f (Wrong number word hint) = (cause : Refusal) × LineFails f [] number cause × (word ≡ Check cause.word) × (hint ≡ cause.hint)
LineFailsAs f o = ⊥

-- a certificate is refused, or a joined line isn't valid after those before it; it would have been the one of this number
pub record RefusesCerts (s : Subject) (split certs : List ℕ) (held : List ℕ → Option (List ℕ)) (o : CertOutcome) : Type 0 where
  pub gives : GivesSplit s split held
  pub refused : IfSome (held certs) (CertsStopIn (judged s gives.value) o) ⊎ LineFailsAs (judged s gives.value) o

-- Proof, of which a make or a write failed, holds a proper prefix of the text of a joined certificate, where it is told
pub record JoinBreaks (s : Subject) (split certs : List ℕ) (old new : DeskState) : Type 0 where
  pub joins : JoinsCerts s split certs old.held
  pub cut : IfSome (new.trays tray.Proof).sent (IsCutOf (cert_text Three joins.joined.lines.items))

-- what is read of the inputs, of which the split has this first bad line
pub record BadSplit (s : Subject) (split : List ℕ) (held : List ℕ → Option (List ℕ)) (number : ℕ) (word : List ℕ) : Type 0 where
  pub value : s.Value
  pub reads : s.Reads held value
  pub bad : IsBadSplit (held split) (judged s value) number word

-- what reports say of the inputs, of the split, of the certificates and of Proof, each as far as it is told; none is a write fault on Proof. A verdict is followed by the first open part, if there is one, and nothing else is printed
abbrev pub JoinSays : Subject → List ℕ → List ℕ → List ℕ → DeskState → DeskState → List Report → Type 0
JoinSays s split certs proof old new [] = JoinBreaks s split certs old new
JoinSays s split certs proof old new (checked v bound plan names ∷ []) = JoinDone s split certs proof old new v bound plan names None
JoinSays s split certs proof old new (checked v bound plan names ∷ open_part number ∷ []) = JoinDone s split certs proof old new v bound plan names (Some number)
JoinSays s split certs proof old new (refused number word hint ∷ []) = RefusesCerts s split certs old.held (Wrong number word hint)
JoinSays s split certs proof old new (too_long Certificate ∷ []) = RefusesCerts s split certs old.held TooLong
JoinSays s split certs proof old new (bad_text Split number word ∷ []) = BadSplit s split old.held number word
JoinSays s split certs proof old new (too_long Split ∷ []) = LongText s split old.held
JoinSays s split certs proof old new (r ∷ []) = s.Refuses old.held r
JoinSays s split certs proof old new (r ∷ next ∷ more) = ⊥

-- the inputs give what they give the subject, and the split is one
abbrev pub JoinGives : Subject → List ℕ → (List ℕ → Option (List ℕ)) → Feed → Type 0
JoinGives s split held Split = GivesSplit s split held
JoinGives s split held feed = s.Gives held feed

abbrev pub join_task : Subject → List ℕ → List ℕ → List ℕ → Task
join_task s split certs proof = record {
  inputs = s.inputs ++ (named_feed Split split ∷ named_feed Certificate certs ∷ []);
  Gives = JoinGives s split;
  proof = Some proof;
  Says = JoinSays s split certs proof;
}
