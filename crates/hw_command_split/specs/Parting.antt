-- `part` of any subject: a certificate is checked as by `verify`, a search goes on from its lines within a part of a split, and all lines are sent to Proof.
use Rattle.std.specs.Prelude.{◌≡◌, ◌⊎◌, ℕ, ◌+◌, ◌≤◌, Bool, true, false, List, [], ◌∷◌, ◌++◌, Option, Some, None, IfSome, length, option_and_then}
use Rattle.hw_model.specs.Problem.{Problem}
use Rattle.hw_model.specs.Rooms.{room_count}
use Rattle.hw_model.specs.Timetables.{Permits, beats, cargo}
use Rattle.hw_desk.specs.State.{DeskState}
use Rattle.hw_desk.specs.declared.desk.Feed.{Feed}
use Rattle.hw_desk.specs.declared.desk.Feed.TheVariants.{Certificate, Split}
use Rattle.hw_desk.specs.declared.desk.Tray.TheVariants as tray
use Rattle.hw_cert_lines.specs.declared.check.Verdict.{Verdict}
use Rattle.hw_cert_lines.specs.declared.line.Line.{Line}
use Rattle.hw_cert_lines.specs.Lemmas.{lemmas_of}
use Rattle.hw_cert.specs.declared.version.Version.TheVariants.{Three}
use Rattle.hw_cert.specs.Texts.{cert_text}
use Rattle.hw_report.specs.Reports.{Report, bad_text, part_told, refused, too_long}
use Rattle.hw_report.specs.declared.report.RefusedWord.{RefusedWord}
use Rattle.hw_report.specs.declared.report.RefusedWord.TheVariants.{Check}
use Rattle.hw_cert_lines.specs.declared.check.Refusal.{Refusal}
use Rattle.hw_command.specs.Carries.{Task, one_report}
use Rattle.hw_command.specs.Scope.{named_feed, MakesProof}
use Rattle.hw_command.specs.Sending.{IsCutOf}
use Rattle.hw_command.specs.declared.outcome.CertOutcome.TheVariants.{Wrong, TooLong}
use Rattle.hw_command.specs.declared.outcome.CertOutcome.{CertOutcome}
use Rattle.hw_cert_course.specs.Going.{LineFails, LinesGoOn}
use Rattle.hw_cert_join.specs.Joining.{closes_branch}
use Rattle.hw_split_text.specs.declared.node.Node.{Node}
use Rattle.hw_split_text.specs.Splits.{Branch, branch_holds, part_at}
use Rattle.hw_subject.specs.Meanings.{judged}
use Rattle.hw_subject.specs.Shown.{Shown, Refused}
use Rattle.hw_subject.specs.Subjects.{Subject, LongText}
use Rattle.hw_command_split.specs.Splits.{IsBadSplit, IsSplitOf, LacksPart}
use Rattle.hw_command_split.specs.declared.parting.PartWords.{PartWords}

-- ---- the part

-- what is read, a split of the judged problem, and one of its parts
pub record GivesPart (s : Subject) (split : List ℕ) (number : ℕ) (held : List ℕ → Option (List ℕ)) : Type 0 where
  pub value : s.Value
  pub reads : s.Reads held value
  pub nodes : List Node
  pub is : IsSplitOf (held split) (judged s value) nodes
  pub branch : Branch
  pub part : part_at nodes number ≡ Some branch

-- the same, and what the certificate to go on from shows
pub record PartStarts (s : Subject) (split : List ℕ) (number : ℕ) (start : List ℕ) (held : List ℕ → Option (List ℕ)) : Type 0 where
  pub gives : GivesPart s split number held
  pub shows : Verdict
  pub bound : Option ℕ
  pub table : Option (List ℕ)
  pub shown : Shown s gives.value Three (held start) shows bound table

-- ---- the lines

-- lines that begin with those of a start, with no more new lemmas than the budget and one: whether they close the branch; if not, the budget is spent, and is no more than rooms; and where the start closes it, no line is new
pub record GoesOnIn (f : Problem) (branch : Branch) (budget : ℕ) (is_closed : Bool) (start all : List Line) : Type 0 where
  pub goes_on : LinesGoOn f start all
  pub few : length (lemmas_of goes_on.more) ≤ budget + 1
  pub closed : is_closed ≡ closes_branch f all branch
  pub spent : is_closed ≡ false → budget ≤ length (lemmas_of goes_on.more)
  pub rooms : is_closed ≡ false → budget ≤ room_count f
  pub idle : closes_branch f start branch ≡ true → goes_on.more ≡ []

-- the bytes are the text of such lines
pub record IsPartCertificate (f : Problem) (branch : Branch) (budget : ℕ) (is_closed : Bool) (start : List Line) (bytes : List ℕ) : Type 0 where
  pub lines : List Line
  pub text : bytes ≡ cert_text Three lines
  pub goes_on : GoesOnIn f branch budget is_closed start lines

-- no permitted timetable in a closed part carries more than the best that is known, which is permitted; where none is known, the part holds none
pub record IsClosedPart (f : Problem) (branch : Branch) : Type 0 where
  pub best : Option (List ℕ)
  pub permitted : IfSome best (Permits f)
  pub none_better : (table : List ℕ) (c : ℕ) → Permits f table → branch_holds table branch ≡ true → cargo f table ≡ Some c → beats c (option_and_then (cargo f) best) ≡ false

-- ---- what is said

-- whether the part is closed; then nothing in it is better than what is known. Proof was made, and holds a certificate that says so, where it is told
pub record PartDone (s : Subject) (split : List ℕ) (number : ℕ) (start : List ℕ) (budget : ℕ) (proof : List ℕ) (old new : DeskState) (is_closed : Bool) : Type 0 where
  pub starts : PartStarts s split number start old.held
  pub made : MakesProof proof old new
  pub means : is_closed ≡ true → IsClosedPart (judged s starts.gives.value) starts.gives.branch
  pub certificate : IfSome (new.trays tray.Proof).sent (IsPartCertificate (judged s starts.gives.value) starts.gives.branch budget is_closed starts.shown.lines)

-- the certificate is refused
pub record RefusesStart (s : Subject) (split : List ℕ) (number : ℕ) (start : List ℕ) (held : List ℕ → Option (List ℕ)) (o : CertOutcome) : Type 0 where
  pub gives : GivesPart s split number held
  pub refused : Refused s Three start held o

-- the certificate is whole and doesn't close the part, and a line that the search added isn't valid after those before it; it would have been the one of this number
pub record IsNotTakenIn (s : Subject) (split : List ℕ) (part : ℕ) (start : List ℕ) (held : List ℕ → Option (List ℕ)) (number : ℕ) (word : RefusedWord) (hint : Option ℕ) : Type 0 where
  pub starts : PartStarts s split part start held
  pub unclosed : closes_branch (judged s starts.gives.value) starts.shown.lines starts.gives.branch ≡ false
  pub cause : Refusal
  pub fails : LineFails (judged s starts.gives.value) starts.shown.lines number cause
  pub word_of : word ≡ Check cause.word
  pub hint_of : hint ≡ cause.hint

-- the certificate is whole, and Proof, of which a make or a write failed, holds a proper prefix of the text of lines that go on from it, where it is told
pub record PartBreaks (s : Subject) (split : List ℕ) (number : ℕ) (start : List ℕ) (old new : DeskState) : Type 0 where
  pub starts : PartStarts s split number start old.held
  pub lines : List Line
  pub goes_on : LinesGoOn (judged s starts.gives.value) starts.shown.lines lines
  pub cut : IfSome (new.trays tray.Proof).sent (IsCutOf (cert_text Three lines))

-- what is read of the inputs, of which the split has this first bad line, or lacks the part
pub record BadSplit (s : Subject) (split : List ℕ) (part : ℕ) (held : List ℕ → Option (List ℕ)) (number : ℕ) (word : List ℕ) : Type 0 where
  pub value : s.Value
  pub reads : s.Reads held value
  pub bad : IsBadSplit (held split) (judged s value) number word ⊎ LacksPart (held split) (judged s value) part number word

-- what a report says of the inputs, of the split, of the certificate and of Proof, each as far as it is told; none is a write fault on Proof, and nothing else is printed
abbrev pub PartSays : Subject → List ℕ → ℕ → List ℕ → ℕ → List ℕ → DeskState → DeskState → Option Report → Type 0
PartSays s split number start budget proof old new None = PartBreaks s split number start old new
PartSays s split number start budget proof old new (Some (part_told part is_closed)) = (part ≡ number) × PartDone s split number start budget proof old new is_closed
PartSays s split number start budget proof old new (Some (refused line word hint)) = RefusesStart s split number start old.held (Wrong line word hint) ⊎ IsNotTakenIn s split number start old.held line word hint
PartSays s split number start budget proof old new (Some (too_long Certificate)) = RefusesStart s split number start old.held TooLong
PartSays s split number start budget proof old new (Some (bad_text Split line word)) = BadSplit s split number old.held line word
PartSays s split number start budget proof old new (Some (too_long Split)) = LongText s split old.held
PartSays s split number start budget proof old new (Some r) = s.Refuses old.held r

-- the inputs give what they give the subject, and the split a part of that number
abbrev pub PartGives : Subject → List ℕ → ℕ → (List ℕ → Option (List ℕ)) → Feed → Type 0
PartGives s split number held Split = GivesPart s split number held
PartGives s split number held feed = s.Gives held feed

abbrev pub part_task : Subject → List ℕ → ℕ → List ℕ → ℕ → List ℕ → Task
part_task s split number start budget proof = record {
  inputs = s.inputs ++ (named_feed Split split ∷ named_feed Certificate start ∷ []);
  Gives = PartGives s split number;
  proof = Some proof;
  Says = one_report (PartSays s split number start budget proof);
}

-- the task of these words
abbrev pub part_task_of : Subject → PartWords → ℕ → Task
part_task_of s words budget = part_task s words.split.now words.number words.start.now budget words.proof.now
