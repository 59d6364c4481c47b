-- `check clash` of any subject: a clash, and the certificate of its kept restrictions.
use Rattle.std.specs.Prelude.{◌≡◌, ◌≢◌, ℕ, List, [], ◌∷◌, ◌++◌, Option, Some, None, IfSome, ⊤}
use Rattle.hw_desk.specs.State.{DeskState}
use Rattle.hw_desk.specs.declared.desk.Feed.{Feed}
use Rattle.hw_desk.specs.declared.desk.Feed.TheVariants as feeds
use Rattle.hw_cert_lines.specs.declared.check.Verdict.TheVariants as verdicts
use Rattle.hw_report.specs.Reports.{Report, by_number, checked, refused, bad_text, too_long, clash_holds}
use Rattle.hw_command.specs.Carries.{Task, one_report}
use Rattle.hw_command.specs.Certificates.{cert_outcome}
use Rattle.hw_command.specs.Scope.{named_feed}
use Rattle.hw_command.specs.Verdicts.{ShownBy}
use Rattle.hw_command.specs.declared.outcome.CertOutcome.{CertOutcome}
use Rattle.hw_command.specs.declared.outcome.CertOutcome.TheVariants.{Shows, Wrong, TooLong}
use Rattle.hw_clash.specs.Clashes.{Clash}
use Rattle.hw_clash.specs.Clashing.{IsIrreducible}
use Rattle.hw_clash.specs.Parts.{part}
use Rattle.hw_subject.specs.Subjects.{Subject, LongText}
use Rattle.hw_subject.specs.Meanings.{NoneOf}
use Rattle.hw_command_clash.specs.Asked.{asked, names_left, wishes_in}
use Rattle.hw_command_clash.specs.Inputs.{IsClashOf, IsBadClash, clash_feed}
use Rattle.hw_command_clash.specs.PortWords.{ClashIn, DropsIn}

-- the clash holds: nothing is permitted, the kept restrictions can't be met together, and none of them can be left out; of a port in its own words too
abbrev pub HoldsWhere : (s : Subject) → s.Value → Clash → CertOutcome → Type 0
HoldsWhere s v clash (Shows verdicts.Infeasible) = NoneOf s v × IsIrreducible (asked s v) clash.kept × ClashIn (names_left s v) (wishes_in (s.plan v)) clash.kept clash.drops
HoldsWhere s v clash outcome = ⊤

-- what is read of the inputs and a clash text of it, each where it is told, and the outcome of the certificate of the part of the kept restrictions, where that is told
pub record ChecksClash (s : Subject) (name cert : List ℕ) (held : List ℕ → Option (List ℕ)) (o : CertOutcome) : Type 0 where
  pub value : s.Value
  pub reads : s.Reads held value
  pub clash : Clash
  pub is : IsClashOf (held name) (asked s value) clash
  pub met : DropsIn (names_left s value) (wishes_in (s.plan value)) clash.kept clash.drops
  pub outcome : IfSome (held cert) (λ bs. o ≡ cert_outcome (part (asked s value) clash.kept) bs)
  pub shown : ShownBy (part (asked s value) clash.kept) o
  pub holds : HoldsWhere s value clash o

-- what is read of the inputs, of which the clash text has this first bad line
pub record BadClash (s : Subject) (name : List ℕ) (held : List ℕ → Option (List ℕ)) (number : ℕ) (word : List ℕ) : Type 0 where
  pub value : s.Value
  pub reads : s.Reads held value
  pub bad : IsBadClash (held name) (asked s value) number word

-- what a report says of the inputs, of the clash text, which comes as this input, and of the certificate, each as far as it is told. For the same told bytes at most one report but `memory` is right, and nothing else is printed
abbrev pub ClashChecksAs : Feed → Subject → List ℕ → List ℕ → (List ℕ → Option (List ℕ)) → Report → Type 0
ClashChecksAs feed s name cert held clash_holds = ChecksClash s name cert held (Shows verdicts.Infeasible)
ClashChecksAs feed s name cert held (checked v bound ships names) = (checked v bound ships names ≡ checked v None None by_number) × (v ≢ verdicts.Infeasible) × ChecksClash s name cert held (Shows v)
ClashChecksAs feed s name cert held (refused number word hint) = ChecksClash s name cert held (Wrong number word hint)
ClashChecksAs feed s name cert held (too_long feeds.Certificate) = ChecksClash s name cert held TooLong
ClashChecksAs feeds.Plan s name cert held (bad_text feeds.Plan number word) = BadClash s name held number word
ClashChecksAs feeds.Plan s name cert held (too_long feeds.Plan) = LongText s name held
ClashChecksAs feeds.Clash s name cert held (bad_text feeds.Clash number word) = BadClash s name held number word
ClashChecksAs feeds.Clash s name cert held (too_long feeds.Clash) = LongText s name held
ClashChecksAs feed s name cert held r = s.Refuses held r

abbrev pub ClashChecks : Subject → List ℕ → List ℕ → (List ℕ → Option (List ℕ)) → Report → Type 0
ClashChecks s name cert held r = ClashChecksAs (clash_feed s) s name cert held r

abbrev pub CheckClashSays : Subject → List ℕ → List ℕ → DeskState → Option Report → Type 0
CheckClashSays s name cert old None = ⊥
CheckClashSays s name cert old (Some r) = ClashChecks s name cert old.held r

-- a clash text gives restrictions of the problem, its own where it is told
pub record GivesClash (s : Subject) (name : List ℕ) (held : List ℕ → Option (List ℕ)) : Type 0 where
  pub value : s.Value
  pub reads : s.Reads held value
  pub clash : Clash
  pub is : IsClashOf (held name) (asked s value) clash

-- the inputs give what they give the subject, and the clash text, which comes as this one, restrictions of it. After the certificate no input is begun
abbrev pub ClashGivesAs : Feed → Subject → List ℕ → (List ℕ → Option (List ℕ)) → Feed → Type 0
ClashGivesAs feeds.Plan s name held feeds.Plan = GivesClash s name held
ClashGivesAs feeds.Clash s name held feeds.Clash = GivesClash s name held
ClashGivesAs feed s name held other = s.Gives held other

abbrev pub ClashGives : Subject → List ℕ → (List ℕ → Option (List ℕ)) → Feed → Type 0
ClashGives s name held other = ClashGivesAs (clash_feed s) s name held other

abbrev pub check_clash_task : Subject → List ℕ → List ℕ → Task
check_clash_task s name cert = record {
  inputs = s.inputs ++ (named_feed (clash_feed s) name ∷ named_feed feeds.Certificate cert ∷ []);
  Gives = ClashGives s name;
  proof = None;
  Says = one_report (λ old new. CheckClashSays s name cert old);
}
