-- Lines of a certificate one after another.
use Rattle.std.proofs.Common.{◌≡◌, ℕ, List, [], Option, Some, None, ◌∙◌, refl, sym}
use Rattle.std.specs.Io.KnownBytes.{prepend_known}
use Rattle.std.specs.Prelude.{IfSome, IsSomeAnd}
use Rattle.hw_model.specs.Problem.{Problem}
use Rattle.hw_desk.specs.State.{DeskState}
use Rattle.hw_cert_lines.specs.declared.line.Line.{Line}
use Rattle.hw_cert.specs.Nexts.{rest_of}
use Rattle.hw_cert.specs.Reader.{ReaderModel}
use Rattle.hw_check.specs.States.{CheckState}
use Rattle.hw_command.specs.Checking.{Reached, rest_outcome, Comes}
use Rattle.hw_command.specs.declared.outcome.CertOutcome.{CertOutcome}
use Rattle.hw_command.specs.declared.outcome.CertOutcome.TheVariants.{Shows, Wrong, TooLong}

-- what was to come of the bytes told is what is to come of those left, and so on
pub goes_on : {A : Type 0} (a b c : List ℕ → A) (told mid now : Option (List ℕ)) → IfSome told (λ x. IsSomeAnd mid (λ y. a x ≡ b y)) → IfSome mid (λ y. IsSomeAnd now (λ z. b y ≡ c z)) → IfSome told (λ x. IsSomeAnd now (λ z. a x ≡ c z))
goes_on a b c None mid now h k = tt
goes_on a b c (Some x) None now h k = absurd h
goes_on a b c (Some x) (Some y) None h k = absurd k
goes_on a b c (Some x) (Some y) (Some z) h k = h ∙ k

-- one line more
pub reached_on : {f : Problem} {told : Option (List ℕ)} {outcome : List ℕ → CertOutcome} {before all : List Line} {r s : ReaderModel} {c d : CheckState} {x y : DeskState}
    → Reached f told outcome before r c x → Reached f (rest_of r x) (rest_outcome f before r.at) all s d y → Reached f told outcome all s d y
reached_on {f = f} {told = told} {outcome = outcome} {before = before} {all = all} {r = r} {s = s} {x = x} {y = y} h k = record {
  follows = k.follows;
  problem = k.problem;
  rest = goes_on outcome (rest_outcome f before r.at) (rest_outcome f all s.at) told (rest_of r x) (rest_of s y) h.rest k.rest;
}

-- an outcome of what is left is the outcome that was to come
back : (told rest : Option (List ℕ)) (o : CertOutcome) (outcome : List ℕ → CertOutcome) (left : List ℕ → CertOutcome) → IfSome told (λ bytes. IsSomeAnd rest (λ bs. outcome bytes ≡ left bs)) → IfSome rest (λ bs. o ≡ left bs) → IfSome told (λ bytes. o ≡ outcome bytes)
back None rest o outcome left h k = tt
back (Some bytes) None o outcome left h k = absurd h
back (Some bytes) (Some bs) o outcome left h k = k ∙ sym h

pub comes_back : (f : Problem) (all : List Line) (told rest : Option (List ℕ)) (outcome left : List ℕ → CertOutcome) (o : CertOutcome) → IfSome told (λ bytes. IsSomeAnd rest (λ bs. outcome bytes ≡ left bs)) → Comes f all rest left o → Comes f all told outcome o
comes_back f all told rest outcome left (Shows v) h k = (k.0, back told rest (Shows v) outcome left h k.1)
comes_back f all told rest outcome left (Wrong number word hint) h k = back told rest (Wrong number word hint) outcome left h k
comes_back f all told rest outcome left TooLong h k = back told rest TooLong outcome left h k

pub none_pending : (known : Option (List ℕ)) → prepend_known [] known ≡ known
none_pending None = refl
none_pending (Some bytes) = refl
