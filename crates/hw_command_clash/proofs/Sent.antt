-- A certificate that is sent, and then a report.
use Rattle.std.proofs.Common.{◌≡◌, ℕ, List, [], ◌∷◌, Option, Some, None, Result, Ok, Err, refl, subst}
use Rattle.std.specs.Prelude.{IfSome}
use Rattle.hw_desk.specs.State.{DeskState}
use Rattle.hw_desk.specs.declared.desk.DeskFailed.{DeskFailed}
use Rattle.hw_desk.specs.declared.desk.Feed.{Feed}
use Rattle.hw_desk.specs.declared.desk.Tray.TheVariants as tray
use Rattle.hw_cert_lines.specs.declared.line.Line.{Line}
use Rattle.hw_cert.specs.declared.version.Version.TheVariants.{Two}
use Rattle.hw_cert.specs.Texts.{cert_text}
use Rattle.hw_report.specs.Reports.{Report}
use Rattle.hw_command.specs.Carries.{Carries, one_report}
use Rattle.hw_command.specs.Ends.{Ends, EndsWith}
use Rattle.hw_command.specs.Scope.{Named, GiveBefore, Entered, MakesProof}
use Rattle.hw_command.specs.Sending.{IsCutOf, SendsTo}
use Rattle.hw_command.specs.Works.{of_answer, speaks, ReadCauseOf}
use Rattle.hw_command.specs.declared.status.Status.{Status}
use Rattle.hw_command.specs.declared.status.Status.TheVariants.{WriteFault}
use Rattle.hw_command.proofs.Exits as exits
use Rattle.hw_command_clash.specs.Found.{report_after, SendsBoth, SendsFound}

-- ---- the call

-- there was no certificate
pub sends_none : {x y : DeskState} {s : Status} (proof : List ℕ) (lines : Option (List Line)) (r told : Report) → None ≡ lines → told ≡ r → Ends (told ∷ []) x y s → SendsFound lines r proof x y s
sends_none {x = x} {y = y} {s = s} proof lines r told none same ends =
    subst (λ (o : Option (List Line)). SendsFound o r proof x y s) none (subst (λ (t : Report). Ends (t ∷ []) x y s) same ends)

-- it was sent, and the report after it
pub sends_whole : {x y z : DeskState} {s : Status} {u : Unit {0}} (proof : List ℕ) (lines : Option (List Line)) (all : List Line) (r told : Report) → Some all ≡ lines → told ≡ r → SendsTo {E = DeskFailed} proof (cert_text Two all) x y (Ok u) → Ends (told ∷ []) y z s → SendsFound lines r proof x z s
sends_whole {x = x} {y = y} {z = z} {s = s} {u = u} proof lines all r told some same k ends =
    subst (λ (o : Option (List Line)). SendsFound o r proof x z s) some (record {
      mid = y;
      sent = Ok u;
      sends = k;
      ends = subst (λ (t : Report). Ends (t ∷ []) y z s) same ends;
    })

-- a make or a write of it failed
pub sends_short : {x y : DeskState} {e : DeskFailed} (proof : List ℕ) (lines : Option (List Line)) (all : List Line) (r : Report) → Some all ≡ lines → SendsTo proof (cert_text Two all) x y (Err e) → SendsFound lines r proof x y WriteFault
sends_short {x = x} {y = y} {e = e} proof lines all r some k =
    subst (λ (o : Option (List Line)). SendsFound o r proof x y WriteFault) some (record { mid = y; sent = Err e; sends = k; ends = (refl, refl) })

-- ---- the command

-- the certificate of an answer was sent or a part of it, after the inputs were read
pub sent_carries : {proof : List ℕ} {x y end : DeskState} {s : Status} (inputs : List Named) (Gives : (List ℕ → Option (List ℕ)) → Feed → Type 0) (Says : DeskState → DeskState → Option Report → Type 0) (all : List Line) (r : Report) → speaks r ≡ of_answer → ((mid : DeskState) → mid.read_faults ≡ x.read_faults → ReadCauseOf x mid r)
    → Entered inputs x y → GiveBefore (Gives x.held) inputs → y.read_faults ≡ x.read_faults
    → ((mid : DeskState) → MakesProof proof x mid → IfSome (mid.trays tray.Proof).sent (λ bytes. bytes ≡ cert_text Two all) → Says x mid (Some r))
    → ((mid : DeskState) → IfSome (mid.trays tray.Proof).sent (IsCutOf (cert_text Two all)) → Says x mid None)
    → SendsBoth all r proof y end s → Carries (record { inputs = inputs; Gives = Gives; proof = Some proof; Says = one_report Says }) x end s
sent_carries {proof = proof} {x = x} {y = y} {end = end} {s = s} inputs Gives Says all r answer cause h give read whole short k = by k.sent k.sends k.ends
  where
    by : (sent : Result Unit DeskFailed) → SendsTo proof (cert_text Two all) y k.mid sent → EndsWith (report_after r sent) k.mid end s → Carries (record { inputs = inputs; Gives = Gives; proof = Some proof; Says = one_report Says }) x end s
    by (Ok done) sends ends = exits.sent_carries inputs Gives Says r answer (cause k.mid) h give read sends (λ made. whole k.mid made sends.answer.1) ends
    by (Err failed) sends ends = exits.broke_carries inputs Gives Says h give read sends (short k.mid sends.answer.1) ends
