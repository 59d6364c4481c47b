-- Reports that are sent, one after another.
use Rattle.std.proofs.Common.{◌≡◌, ◌<◌, ◌++◌, ◌∙◌, ℕ, List, [], ◌∷◌, Ok, Err, append-nil, append_assoc, length-append, inl, inr, length, take, refl, sym, ap, subst, arith}
use Rattle.std.proofs.lemmas.Grind.{flat_map-append}
use Rattle.std.proofs.lemmas.List.{take-append-le}
use Rattle.hw_desk.proofs.Chain.{text_on}
use Rattle.hw_desk.specs.Calls.{Sends}
use Rattle.hw_desk.specs.State.{DeskState, TrayState, put_tray, Rose}
use Rattle.hw_desk.specs.Whole.{SendsText}
use Rattle.hw_desk.specs.declared.desk.Tray.{Tray}
use Rattle.hw_desk.specs.declared.desk.Tray.TheVariants as tray
use Rattle.hw_desk.proofs.Written.{tells_nothing}
use Rattle.hw_report.specs.Reports.{Report}
use Rattle.hw_report.specs.Texts.{report_text}
use Rattle.hw_command.specs.Ends.{reports_text, Ends}
use Rattle.hw_command.specs.Statuses.{status_of}
use Rattle.hw_command.specs.Works.{last_report}
use Rattle.hw_command.specs.declared.status.Status.{Status}
use Rattle.hw_command.specs.declared.status.Status.TheVariants.{WriteFault}

-- ---- one report

one_text : (r : Report) → report_text r ≡ reports_text (r ∷ [])
one_text r = sym (append-nil (report_text r))

-- the report was sent whole
pub sent_whole : {x y : DeskState} {s : Status} (r : Report) → s ≡ status_of r → Sends tray.Report (report_text r) x y → y.write_faults ≡ x.write_faults → Ends (r ∷ []) x y s
sent_whole {x = x} {y = y} r e h kept = inl (record { status = e; sent = subst (λ (text : List ℕ). Sends tray.Report text x y) (one_text r) h; write_faults = kept })

-- or a part of it
pub sent_short : {x y : DeskState} {s : Status} (r : Report) → s ≡ WriteFault → (n : ℕ) × (n < length (report_text r)) × Sends tray.Report (take n (report_text r)) x y → Rose x.write_faults y.write_faults → Ends (r ∷ []) x y s
sent_short {x = x} {y = y} r e h rose = inr (record {
  status = e;
  cause = rose;
  sent = subst (λ (text : List ℕ). (n : ℕ) × (n < length text) × Sends tray.Report (take n text) x y) (one_text r) h;
})

-- ---- several

-- no tray has changed
same_trays : (x : Tray → TrayState) → x ≡ put_tray x tray.Report (x tray.Report)
same_trays x = λ i t. (at t) i
  where
    at : (t : Tray) → x t ≡ put_tray x tray.Report (x tray.Report) t
    at tray.Report = refl
    at tray.Proof = refl

-- before the first report
pub nothing_sent : (x : DeskState) → Sends tray.Report (reports_text []) x x
nothing_sent x = record {
  only = record { held = refl; feeds = refl; trays = same_trays x.trays; read_faults = refl; later = omega arith };
  made = refl;
  named = refl;
  sent = tells_nothing (x.trays tray.Report).sent;
}

more_text : (done : List Report) (r : Report) (more : List Report) → reports_text (done ++ r ∷ more) ≡ (reports_text done ++ report_text r) ++ reports_text more
more_text done r more = flat_map-append report_text done (r ∷ more) ∙ sym (append_assoc (reports_text done) (report_text r) (reports_text more))

-- after one more report
pub sent_more : {E : Type 0} {x y z : DeskState} {u : Unit {0}} (done : List Report) (r : Report) → Sends tray.Report (reports_text done) x y → y.write_faults ≡ x.write_faults → SendsText {E = E} tray.Report (report_text r) y z (Ok u) → Sends tray.Report (reports_text (done ++ r ∷ [])) x z × (z.write_faults ≡ x.write_faults)
sent_more {x = x} {z = z} done r h kept k =
    let both = text_on h kept k in
    (subst (λ (text : List ℕ). Sends tray.Report text x z) (sym (more_text done r [] ∙ append-nil (reports_text done ++ report_text r))) both.ok, both.kept)

-- after the last one
pub all_sent : {x z : DeskState} {s : Status} (r : Report) (more : List Report) → s ≡ status_of (last_report r more) → Sends tray.Report (reports_text (r ∷ more)) x z → z.write_faults ≡ x.write_faults → Ends (r ∷ more) x z s
all_sent r more e h kept = inl (record { status = e; sent = h; write_faults = kept })

-- a write of one of them failed
pub cut_off : {E : Type 0} {x y z : DeskState} {e : E} (all done : List Report) (r : Report) (more : List Report) → all ≡ done ++ r ∷ more → Sends tray.Report (reports_text done) x y → y.write_faults ≡ x.write_faults → SendsText tray.Report (report_text r) y z (Err e) → Ends all x z WriteFault
cut_off [] done r more parts h kept k = absurd (empty done parts)
  where
    empty : (done : List Report) → [] ≡ done ++ r ∷ more → ⊥
    empty [] same = cc
    empty (first ∷ others) same = cc
cut_off {x = x} {z = z} (first ∷ others) done r more parts h kept k =
    let both = text_on h kept k in
    let text = reports_text done ++ report_text r in
    let whole : reports_text (first ∷ others) ≡ text ++ reports_text more = ap reports_text parts ∙ more_text done r more in
    let short : (n : ℕ) × (n < length (text ++ reports_text more)) × Sends tray.Report (take n (text ++ reports_text more)) x z =
    cut_within text (reports_text more) both.err in
    inr (record {
      status = refl;
      cause = both.cause;
      sent = subst (λ (bytes : List ℕ). (n : ℕ) × (n < length bytes) × Sends tray.Report (take n bytes) x z) (sym whole) short;
    })
  where
    cut_within : (a b : List ℕ) → (n : ℕ) × (n < length a) × Sends tray.Report (take n a) x z → (n : ℕ) × (n < length (a ++ b)) × Sends tray.Report (take n (a ++ b)) x z
    cut_within a b (n, lt, sends) =
        let longer : n < length (a ++ b) = rw length-append (omega (arith, lt)) in
        (n, longer, subst (λ (bytes : List ℕ). Sends tray.Report bytes x z) (sym (take-append-le n a b (omega (arith, lt)))) sends)
