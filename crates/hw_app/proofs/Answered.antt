-- A run of one report, by its status.
use Rattle.std.proofs.Common.{◌≡◌, ◌∙◌, Bool, true, false, List, [], ◌∷◌, Option, Some, ap, inl, inr, refl, sym}
use Rattle.hw_desk.specs.State.{DeskState, TrayState}
use Rattle.hw_desk.specs.declared.desk.Tray.{Tray}
use Rattle.hw_desk.specs.declared.desk.Tray.TheVariants.{Proof}
use Rattle.hw_report.specs.Reports.{Report, read_fault, no_memory}
use Rattle.hw_command.specs.Carries.{one_report, are_common}
use Rattle.hw_command.specs.Ends.{Ends}
use Rattle.hw_command.specs.Statuses.{status_of}
use Rattle.hw_command.specs.Works.{is_common}
use Rattle.hw_command.specs.declared.status.Status.{Status}
use Rattle.hw_command.specs.declared.status.Status.TheVariants as status
use Rattle.hw_app.specs.LawsOfSearches.{is_answer, EndsAlike}

-- the report of a run that has an answer, and what it says
pub record Answered (Says : DeskState → DeskState → Option Report → Type 0) (old new : DeskState) (s : Status) : Type 0 where
  pub mid : DeskState
  pub report : Report
  pub ended : s ≡ status_of report
  pub says : Says old mid (Some report)
  pub sent : (mid.trays Proof).sent ≡ (new.trays Proof).sent

not_common : (r : Report) → is_answer (status_of r) ≡ true → is_common r ≡ false
not_common (read_fault feed) e = absurd (cc)
not_common no_memory e = absurd (cc)
not_common r e = refl

no_answer : (s : Status) → s ≡ status.WriteFault → is_answer s ≡ true → ⊥
no_answer s same e = absurd (false_true (sym (ap is_answer same) ∙ e))
  where
    false_true : false ≡ true → ⊥
    false_true e = cc

pub answered : (Says : DeskState → DeskState → Option Report → Type 0) (old mid new : DeskState) (s : Status) (reports : List Report) → (are_common reports ≡ false → one_report Says old mid reports) → Ends reports mid new s → is_answer s ≡ true → Answered Says old new s
answered Says old mid new s [] says ends answer = absurd (no_answer s ends.0 answer)
answered Says old mid new s (r ∷ []) says (inl whole) answer = record {
  mid = mid;
  report = r;
  ended = whole.status;
  says = says (not_common r (ap is_answer (sym whole.status) ∙ answer));
  sent = sym (ap (λ (trays : Tray → TrayState). (trays Proof).sent) whole.sent.only.trays);
}
answered Says old mid new s (r ∷ []) says (inr short) answer = absurd (no_answer s short.status answer)
answered Says old mid new s (r ∷ next ∷ more) says ends answer = absurd (says refl)

-- the report of a run, unless a call failed or memory ran out
common_alike : (r : Report) (s t : Status) → is_common r ≡ true → t ≡ status_of r → EndsAlike s t
common_alike (read_fault feed) s t e ended = inr (inl ended)
common_alike no_memory s t e ended = inr (inr (inr ended))
common_alike r s t e ended = absurd (cc)

pub alike : (Says : DeskState → DeskState → Option Report → Type 0) (old mid new : DeskState) (s t : Status) (reports : List Report) → (are_common reports ≡ false → one_report Says old mid reports) → Ends reports mid new t → ((r : Report) → Says old mid (Some r) → status_of r ≡ s) → EndsAlike s t
alike Says old mid new s t [] says ends same = inr (inr (inl ends.0))
alike Says old mid new s t (r ∷ []) says (inl whole) same = by_kind (is_common r) refl
  where
    by_kind : (b : Bool) → b ≡ is_common r → EndsAlike s t
    by_kind true e = common_alike r s t (sym e) whole.status
    by_kind false e = inl (whole.status ∙ same r (says (sym e)))
alike Says old mid new s t (r ∷ []) says (inr short) same = inr (inr (inl short.status))
alike Says old mid new s t (r ∷ next ∷ more) says ends same = absurd (says refl)
