-- A clash that was found, checked.
use Rattle.std.proofs.Common.{◌≡◌, ◌⊎◌, ◌∙◌, ◌≤◌, ℕ, List, Some, None, length, inl, inr, ap}
use Rattle.hw_desk.specs.declared.desk.Feed.{Feed}
use Rattle.hw_desk.specs.declared.desk.Feed.TheVariants as feeds
use Rattle.hw_model.specs.Limits.{IsFlat}
use Rattle.hw_model.specs.Problem.{shape_of}
use Rattle.hw_cert_lines.specs.declared.line.Line.{Line}
use Rattle.hw_cert.specs.declared.version.Version.TheVariants.{Two}
use Rattle.hw_cert.specs.Stream.{overlong, cert_stream}
use Rattle.hw_cert.specs.Texts.{cert_text}
use Rattle.hw_clash.specs.Parts.{part}
use Rattle.hw_clash.specs.Wished.{Wished, unplanned}
use Rattle.hw_clash.proofs.Parts.{part_fits}
use Rattle.hw_report.specs.Reports.{Report, clashed, clash_holds}
use Rattle.hw_report.specs.Texts.{report_text}
use Rattle.hw_command.specs.Values.{most_bytes}
use Rattle.hw_command.specs.declared.outcome.CertOutcome.{CertOutcome}
use Rattle.hw_command.specs.declared.outcome.CertOutcome.TheVariants.{Shows}
use Rattle.hw_command_clash.specs.Asked.{asked_by}
use Rattle.hw_command_clash.specs.Found.{IsClashTold}
use Rattle.hw_command_clash.specs.Texts.{clash_report, report_of_part, clash_text_report}
use Rattle.hw_command_clash.proofs.Decided.{flat_is, plan_is, text_within}
use Rattle.hw_app.specs.LawsOfClashes.{OwnClash}
use Rattle.hw_app.proofs.Owned.{own_certificate}

by_outcome : {A : Type 0} {o w : CertOutcome} {r s : Report} → A ⊎ (o ≡ w) → r ≡ report_of_part o → report_of_part w ≡ s → A ⊎ (r ≡ s)
by_outcome (inl a) e is = inl a
by_outcome (inr same) e is = inr (e ∙ ap report_of_part same ∙ is)

of_problem : (feed : Feed) (f : Wished) (kept : List ℕ) (drops : List (List ℕ)) (all : List Line) → IsFlat f.problem → IsClashTold f kept drops all → length (report_text (clashed kept drops)) ≤ most_bytes → ((cert_stream (shape_of (part f kept)) (cert_text Two all)).stop ≡ overlong) ⊎ (clash_text_report feed f (report_text (clashed kept drops)) (cert_text Two all) ≡ clash_holds)
of_problem feed f kept drops all flat told within =
    let g = part f kept in
    let clash = report_text (clashed kept drops) in
    let bytes = cert_text Two all in
    by_outcome (own_certificate g all (part_fits f kept flat).limits told.found.proof.plain told.found.proof.fit told.found.proof.valid)
    (text_within feed f clash bytes within ∙ ap (λ read. clash_report feed f read bytes) told.back)
    (ap (λ v. report_of_part (Shows v)) told.found.shown)

either_way : {A : Type 0} {r s t : Report} → r ≡ s → A ⊎ (s ≡ t) → A ⊎ (r ≡ t)
either_way e (inl a) = inl a
either_way e (inr same) = inr (e ∙ same)

pub own_clash : OwnClash
own_clash = record {
  problem = of_problem;
  flat = λ f text kept drops all flat is_text told within. either_way (flat_is text None (report_text (clashed kept drops)) (cert_text Two all) f is_text) (of_problem feeds.Plan (unplanned f) kept drops all flat told within);
  repair = λ f plan text moved kept drops all flat is_text is_plan told within. either_way (flat_is text (Some moved) (report_text (clashed kept drops)) (cert_text Two all) f is_text ∙ plan_is f plan moved (report_text (clashed kept drops)) (cert_text Two all) is_plan) (of_problem feeds.Clash (asked_by f (Some plan)) kept drops all flat told within);
}
