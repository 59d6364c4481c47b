-- The law of a clash that was found.
use Rattle.std.specs.Prelude.{◌≡◌, ◌≤◌, ◌⊎◌, List, ℕ, Some, None, Ok, length}
use Rattle.hw_desk.specs.declared.desk.Feed.{Feed}
use Rattle.hw_model.specs.Limits.{IsFlat}
use Rattle.hw_model.specs.Problem.{Problem, shape_of}
use Rattle.hw_cert_lines.specs.declared.line.Line.{Line}
use Rattle.hw_cert.specs.declared.version.Version.TheVariants.{Two}
use Rattle.hw_cert.specs.Stream.{overlong, cert_stream}
use Rattle.hw_cert.specs.Texts.{cert_text}
use Rattle.hw_clash.specs.Parts.{part}
use Rattle.hw_clash.specs.Wished.{Wished, unplanned}
use Rattle.hw_repair.specs.Wishes.{PlanParts}
use Rattle.hw_report.specs.Reports.{clashed, clash_holds}
use Rattle.hw_report.specs.Texts.{report_text}
use Rattle.hw_command.specs.Values.{most_bytes, IsProblemText}
use Rattle.hw_subject.specs.Plans.{IsPlanText}
use Rattle.hw_command_clash.specs.Asked.{asked_by, tugs_left}
use Rattle.hw_command_clash.specs.Found.{IsClashTold}
use Rattle.hw_command_clash.specs.Texts.{clash_text_report, texts_clash_report}

-- a clash that was found, of wishes too, as it is printed, and the text of its certificate: the report is that the clash holds, unless the certificate passes a limit
pub record OwnClash : Type 0 where
  pub problem : (feed : Feed) (f : Wished) (kept : List ℕ) (drops : List (List ℕ)) (all : List Line) → IsFlat f.problem → IsClashTold f kept drops all → length (report_text (clashed kept drops)) ≤ most_bytes
      → ((cert_stream (shape_of (part f kept)) (cert_text Two all)).stop ≡ overlong) ⊎ (clash_text_report feed f (report_text (clashed kept drops)) (cert_text Two all) ≡ clash_holds)
  pub flat : (f : Problem) (text kept : List ℕ) (drops : List (List ℕ)) (all : List Line) → IsFlat f → IsProblemText f text → IsClashTold (unplanned f) kept drops all → length (report_text (clashed kept drops)) ≤ most_bytes
      → ((cert_stream (shape_of (part (unplanned f) kept)) (cert_text Two all)).stop ≡ overlong) ⊎ (texts_clash_report text None (report_text (clashed kept drops)) (cert_text Two all) ≡ clash_holds)
  pub repair : (f : Problem) (plan : PlanParts) (text moved kept : List ℕ) (drops : List (List ℕ)) (all : List Line) → IsFlat (tugs_left f (Some plan)) → IsProblemText f text → IsPlanText f (Ok plan) moved → IsClashTold (asked_by f (Some plan)) kept drops all → length (report_text (clashed kept drops)) ≤ most_bytes
      → ((cert_stream (shape_of (part (asked_by f (Some plan)) kept)) (cert_text Two all)).stop ≡ overlong) ⊎ (texts_clash_report text (Some moved) (report_text (clashed kept drops)) (cert_text Two all) ≡ clash_holds)
