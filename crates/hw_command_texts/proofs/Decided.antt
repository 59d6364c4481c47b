-- The bytes decide what is listed.
use Rattle.std.proofs.Common.{ℕ, List, Option, inl, inr, ap}
use Rattle.hw_report.specs.Reports.{Report, whole_text}
use Rattle.hw_subject.specs.Decided.{IsReported}
use Rattle.hw_subject.specs.Subjects.{Subject, origin_subject, plainly}
use Rattle.hw_subject.proofs.Decided.{one_of, subjects_decided_law}
use Rattle.hw_command_texts.specs.Laws.{OneListing}
use Rattle.hw_command_texts.specs.Listings.{Lists}

decided : (s : Subject) (text : s.Value → List ℕ) (held : List ℕ → Option (List ℕ)) (r : Report) → Lists s text held r → IsReported s held (λ v. whole_text (text v)) r
decided s text held (whole_text listed) h = inr (record { value = h.value; reads = h.reads; report = ap whole_text h.is_text })
decided s text held r h = inl h

pub one_listing_law : OneListing
one_listing_law origin text held r t told h g =
    let s = origin_subject origin in
    one_of s held (λ v. whole_text (text v)) r t (subjects_decided_law (plainly origin) held told) (decided s text held r h) (decided s text held t g)
