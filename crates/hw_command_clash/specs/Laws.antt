-- The laws of reports on clashes.
use Rattle.std.specs.Prelude.{◌≡◌, ℕ, List, Option, Some, None, IsSome}
use Rattle.hw_report.specs.Reports.{Report}
use Rattle.hw_subject.specs.Subjects.{Topic, topic_subject, flat_subject, repair_of}
use Rattle.hw_subject.specs.Decided.{AllTold}
use Rattle.hw_command_clash.specs.CheckClash.{ClashChecks}
use Rattle.hw_command_clash.specs.Texts.{texts_clash_report}

-- the files' bytes decide what is reported of a clash and its certificate, unless a call fails or memory runs out
abbrev pub OneClashReport : Type 0
OneClashReport = (topic : Topic) (clash cert : List ℕ) (held : List ℕ → Option (List ℕ)) (r t : Report) → AllTold held (topic_subject topic).inputs → IsSome (held clash) → IsSome (held cert) → ClashChecks (topic_subject topic) clash cert held r → ClashChecks (topic_subject topic) clash cert held t → r ≡ t

-- of a flat text, and of the repair of its plan, the report is the one that a function computes from the bytes
pub record TextsDecideClash : Type 0 where
  pub plain : (name clash cert text why bytes : List ℕ) (held : List ℕ → Option (List ℕ)) (r : Report) → held name ≡ Some text → held clash ≡ Some why → held cert ≡ Some bytes → ClashChecks (flat_subject name) clash cert held r → r ≡ texts_clash_report text None why bytes
  pub repaired : (name plan clash cert text moved why bytes : List ℕ) (held : List ℕ → Option (List ℕ)) (r : Report) → held name ≡ Some text → held plan ≡ Some moved → held clash ≡ Some why → held cert ≡ Some bytes → ClashChecks (repair_of (flat_subject name) plan) clash cert held r → r ≡ texts_clash_report text (Some moved) why bytes
