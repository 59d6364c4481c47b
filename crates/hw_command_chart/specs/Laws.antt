-- The laws of pictures of certificates.
use Rattle.std.specs.Prelude.{◌≡◌, ◌⊎◌, ℕ, List, Option, Some, IsSome}
use Rattle.hw_cert_lines.specs.declared.check.Verdict.{Verdict}
use Rattle.hw_cert.specs.declared.version.Version.TheVariants.{Two, Three}
use Rattle.hw_report.specs.Reports.{Report, Naming, checked, picture}
use Rattle.hw_subject.specs.Subjects.{Subject, Topic, topic_subject, flat_subject}
use Rattle.hw_subject.specs.Checks.{Checks}
use Rattle.hw_subject.specs.Decided.{AllTold, NamesThird}
use Rattle.hw_command_chart.specs.Charts.{Charts, picture_of}
use Rattle.hw_command_chart.specs.Texts.{texts_chart}

-- where all inputs and the certificate are told, their bytes decide the picture, and what is reported where nothing is drawn, unless a call fails or memory runs out
abbrev pub OneChart : Type 0
OneChart = (topic : Topic) (cert : List ℕ) (held : List ℕ → Option (List ℕ)) (r t : Report) → AllTold held (topic_subject topic).inputs → IsSome (held cert) → Charts (topic_subject topic) cert held r → Charts (topic_subject topic) cert held t → r ≡ t

-- of a flat text the report is the one that a function computes from the bytes
abbrev pub TextsDecideChart : Type 0
TextsDecideChart = (name cert text bytes : List ℕ) (held : List ℕ → Option (List ℕ)) (r : Report) → held name ≡ Some text → held cert ≡ Some bytes → Charts (flat_subject name) cert held r → r ≡ texts_chart text bytes

-- the picture of what is read of the inputs, reported in these names, with this verdict and this bound, and with some timetable or none
pub record IsPictureOf (s : Subject) (held : List ℕ → Option (List ℕ)) (shows : Verdict) (bound : Option ℕ) (names : Naming) (r : Report) : Type 0 where
  pub value : s.Value
  pub reads : s.Reads held value
  pub naming : names ≡ s.naming value
  pub table : Option (List ℕ)
  pub drawn : r ≡ picture shows (picture_of names (s.problem value) (s.plan value) table (record { verdict = shows; bound = bound }))

-- the report of `chart`, by that of `verify`: a picture of the verdict and the bound that are shown, and the same report where nothing is
abbrev pub IsChartOf : Subject → (List ℕ → Option (List ℕ)) → Report → Report → Type 0
IsChartOf s held (checked shows bound ships names) r = IsPictureOf s held shows bound names r
IsChartOf s held c r = r ≡ c

-- of the same told bytes `chart` draws what `verify` shows, and refuses what `verify` refuses, unless a call fails or memory runs out
abbrev pub ChartsAsVerified : Type 0
ChartsAsVerified = (topic : Topic) (cert : List ℕ) (held : List ℕ → Option (List ℕ)) (c r : Report) → AllTold held (topic_subject topic).inputs → IsSome (held cert) → Checks (topic_subject topic) Three cert held c → Charts (topic_subject topic) cert held r → IsChartOf (topic_subject topic) held c r

-- the same by `check`, unless the certificate names the third version
abbrev pub ChartsAsChecked : Type 0
ChartsAsChecked = (topic : Topic) (cert bytes : List ℕ) (held : List ℕ → Option (List ℕ)) (c r : Report) → AllTold held (topic_subject topic).inputs → held cert ≡ Some bytes → Checks (topic_subject topic) Two cert held c → Charts (topic_subject topic) cert held r → NamesThird bytes ⊎ IsChartOf (topic_subject topic) held c r
