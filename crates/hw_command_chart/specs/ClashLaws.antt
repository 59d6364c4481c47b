-- The law of pictures of clashes.
use Rattle.std.specs.Prelude.{◌≡◌, ℕ, List, Option, IsSome}
use Rattle.hw_report.specs.Reports.{Report}
use Rattle.hw_subject.specs.Decided.{AllTold}
use Rattle.hw_subject.specs.Subjects.{port_subject}
use Rattle.hw_command_chart.specs.ClashCharts.{ChartsClash}

-- the files' bytes decide what is drawn of a clash, and what is reported where nothing is, unless a call fails or memory runs out
abbrev pub OneClashChart : Type 0
OneClashChart = (instance tides clash cert : List ℕ) (held : List ℕ → Option (List ℕ)) (r t : Report) → AllTold held (port_subject instance tides).inputs → IsSome (held clash) → IsSome (held cert) → ChartsClash (port_subject instance tides) clash cert held r → ChartsClash (port_subject instance tides) clash cert held t → r ≡ t
