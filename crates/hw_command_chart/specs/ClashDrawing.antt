-- What a run reports that draws a clash.
use Rattle.std.specs.Prelude.{◌≡◌, ◌<◌, ℕ, List, All, length, ⊤}
use Rattle.hw_cert_lines.specs.declared.check.Verdict.TheVariants.{Infeasible}
use Rattle.hw_report.specs.Reports.{Report, Naming, by_number, by_name, picture}
use Rattle.hw_command.specs.declared.outcome.CertOutcome.{CertOutcome}
use Rattle.hw_command.specs.declared.outcome.CertOutcome.TheVariants.{Shows}
use Rattle.hw_clash.specs.Clashes.{Clash}
use Rattle.hw_port_named.specs.Restrictions.{named_restrictions}
use Rattle.hw_command_clash.specs.Texts.{report_of_part}
use Rattle.hw_command_chart.specs.ClashCharts.{clash_drawn}

-- each number is that of a line of the port
abbrev pub AreLines : Naming → List ℕ → Type 0
AreLines by_number kept = ⊤
AreLines (by_name p h) kept = All (λ n. n < length (named_restrictions p)) kept

-- the tide has a column for each waypoint
abbrev pub HasColumns : Naming → Type 0
HasColumns by_number = ⊤
HasColumns (by_name p h) = h.columns ≡ length p.waypoints

-- the picture of a clash that holds, and otherwise the report of its certificate
abbrev pub clash_chart_report : Naming → Clash → CertOutcome → Report
clash_chart_report names clash (Shows Infeasible) = picture Infeasible (clash_drawn names clash)
clash_chart_report names clash outcome = report_of_part outcome
