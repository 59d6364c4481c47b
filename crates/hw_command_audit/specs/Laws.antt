-- The law of commands over a day.
use Rattle.std.specs.Prelude.{◌≡◌, ℕ, List, Some}
use Rattle.hw_report.specs.Reports.{Report}
use Rattle.hw_command_audit.specs.Days.{DayAnswer, DaySays}

-- the bytes of the four files decide the reports
abbrev pub OneAnswer : DayAnswer → Type 0
OneAnswer answer = (instance tides plan events : List ℕ) (reports others : List Report)
    → DaySays answer (Some instance) (Some tides) (Some plan) (Some events) reports → DaySays answer (Some instance) (Some tides) (Some plan) (Some events) others → reports ≡ others
