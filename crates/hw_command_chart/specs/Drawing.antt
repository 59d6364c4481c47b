-- A picture of what was given, and how a run ends with it.
use Rattle.std.specs.Prelude.{◌⊎◌, ℕ, List, [], ◌∷◌, Option, None, Some, option_map}
use Rattle.hw_desk.specs.State.{DeskState}
use Rattle.hw_chart.specs.declared.outcome.Outcome.{Outcome}
use Rattle.hw_report.specs.Reports.{Report, no_memory, picture}
use Rattle.hw_command.specs.Ends.{Ends}
use Rattle.hw_command.specs.declared.status.Status.{Status}
use Rattle.hw_subject.specs.Reading.{naming_of, plan_in}
use Rattle.hw_subject.specs.declared.source.Named.{Named}
use Rattle.hw_subject.specs.declared.subject.Given.{Given}
use Rattle.hw_command_chart.specs.Charts.{picture_of}
use Rattle.hw_command_chart.specs.declared.repairing.Drawn.{Drawn}

-- the picture, with a timetable or none
abbrev pub drawn : Given → Option (List ℕ) → Outcome → List ℕ
drawn given table o = picture_of (naming_of given.named) given.flat (plan_in given.repair) table o

-- that of a problem which isn't repaired
abbrev pub plainly_drawn : Given → Option (List ℕ) → Outcome → List ℕ
plainly_drawn given table o = picture_of (naming_of given.named) given.flat None table o

-- that of a repair
abbrev pub drawn_repair : Named → Drawn → List ℕ
drawn_repair named d = picture_of (naming_of named) d.flat.now (Some d.plan.now) (option_map (λ p. p.now.table) d.moves) d.outcome

-- the report that is this picture
abbrev pub drawn_report : Given → Option (List ℕ) → Outcome → Report
drawn_report given table o = picture o.verdict (drawn given table o)

-- a run ends with this report, or memory ran out before any of it was sent
abbrev pub EndsUnlessMemory : Report → DeskState → DeskState → Status → Type 0
EndsUnlessMemory r old new s = Ends (r ∷ []) old new s ⊎ Ends (no_memory ∷ []) old new s
