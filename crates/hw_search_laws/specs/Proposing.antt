-- What the call for a timetable that an adviser proposes does.
use Rattle.std.specs.Prelude.{◌≡◌, ℕ, List, [], ◌∷◌, ◌++◌, Some}
use Rattle.hw_model.specs.Timetables.{Permits}
use Rattle.hw_cert_lines.specs.declared.line.Line.TheVariants as lines
use Rattle.hw_cert.specs.Logs.{LogModel, Grows}
use Rattle.hw_search_laws.specs.declared.outcome.Proposed.{Proposed}
use Rattle.hw_search_laws.specs.declared.outcome.Proposed.TheVariants as answers
use Rattle.hw_search_laws.specs.declared.outcome.Turn.TheVariants as turns
use Rattle.hw_search_laws.specs.Advised.{HeedWrites, StopsBound}
use Rattle.hw_search_laws.specs.Offers.{IsBetter}
use Rattle.hw_search_laws.specs.Searches.{SearchModel, IsSearch}

-- a permitted timetable that beats the best is the best from then on, and all else is as before: its line was written, alone
pub record TakesProposal (s after : SearchModel) (old new : LogModel) : Type 0 where
  pub table : List ℕ
  pub permitted : Permits s.problem table
  pub better : IsBetter s table
  pub takes : after ≡ record s { best = Some table }
  pub kept : IsSearch after
  pub same_faults : new.faults ≡ old.faults
  pub writes : Grows old new (λ was now. (now.lines ≡ was.lines ++ lines.Table table ∷ []) × HeedWrites s after was now)

-- what the call meets, by its answer: what was proposed and isn't both permitted and better changes nothing
abbrev pub ProposeMeets : SearchModel → LogModel → Proposed → SearchModel → LogModel → Type 0
ProposeMeets s old answers.Better after new = TakesProposal s after old new
ProposeMeets s old answers.Same after new = (after ≡ s) × (new ≡ old)
ProposeMeets s old answers.NoMemory after new = StopsBound s old turns.NoMemory after new
ProposeMeets s old answers.LogFailed after new = StopsBound s old turns.LogFailed after new
