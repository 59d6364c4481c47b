-- A timetable that an adviser proposes, part by part.
use Rattle.std.specs.Prelude.{◌≡◌, ⊤}
use Rattle.hw_cert.specs.Logs.{LogModel}
use Rattle.hw_search_laws.specs.declared.outcome.Proposed.{Proposed}
use Rattle.hw_search_laws.specs.declared.outcome.Proposed.TheVariants as answers
use Rattle.hw_search_laws.specs.declared.outcome.Turn.{Turn}
use Rattle.hw_search_laws.specs.declared.outcome.Turn.TheVariants as turns

-- the answer to an offer, which is one of three
abbrev pub proposed_by : Turn → Proposed
proposed_by turns.Decided = answers.NoMemory
proposed_by turns.Better = answers.Better
proposed_by turns.Lemma = answers.NoMemory
proposed_by turns.Ended = answers.NoMemory
proposed_by turns.NoMemory = answers.NoMemory
proposed_by turns.LogFailed = answers.LogFailed

-- the call had no fault of the log, unless it says that the log failed
abbrev pub ProposeKeepsFaults : Proposed → LogModel → LogModel → Type 0
ProposeKeepsFaults answers.Better old new = new.faults ≡ old.faults
ProposeKeepsFaults answers.Same old new = new.faults ≡ old.faults
ProposeKeepsFaults answers.NoMemory old new = new.faults ≡ old.faults
ProposeKeepsFaults answers.LogFailed old new = ⊤
