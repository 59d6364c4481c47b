-- What holds of a solution that goes on, and what is left of it.
use Rattle.std.specs.Prelude.{◌≡◌, ℕ, ◌+◌, ◌-◌, ◌*◌, ◌≤◌, true, false, List, Option, Some, None, All, length}
use Rattle.hw_model.specs.Problem.{Problem, shape_of}
use Rattle.hw_model.specs.Rooms.{whole_room}
use Rattle.hw_model.specs.Refuting.{greatest_sum}
use Rattle.hw_cert_lines.specs.declared.line.Line.{Line}
use Rattle.hw_cert_lines.specs.Tolled.{is_plain}
use Rattle.hw_cert_lines.specs.Lines.{last_table}
use Rattle.hw_cert_lines.specs.Valid.{LineFits, Valid}
use Rattle.hw_cert_lines.specs.Lemmas.{lemmas_of, IsNew, IsLean}
use Rattle.hw_trail_laws.specs.Trails.{most_events}
use Rattle.hw_cert.specs.Logs.{LogTold, LogModel, Grows}
use Rattle.hw_search_laws.specs.Living.{FewLiveThroughout}
use Rattle.hw_search_laws.specs.Searches.{SearchModel, LogFits, best_cargo}

-- the lines say nothing of tolls or prices, are of the problem's shape, valid, lean and new, and few are live after each
pub record WellWritten (f : Problem) (all : List Line) : Type 0 where
  pub plain : All (λ line. is_plain line ≡ true) all
  pub fit : All (LineFits f) all
  pub valid : Valid f all
  pub lean : IsLean f all
  pub new : IsNew f all
  pub few_live : FewLiveThroughout f all

-- the lines so far, and the search that they fit
pub record SoFar (f : Problem) (s : SearchModel) (now : LogTold) : Type 0 where
  pub fits : LogFits now s
  pub well : WellWritten f now.lines
  pub lemmas : length (lemmas_of now.lines) ≡ s.lemmas

-- a solution that goes on: the log was `old` as it began
pub record Going (f : Problem) (budget : ℕ) (s : SearchModel) (old now : LogModel) : Type 0 where
  pub same_problem : s.problem ≡ f
  pub going : s.over ≡ false
  pub within : s.lemmas ≤ budget
  pub later : old.faults ≤ now.faults
  pub told : Grows old now (λ was here. SoFar f s here)

-- what a turn that was the last one leaves
pub record Closing (f : Problem) (u : SearchModel) (now : LogTold) : Type 0 where
  pub well : WellWritten f now.lines
  pub best : last_table now.lines ≡ u.best
  pub lemmas : length (lemmas_of now.lines) ≡ u.lemmas

-- a cargo, counted from 1, and 0 for none
abbrev pub cargo_rank : Option ℕ → ℕ
cargo_rank None = 0
cargo_rank (Some c) = c + 1

-- no timetable has more cargo than this
abbrev pub most_cargo : Problem → ℕ
most_cargo f = greatest_sum f (whole_room (shape_of f))

-- at most this many turns are to come: each finds a better timetable, a lemma, or an event
abbrev pub turns_left : ℕ → SearchModel → ℕ
turns_left budget s = (most_cargo s.problem + 1 - cargo_rank (best_cargo s)) + ((budget - s.lemmas) * (most_events s.problem.ships s.problem.slots + 1) + (most_events s.problem.ships s.problem.slots - length s.trail.events))
