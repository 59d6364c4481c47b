-- Lines that go on from others.
use Rattle.std.specs.Prelude.{◌≡◌, ℕ, ◌+◌, ◌≤◌, List, ◌++◌, Some, IsSomeAnd, All, length}
use Rattle.hw_model.specs.Problem.{Problem}
use Rattle.hw_model.specs.Timetables.{cargo}
use Rattle.hw_cert_lines.specs.declared.check.Refusal.{Refusal}
use Rattle.hw_cert_lines.specs.declared.line.Line.{Line}
use Rattle.hw_cert_lines.specs.declared.line.Line.TheVariants as lines
use Rattle.hw_cert_lines.specs.Kept.{Kept, kept_of}
use Rattle.hw_cert_lines.specs.Refusals.{refusal}
use Rattle.hw_cert_lines.specs.Valid.{LineFits, Valid}

-- lines of the problem that begin with those of the start, each valid after those before it
pub record LinesGoOn (f : Problem) (start all : List Line) : Type 0 where
  pub more : List Line
  pub parts : all ≡ start ++ more
  pub fit : All (LineFits f) all
  pub valid : Valid f all

-- a line says no more than those before it, of which this is kept: a timetable that isn't better than the best, or a bound that isn't below the last one
abbrev pub SaysNoMore : Problem → Kept → Line → Type 0
SaysNoMore f kept (lines.Table table) = IsSomeAnd (cargo f table) (λ c. IsSomeAnd kept.best (λ best. c ≤ best))
SaysNoMore f kept (lines.Bound bound) = IsSomeAnd kept.bound (λ last. last ≤ bound)
SaysNoMore f kept line = ⊥

-- a line of the problem that isn't valid after some that go on from the start, for this cause; it would have been the one of this number, counted from 1 with the header
pub record LineFails (f : Problem) (start : List Line) (number : ℕ) (cause : Refusal) : Type 0 where
  pub before : List Line
  pub line : Line
  pub goes_on : LinesGoOn f start before
  pub fits : LineFits f line
  pub news : SaysNoMore f (kept_of f before) line → ⊥
  pub counted : number ≡ length before + 2
  pub refused : refusal f before line ≡ Some cause
