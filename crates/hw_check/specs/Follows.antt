-- The lines that a checker has taken, by what it keeps.
use Rattle.std.specs.Prelude.{◌≡◌, List, [], ◌∷◌, ◌++◌, Option, Some, Result, Ok, Err, All, ⊤}
use Rattle.hw_model.specs.Problem.{Problem}
use Rattle.hw_cert_lines.specs.declared.check.Refusal.{Refusal}
use Rattle.hw_cert_lines.specs.declared.line.Line.{Line}
use Rattle.hw_cert_lines.specs.Valid.{LineFits, ValidAfter, Valid}
use Rattle.hw_cert_lines.specs.Kept.{kept_of}
use Rattle.hw_cert_lines.specs.Refusals.{refusal}
use Rattle.hw_check.specs.declared.stop.CheckStop.{CheckStop}
use Rattle.hw_check.specs.declared.stop.CheckStop.TheVariants as stops
use Rattle.hw_check.specs.States.{CheckState}

-- the lines are valid lines of the problem, and what is kept is what a later line needs of them
pub record CheckerFollows (c : CheckState) (all : List Line) : Type 0 where
  pub fit : All (LineFits c.problem) all
  pub valid : Valid c.problem all
  pub kept : c.kept ≡ kept_of c.problem all

-- a refusal is the one that was found; memory may run out at any time
abbrev pub Stops : CheckStop → Option Refusal → Type 0
Stops (stops.Refused r) found = found ≡ Some r
Stops stops.NoMemory found = ⊤

-- what a checker that follows these lines answers to one more
abbrev pub CheckerAnswers : Problem → List Line → Line → Result CheckState CheckStop → Type 0
CheckerAnswers f before line (Ok c) = (c.problem ≡ f) × ValidAfter f before line × CheckerFollows c (before ++ line ∷ [])
CheckerAnswers f before line (Err stop) = Stops stop (refusal f before line)
