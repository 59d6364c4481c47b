-- The laws of a certificate's verdict: what valid lines prove, and when a line is refused.
use Rattle.std.specs.Prelude.{◌≡◌, ◌↔◌, ℕ, ◌≤◌, List, Some, None, All, IfSome, IsSomeAnd, IsTrue}
use Rattle.hw_model.specs.Problem.{Problem}
use Rattle.hw_model.specs.Limits.{IsFlat}
use Rattle.hw_model.specs.Timetables.{Permits, cargo, beats, IsBest, NonePermitted}
use Rattle.hw_model.specs.Lits.{clause_holds}
use Rattle.hw_cert_lines.specs.declared.check.Verdict.TheVariants.{Optimal, Infeasible}
use Rattle.hw_cert_lines.specs.declared.line.Line.{Line}
use Rattle.hw_cert_lines.specs.Lines.{clauses_of, last_table, best_of}
use Rattle.hw_cert_lines.specs.Tolled.{bound_of}
use Rattle.hw_cert_lines.specs.Valid.{LineFits, ValidAfter, Valid, verdict}
use Rattle.hw_cert_lines.specs.Refusals.{refusal}
use Rattle.hw_cert_laws.specs.Causes.{CanJudge}

-- every clause of valid lines is true of every permitted timetable whose cargo beats the best at their end
abbrev pub SoundLines : Type 0
SoundLines = (f : Problem) (all : List Line) → IsFlat f → All (LineFits f) all → Valid f all → (table : List ℕ) (c : ℕ) → Permits f table → cargo f table ≡ Some c → IsTrue (beats c (best_of f all)) → All (λ clause. IsTrue (clause_holds table clause)) (clauses_of all)

-- Optimal says that the last table is a best timetable with this cargo, and Infeasible that none is permitted
abbrev pub SoundVerdict : Type 0
SoundVerdict = (f : Problem) (all : List Line) → IsFlat f → All (LineFits f) all → Valid f all → (((c : ℕ) → verdict f all ≡ Optimal c → IsSomeAnd (last_table all) (λ table. IsBest f table c)) × (verdict f all ≡ Infeasible → NonePermitted f))

-- no permitted timetable carries more than this, in tenths of a tonne
abbrev pub IsBound : Problem → ℕ → Type 0
IsBound f bound = (table : List ℕ) (c : ℕ) → Permits f table → cargo f table ≡ Some c → c ≤ bound

-- no permitted timetable carries more than the bound of valid lines
abbrev pub SoundBounds : Type 0
SoundBounds = (f : Problem) (all : List Line) → IsFlat f → Valid f all → IfSome (bound_of all) (IsBound f)

-- the search for a cause finds none exactly where the line is valid
abbrev pub RefusalComputed : Type 0
RefusalComputed = (f : Problem) (before : List Line) (line : Line) → LineFits f line → CanJudge f before line → ((refusal f before line ≡ None) ↔ ValidAfter f before line)

-- each line after valid lines of a problem that keeps the limits is tested exactly
abbrev pub JudgedExactly : Type 0
JudgedExactly = (f : Problem) (before : List Line) (line : Line) → IsFlat f → Valid f before → CanJudge f before line
