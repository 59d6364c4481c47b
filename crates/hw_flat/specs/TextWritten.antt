-- The one text of a flat problem, line by line.
use Rattle.std.specs.Prelude.{IsTrue, ◌≡◌, ℕ, zero, suc, ◌<◌, Bool, List, [], ◌∷◌, ◌++◌, map, take, drop, Option, Some, None, codes, decimal, unwrap_or, if◌then◌else◌}
use Rattle.std.specs.Fmt.{signed_decimal}
use Rattle.std.specs.List.{join_with_byte}
use Rattle.hw_model.specs.declared.rule.Hole.{Hole}
use Rattle.hw_model.specs.declared.rule.Job.{Job}
use Rattle.hw_model.specs.declared.rule.Rule.{Rule}
use Rattle.hw_model.specs.declared.rule.Rule.TheVariants.{Pair, After, Tugs}
use Rattle.hw_model.specs.declared.rule.Step.{Step}
use Rattle.hw_model.specs.Problem.{Problem, horizon, value_at}
use Rattle.hw_text.specs.Parts.{spaced, ended_lines}
use Rattle.hw_flat.specs.TextForms.{any_hours}

-- the words, each with a space in front
abbrev pub led : List (List ℕ) → List ℕ
led [] = []
led (word ∷ words) = 32 ∷ word ++ led words

-- by whether ships may stay and whether a rule needs hours
abbrev pub header_text : Bool → Bool → List ℕ
header_text stay hours =
    if hours then if stay then codes "flat 4" else codes "flat 3"
    else if stay then codes "flat 2" else codes "flat 1"

abbrev pub size_text : ℕ → ℕ → List ℕ
size_text ships slots = spaced (codes "size" ∷ decimal ships ∷ decimal slots ∷ [])

abbrev pub value_text : Option ℕ → List ℕ
value_text None = codes "-"
value_text (Some value) = decimal value

-- whether a ship may stay
abbrev pub stay_text : Option ℕ → List ℕ
stay_text None = codes "n"
stay_text (Some value) = codes "y"

-- the words of a row: the values of the slots in which ships sail, and the word on staying where there is one more slot
abbrev pub row_texts : ℕ → List (Option ℕ) → List (List ℕ)
row_texts slots row = map value_text (take slots row) ++ map stay_text (drop slots row)

abbrev pub row_text : ℕ → List (Option ℕ) → List ℕ
row_text slots row = spaced (codes "v" ∷ row_texts slots row)

abbrev pub hole_text : Hole → List ℕ
hole_text hole = join_with_byte 58 (signed_decimal hole.lo ∷ signed_decimal hole.hi ∷ [])

abbrev pub job_text : Job → List ℕ
job_text job = join_with_byte 58 (decimal job.ship ∷ decimal job.tugs ∷ decimal job.hold ∷ [])

abbrev pub step_text : Step → List ℕ
step_text step = join_with_byte 58 (decimal step.from ∷ decimal step.fleet ∷ [])

-- `u`, and `h` where there are steps
abbrev pub tugs_key : List Step → List ℕ
tugs_key [] = codes "u"
tugs_key (step ∷ later) = codes "h"

-- the words of a rule
abbrev pub rule_texts : Rule → List (List ℕ)
rule_texts (Pair v w holes) = codes "p" ∷ decimal v ∷ decimal w ∷ map hole_text holes
rule_texts (After v w gap) = codes "s" ∷ decimal v ∷ decimal w ∷ decimal gap ∷ []
rule_texts (Tugs fleet later jobs) = tugs_key later ∷ decimal fleet ∷ (map step_text later ++ map job_text jobs)

abbrev pub rule_text : Rule → List ℕ
rule_text rule = spaced (rule_texts rule)

-- the rows of values, one for each ship
abbrev pub rows_in : ℕ → ℕ → List (Option ℕ) → List (List (Option ℕ))
rows_in zero slots values = []
rows_in (suc ships) slots values = take slots values ∷ rows_in ships slots (drop slots values)

-- the lines of a problem
abbrev pub problem_lines : Problem → List (List ℕ)
problem_lines f =
    header_text f.stay (any_hours f.rules) ∷ size_text f.ships (horizon f) ∷ (map (row_text (horizon f)) (rows_in f.ships f.slots f.values) ++ map rule_text f.rules ++ codes "end" ∷ [])

-- the text of a problem: its lines, each ended
abbrev pub problem_text : Problem → List ℕ
problem_text f = ended_lines (problem_lines f)

-- where ships may stay, each has no value or 0 in the last slot, as a text says it
abbrev pub IsWritable : Problem → Type 0
IsWritable f = (ship : ℕ) → ship < f.ships → IsTrue f.stay → unwrap_or (value_at f ship (horizon f)) 0 ≡ 0
