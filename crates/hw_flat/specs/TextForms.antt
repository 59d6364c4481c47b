-- The forms of the lines of a flat text, each over the words of the line.
use Rattle.std.specs.Prelude.{ℕ, zero, suc, ◌+◌, Bool, true, false, ◌&&◌, ◌||◌, List, [], ◌∷◌, ◌++◌, Option, Some, None, option_map, codes, bytes_eq, nat_le, nat_lt, int_le, if◌then◌else◌}
use Rattle.std.specs.List.{list_any}
use Rattle.hw_model.specs.declared.limits.TheConstants.{MOST_SHIPS, MOST_SLOTS, MOST_VALUE, MOST_HOLES, MOST_DIFFERENCE, MOST_FLEET, MOST_PLAIN_FLEET, MOST_TUGS, MOST_HOLD}
use Rattle.hw_model.specs.declared.rule.Hole.{Hole}
use Rattle.hw_model.specs.declared.rule.Job.{Job}
use Rattle.hw_model.specs.declared.rule.Rule.{Rule}
use Rattle.hw_model.specs.declared.rule.Rule.TheVariants.{Pair, After, Tugs}
use Rattle.hw_model.specs.declared.rule.Step.{Step}
use Rattle.hw_text.specs.Numbers.{number_up_to, number_from_to, signed_up_to}
use Rattle.hw_text.specs.Parts.{parts_of, words_of, put_first}

infixl 10 ◌and_then◌
abbrev pub ◌and_then◌ : {A B : Type 0} → Option A → (A → Option B) → Option B
None and_then f = None
(Some x) and_then f = f x

-- the value, where the test is passed
abbrev pub kept_if : {A : Type 0} → Bool → A → Option A
kept_if test x = if test then Some x else None

-- whether ships may stay, and whether fleets have hours: `flat 1` neither, `flat 2` the first, `flat 3` the second, `flat 4` both
abbrev pub header_form : List ℕ → Option (Bool × Bool)
header_form line =
    if bytes_eq line (codes "flat 1") then Some (false, false)
    else if bytes_eq line (codes "flat 2") then Some (true, false)
    else if bytes_eq line (codes "flat 3") then Some (false, true)
    else if bytes_eq line (codes "flat 4") then Some (true, true)
    else None

abbrev pub both : Option ℕ → Option ℕ → Option (ℕ × ℕ)
both m n = m and_then λ m'. n and_then λ n'. Some (m', n')

abbrev pub size_words : List (List ℕ) → Option (ℕ × ℕ)
size_words (key ∷ ships ∷ slots ∷ []) =
    if bytes_eq key (codes "size") then both (number_from_to 1 MOST_SHIPS ships) (number_from_to 1 MOST_SLOTS slots) else None
size_words _ = None

-- `size SHIPS SLOTS`, where SLOTS counts the slots in which ships sail
abbrev pub size_form : List ℕ → Option (ℕ × ℕ)
size_form line = size_words (words_of line)

-- the items in front and those after them, where there are any
abbrev pub with_front : {A : Type 0} → List A → Option (List A) → Option (List A)
with_front front None = None
with_front front (Some xs) = Some (front ++ xs)

-- a value, or `-` for none
abbrev pub value_word : List ℕ → Option (Option ℕ)
value_word word = if bytes_eq word (codes "-") then Some None else option_map (λ n. Some n) (number_up_to MOST_VALUE word)

-- `y` where the ship may stay, which carries nothing, and `n` where it may not
abbrev pub stay_word : List ℕ → Option (Option ℕ)
stay_word word = if bytes_eq word (codes "y") then Some (Some 0) else if bytes_eq word (codes "n") then Some None else None

-- the word on staying, where there is to be one
abbrev pub last_values : Bool → List (List ℕ) → Option (List (Option ℕ))
last_values false [] = Some []
last_values false (word ∷ words) = None
last_values true [] = None
last_values true (word ∷ []) = option_map (λ v. v ∷ []) (stay_word word)
last_values true (word ∷ next ∷ words) = None

-- this many values, and the word on staying
abbrev pub row_values : Bool → ℕ → List (List ℕ) → Option (List (Option ℕ))
row_values stay zero words = last_values stay words
row_values stay (suc n) [] = None
row_values stay (suc n) (word ∷ words) = put_first (value_word word) (row_values stay n words)

abbrev pub row_words : Bool → ℕ → List (List ℕ) → Option (List (Option ℕ))
row_words stay slots [] = None
row_words stay slots (key ∷ words) = if bytes_eq key (codes "v") then row_values stay slots words else None

-- `v` and the values of a ship
abbrev pub row_form : Bool → ℕ → List ℕ → Option (List (Option ℕ))
row_form stay slots line = row_words stay slots (words_of line)

-- each word is an item of the form, and there are at most `most`
abbrev pub items_of : {A : Type 0} → (List ℕ → Option A) → ℕ → List (List ℕ) → Option (List A)
items_of form most [] = Some []
items_of form zero (word ∷ words) = None
items_of form (suc most) (word ∷ words) = put_first (form word) (items_of form most words)

-- the same, where there is at least one
abbrev pub some_items : {A : Type 0} → (List ℕ → Option A) → ℕ → List (List ℕ) → Option (List A)
some_items form most [] = None
some_items form most (word ∷ words) = items_of form most (word ∷ words)

-- a ship of the problem
abbrev pub ship_word : ℕ → List ℕ → Option ℕ
ship_word ships word = number_up_to ships word and_then λ ship. kept_if (nat_lt ship ships) ship

abbrev pub hole_parts : List (List ℕ) → Option Hole
hole_parts (lo ∷ hi ∷ []) = signed_up_to MOST_DIFFERENCE lo and_then λ lo'. signed_up_to MOST_DIFFERENCE hi and_then λ hi'. kept_if (int_le lo' hi') (record { lo = lo'; hi = hi' })
hole_parts _ = None

-- `LO:HI`
abbrev pub hole_form : List ℕ → Option Hole
hole_form word = hole_parts (parts_of 58 word)

abbrev pub job_parts : ℕ → List (List ℕ) → Option Job
job_parts ships (ship ∷ tugs ∷ hold ∷ []) =
    ship_word ships ship and_then λ ship'. number_from_to 1 MOST_TUGS tugs and_then λ tugs'. number_from_to 1 MOST_HOLD hold and_then λ hold'.
    Some (record { ship = ship'; tugs = tugs'; hold = hold' })
job_parts ships _ = None

-- `SHIP:TUGS:HOLD`
abbrev pub job_form : ℕ → List ℕ → Option Job
job_form ships word = job_parts ships (parts_of 58 word)

-- the ships of the jobs ascend, from this one on
abbrev pub ascend_from : ℕ → List Job → Bool
ascend_from least [] = true
ascend_from least (job ∷ jobs) = nat_le least job.ship && ascend_from (job.ship + 1) jobs

-- `V W LO:HI ..` with V below W
abbrev pub pair_words : ℕ → List (List ℕ) → Option Rule
pair_words ships (v ∷ w ∷ words) =
    ship_word ships v and_then λ v'. ship_word ships w and_then λ w'. some_items hole_form MOST_HOLES words and_then λ holes.
    kept_if (nat_lt v' w') (Pair v' w' holes)
pair_words ships _ = None

-- `V W GAP` with V other than W
abbrev pub after_words : ℕ → List (List ℕ) → Option Rule
after_words ships (v ∷ w ∷ gap ∷ []) =
    ship_word ships v and_then λ v'. ship_word ships w and_then λ w'. number_up_to MOST_SLOTS gap and_then λ gap'.
    kept_if (nat_lt v' w' || nat_lt w' v') (After v' w' gap')
after_words ships _ = None

-- the greatest fleet that a line may have: that of every fleet, where fleets have hours
abbrev pub most_fleet : Bool → ℕ
most_fleet hours = if hours then MOST_FLEET else MOST_PLAIN_FLEET

-- `FLEET SHIP:TUGS:HOLD ..` with ascending ships
abbrev pub tugs_words : Bool → ℕ → List (List ℕ) → Option Rule
tugs_words hours ships (fleet ∷ words) =
    number_up_to (most_fleet hours) fleet and_then λ fleet'. some_items (job_form ships) MOST_SHIPS words and_then λ jobs.
    kept_if (ascend_from 0 jobs) (Tugs fleet' [] jobs)
tugs_words hours ships _ = None

abbrev pub step_parts : ℕ → List (List ℕ) → Option Step
step_parts slots (from ∷ fleet ∷ []) =
    number_from_to 1 slots from and_then λ from'. number_up_to MOST_FLEET fleet and_then λ fleet'.
    kept_if (nat_lt from' slots) (record { from = from'; fleet = fleet' })
step_parts slots _ = None

-- `FROM:FLEET`, where FROM is a slot from 1 in which ships sail
abbrev pub step_form : ℕ → List ℕ → Option Step
step_form slots word = step_parts slots (parts_of 58 word)

abbrev pub put_front : {A : Type 0} → Option A → List ℕ → List (List ℕ) → List A × List (List ℕ) → List A × List (List ℕ)
put_front None word words read = ([], word ∷ words)
put_front (Some x) word words read = (x ∷ read.0, read.1)

-- the items of the form in front, and the words from the first that isn't one
abbrev pub front_items : {A : Type 0} → (List ℕ → Option A) → List (List ℕ) → List A × List (List ℕ)
front_items form [] = ([], [])
front_items form (word ∷ words) = put_front (form word) word words (front_items form words)

-- the slots of the steps ascend, from this one on
abbrev pub steps_ascend_from : ℕ → List Step → Bool
steps_ascend_from least [] = true
steps_ascend_from least (step ∷ steps) = nat_le least step.from && steps_ascend_from (step.from + 1) steps

-- there is a step, and the slots of the steps ascend
abbrev pub some_ascending : List Step → Bool
some_ascending [] = false
some_ascending (step ∷ steps) = steps_ascend_from 1 (step ∷ steps)

-- a fleet and its steps with the jobs of these words, of ascending ships
abbrev pub with_jobs : ℕ → ℕ → List Step × List (List ℕ) → Option Rule
with_jobs ships fleet steps =
    some_items (job_form ships) MOST_SHIPS steps.1 and_then λ jobs.
    kept_if (some_ascending steps.0 && ascend_from 0 jobs) (Tugs fleet steps.0 jobs)

-- `FLEET FROM:FLEET .. SHIP:TUGS:HOLD ..` with ascending slots and ascending ships. They are at most 511 steps, since FROM
-- ascends from 1 to SLOTS - 1
abbrev pub hours_words : ℕ → ℕ → List (List ℕ) → Option Rule
hours_words ships slots (fleet ∷ words) =
    number_up_to MOST_FLEET fleet and_then λ fleet'. with_jobs ships fleet' (front_items (step_form slots) words)
hours_words ships slots _ = None

abbrev pub rule_words : Bool → ℕ → ℕ → List (List ℕ) → Option Rule
rule_words hours ships slots [] = None
rule_words hours ships slots (key ∷ words) =
    if bytes_eq key (codes "p") then pair_words ships words
    else if bytes_eq key (codes "s") then after_words ships words
    else if bytes_eq key (codes "u") then tugs_words hours ships words
    else if hours && bytes_eq key (codes "h") then hours_words ships slots words
    else None

-- a rule: `p` and a pair, `s` and a precedence, `u` and a fleet with its jobs, and where fleets have hours `h` and a fleet with
-- its steps and its jobs
abbrev pub rule_form : Bool → ℕ → ℕ → List ℕ → Option Rule
rule_form hours ships slots line = rule_words hours ships slots (words_of line)

-- the rule needs a text whose fleets have hours: it has steps, or a fleet above those of the texts without hours
abbrev pub has_hours : Rule → Bool
has_hours (Pair v w holes) = false
has_hours (After v w gap) = false
has_hours (Tugs fleet [] jobs) = nat_lt MOST_PLAIN_FLEET fleet
has_hours (Tugs fleet (step ∷ later) jobs) = true

-- one of the rules does
abbrev pub any_hours : List Rule → Bool
any_hours rules = list_any has_hours rules
