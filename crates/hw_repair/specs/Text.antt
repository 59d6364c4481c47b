-- The text of a plan, over the list of its lines.
use Rattle.std.specs.Prelude.{ℕ, zero, suc, ◌+◌, ◌*◌, Bool, true, ◌||◌, List, [], ◌∷◌, Option, Some, None, option_and_then, Result, Ok, codes, bytes_eq, nat_lt, nat_le, unwrap_or, if◌then◌else◌}
use Rattle.std.specs.List.{list_all, list_any, range_with_len}
use Rattle.hw_lemmas.specs.Operators.{◌>>=◌}
use Rattle.hw_model.specs.declared.limits.TheConstants.{MOST_VALUE, MOST_PLAIN_FLEET}
use Rattle.hw_model.specs.declared.rule.Rule.{Rule}
use Rattle.hw_model.specs.declared.rule.Rule.TheVariants.{Tugs}
use Rattle.hw_model.specs.Problem.{Problem, value_at}
use Rattle.hw_plan_texts.specs.Reading.{MalformedLine, malformed_line, formed_line, formed_line_at, only_at, ended_at}
use Rattle.hw_plan_texts.specs.Slots.{slot_form}
use Rattle.hw_text.specs.Numbers.{number_from_to}
use Rattle.hw_text.specs.Parts.{parts_of, words_of}
use Rattle.hw_repair.specs.declared.fault.PlanWord.{PlanWord}
use Rattle.hw_repair.specs.declared.fault.PlanWord.TheVariants as words
use Rattle.hw_repair.specs.declared.plan.Wish.{Wish}
use Rattle.hw_repair.specs.declared.plan.Wish.TheVariants.{Kept, Planned}
use Rattle.hw_repair.specs.Wishes.{PlanParts}

-- ---- the lines' forms

abbrev pub kept_by : Option ℕ → Option Wish
kept_by None = None
kept_by (Some slot) = Some (Kept slot)

abbrev pub planned_by : Option ℕ → Option ℕ → Option Wish
planned_by None from = None
planned_by (Some slot) None = None
planned_by (Some slot) (Some from) = Some (Planned slot from)

abbrev pub kept_words : ℕ → List (List ℕ) → Option Wish
kept_words slots (slot ∷ []) = kept_by (slot_form slots slot)
kept_words slots _ = None

abbrev pub planned_words : ℕ → List (List ℕ) → Option Wish
planned_words slots (slot ∷ from ∷ []) = planned_by (slot_form slots slot) (slot_form slots from)
planned_words slots _ = None

abbrev pub wish_words : ℕ → List (List ℕ) → Option Wish
wish_words slots [] = None
wish_words slots (key ∷ words) =
    if bytes_eq key (codes "k") then kept_words slots words
    else if bytes_eq key (codes "o") then planned_words slots words
    else None

-- `k SLOT` of a ship that has sailed, or `o SLOT FROM` of one that was planned for SLOT and may be given FROM or a later slot
abbrev pub wish_form : ℕ → List ℕ → Option Wish
wish_form slots line = wish_words slots (words_of line)

-- some value of the ship is too large to be repaired
abbrev pub is_large : Problem → ℕ → Bool
is_large f ship = list_any (λ slot. nat_lt MOST_VALUE (unwrap_or (value_at f ship slot) 0 * (f.ships + 1) + 1)) (range_with_len 0 f.slots)

-- a rule on tugs has this many in some slot
abbrev pub rule_has_tugs : ℕ → Rule → Bool
rule_has_tugs withdrawn (Tugs fleet later jobs) = nat_le withdrawn fleet || list_any (λ step. nat_le withdrawn step.fleet) later
rule_has_tugs withdrawn rule = true

abbrev pub within_fleet : List Rule → ℕ → Option ℕ
within_fleet rules withdrawn = if list_all (rule_has_tugs withdrawn) rules then Some withdrawn else None

abbrev pub withdrawn_words : List Rule → List (List ℕ) → Option ℕ
withdrawn_words rules (key ∷ count ∷ []) = if bytes_eq key (codes "w") then option_and_then (within_fleet rules) (number_from_to 1 MOST_PLAIN_FLEET count) else None
withdrawn_words rules _ = None

-- `w COUNT`: a tug or more is withdrawn, no more than each rule on tugs has in some slot
abbrev pub withdrawn_form : List Rule → List ℕ → Option ℕ
withdrawn_form rules line = withdrawn_words rules (words_of line)

-- ---- the lines of the text

-- what stands before the ships' lines: the tugs withdrawn, the number of the first ship's line, and the parts from there on
abbrev pub Opening : Type 0
Opening = ℕ × ℕ × List (List ℕ)

-- of a plan of the second version, from its second line on
unfoldable pub withdrawn_at : List Rule → List (List ℕ) → Result Opening (MalformedLine PlanWord)
withdrawn_at rules parts = do
  line ← formed_line_at 2 words.Fleet parts
  withdrawn ← formed_line 2 words.Fleet (withdrawn_form rules line.0)
  Ok (withdrawn, 3, line.1)

-- by the first line; the first version withdraws no tugs
abbrev pub opening_by : List Rule → List ℕ → List (List ℕ) → Result Opening (MalformedLine PlanWord)
opening_by rules line parts =
    if bytes_eq line (codes "plan 1") then Ok (0, 2, parts)
    else if bytes_eq line (codes "plan 2") then withdrawn_at rules parts
    else malformed_line 1 words.Header

-- of a plan of either version
unfoldable pub opening_at : List Rule → List (List ℕ) → Result Opening (MalformedLine PlanWord)
opening_at rules parts = do
  line ← formed_line_at 1 words.Header parts
  opening_by rules line.0 line.1

-- the wish of a ship on the next line, where the ship's values can be repaired. Ship 0 has the first line
unfoldable pub wish_at : Problem → ℕ → ℕ → List (List ℕ) → Result (Wish × List (List ℕ)) (MalformedLine PlanWord)
wish_at f first ship parts = do
  line ← formed_line_at (first + ship) words.Ship parts
  wish ← formed_line (first + ship) words.Ship (wish_form f.slots line.0)
  if is_large f ship then malformed_line (first + ship) words.Large else Ok (wish, line.1)

-- the wishes of this many ships, from this ship on
unfoldable pub wishes_at : Problem → ℕ → ℕ → ℕ → List (List ℕ) → Result (List Wish × List (List ℕ)) (MalformedLine PlanWord)
wishes_at f first ship zero parts = Ok ([], parts)
wishes_at f first ship (suc many) parts = do
  wish ← wish_at f first ship parts
  more ← wishes_at f first (ship + 1) many wish.1
  Ok (wish.0 ∷ more.0, more.1)

-- the plan of the lines, or the first bad line
unfoldable pub plan_of : Problem → List (List ℕ) → Result PlanParts (MalformedLine PlanWord)
plan_of f parts = do
  head ← opening_at f.rules parts
  read ← wishes_at f head.1 0 f.ships head.2
  rest ← only_at (head.1 + f.ships) words.Tail (codes "end") read.1
  ended_at (head.1 + f.ships + 1) words.Tail (record { withdrawn = head.0; wishes = read.0 }) rest

-- what a text says: a plan of the problem, or the first line that isn't of the form demanded at its place
abbrev pub plan_text : Problem → List ℕ → Result PlanParts (MalformedLine PlanWord)
plan_text f bytes = plan_of f (parts_of 10 bytes)
