-- What is wanted at a line of a flat text, by the place of the line. A line that isn't there has no form.
use Rattle.std.specs.Prelude.{◌≡◌, ◌≢◌, ◌⊎◌, ℕ, ◌+◌, ◌-◌, ◌<◌, ◌≤◌, Bool, true, false, List, [], ◌∷◌, drop, Option, Some, None, IfSome, IsSomeAnd, codes}
use Rattle.hw_model.specs.declared.limits.TheConstants.{MOST_RULES}
use Rattle.hw_model.specs.declared.rule.Rule.{Rule}
use Rattle.hw_flat.specs.declared.fault.FlatWord.{FlatWord}
use Rattle.hw_flat.specs.declared.fault.FlatWord.TheVariants as words
use Rattle.hw_flat.specs.TextForms.{◌and_then◌, header_form, size_form, row_form, rule_form, has_hours}
use Rattle.hw_flat_laws.specs.FirstLines.{numbered_line}

-- what the first two lines say: whether ships may stay and whether fleets have hours, how many ships there are, and how many slots
-- in which they sail
pub record SaysSize (parts : List (List ℕ)) (version : Bool × Bool) (ships slots : ℕ) : Type 0 where
  pub header : (numbered_line parts 1 and_then header_form) ≡ Some version
  pub size : (numbered_line parts 2 and_then size_form) ≡ Some (ships, slots)

-- the first line is none of the four headers
pub record WantsHeader (parts : List (List ℕ)) (number : ℕ) : Type 0 where
  pub place : number ≡ 1
  pub wrong : (numbered_line parts number and_then header_form) ≡ None

-- the second line gives no size
pub record WantsSize (parts : List (List ℕ)) (number : ℕ) : Type 0 where
  pub place : number ≡ 2
  pub wrong : (numbered_line parts number and_then size_form) ≡ None

-- one of the lines after it, as many as there are ships, doesn't give the values of a ship
pub record WantsValues (parts : List (List ℕ)) (number : ℕ) : Type 0 where
  pub version : Bool × Bool
  pub ships : ℕ
  pub slots : ℕ
  pub said : SaysSize parts version ships slots
  pub past_size : 3 ≤ number
  pub before_rules : number < 3 + ships
  pub wrong : (numbered_line parts number and_then row_form version.0 slots) ≡ None

-- the line of this number, by the form of rules
abbrev pub rule_on_line : List (List ℕ) → Bool × Bool → ℕ → ℕ → ℕ → Option Rule
rule_on_line parts version ships slots number = numbered_line parts number and_then rule_form version.1 ships slots

-- the line is neither a rule nor `end`
pub record NeitherRuleNorEnd (parts : List (List ℕ)) (version : Bool × Bool) (ships slots number : ℕ) : Type 0 where
  pub no_end : numbered_line parts number ≢ Some (codes "end")
  pub wrong : rule_on_line parts version ships slots number ≡ None

-- the line is `end`, and no rule before it needs the hours that fleets have
pub record EndsWithoutHours (parts : List (List ℕ)) (version : Bool × Bool) (ships slots number : ℕ) : Type 0 where
  pub hours : version.1 ≡ true
  pub end : numbered_line parts number ≡ Some (codes "end")
  pub plain : (line : ℕ) → 3 + ships ≤ line → line < number → IfSome (rule_on_line parts version ships slots line) (λ rule. has_hours rule ≡ false)

-- a line after the ships' lines that is neither a rule nor an `end` that may stand there
pub record WantsRule (parts : List (List ℕ)) (number : ℕ) : Type 0 where
  pub version : Bool × Bool
  pub ships : ℕ
  pub slots : ℕ
  pub said : SaysSize parts version ships slots
  pub past_ships : 3 + ships ≤ number
  pub few_rules : number ≤ 3 + ships + MOST_RULES
  pub no_end_before : numbered_line parts (number - 1) ≢ Some (codes "end")
  pub wrong : NeitherRuleNorEnd parts version ships slots number ⊎ EndsWithoutHours parts version ships slots number

-- one rule more than the greatest number of rules
pub record WantsEnd (parts : List (List ℕ)) (number : ℕ) : Type 0 where
  pub version : Bool × Bool
  pub ships : ℕ
  pub slots : ℕ
  pub said : SaysSize parts version ships slots
  pub past_rules : number ≡ 3 + ships + MOST_RULES
  pub no_end_before : numbered_line parts (number - 1) ≢ Some (codes "end")
  pub rule : Rule
  pub one_more : rule_on_line parts version ships slots number ≡ Some rule

-- the line before is `end`, and something follows it
pub record WantsNoMore (parts : List (List ℕ)) (number : ℕ) : Type 0 where
  pub version : Bool × Bool
  pub ships : ℕ
  pub slots : ℕ
  pub said : SaysSize parts version ships slots
  pub past_ships : 3 + ships < number
  pub few_rules : number ≤ 4 + ships + MOST_RULES
  pub end : numbered_line parts (number - 1) ≡ Some (codes "end")
  pub more : drop (number - 1) parts ≢ [] ∷ []

-- what the word names is wanted at the line, and doesn't stand there
abbrev pub IsWanted : List (List ℕ) → ℕ → FlatWord → Type 0
IsWanted parts number words.Header = WantsHeader parts number
IsWanted parts number words.Size = WantsSize parts number
IsWanted parts number words.Values = WantsValues parts number
IsWanted parts number words.Rule = WantsRule parts number
IsWanted parts number words.Many = WantsEnd parts number
IsWanted parts number words.Tail = WantsNoMore parts number

-- the lines before have the greatest number of rules, none of which needs the hours that fleets have, so that no text begins so
pub record OutOfRules (parts : List (List ℕ)) (number : ℕ) : Type 0 where
  pub version : Bool × Bool
  pub ships : ℕ
  pub slots : ℕ
  pub said : SaysSize parts version ships slots
  pub hours : version.1 ≡ true
  pub past_rules : number ≡ 3 + ships + MOST_RULES
  pub plain : (line : ℕ) → 3 + ships ≤ line → line < number → IsSomeAnd (rule_on_line parts version ships slots line) (λ rule. has_hours rule ≡ false)
