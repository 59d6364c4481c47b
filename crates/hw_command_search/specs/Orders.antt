-- The order in which searchers take turns, and its word: a letter for each turn.
use Rattle.std.specs.Prelude.{◌≡◌, ◌≤◌, ℕ, ◌-◌, ◌==◌, ◌&&◌, List, [], ◌∷◌, ◌++◌, Option, Some, None, drop, length, nat_le, replicate, take, unwrap_or, if◌then◌else◌}
use Rattle.std.proofs.Common.{◌∙◌, ap, length-take-le, subst, sym, take-append-drop}
use Rattle.hw_text.specs.Parts.{put_first}
use Rattle.hw_search_laws.specs.declared.outcome.Branching.{Branching}
use Rattle.hw_search_laws.specs.declared.outcome.Branching.TheVariants.{Greatest, Earliest, Latest}

-- ---- the word

-- the branching rule of a letter: `g`, `e` or `l`
abbrev pub rule_of_letter : ℕ → Option Branching
rule_of_letter letter = if letter == 103 then Some Greatest else if letter == 101 then Some Earliest else if letter == 108 then Some Latest else None

-- the rules of some letters, each of which has one
abbrev pub rules_read : List ℕ → Option (List Branching)
rules_read [] = Some []
rules_read (letter ∷ letters) = put_first (rule_of_letter letter) (rules_read letters)

-- 1 to 64 letters, each that of a rule
abbrev pub order_read : List ℕ → Option (List Branching)
order_read word = if nat_le 1 (length word) && nat_le (length word) 64 then rules_read word else None

-- the order that a word is, which is Greatest alone where it is none
abbrev pub order_in : List ℕ → List Branching
order_in word = unwrap_or (order_read word) (Greatest ∷ [])

-- ---- how it is kept

-- Greatest in all places that are left
abbrev pub filled_order : List Branching → List Branching
filled_order turns = turns ++ replicate (64 - length turns) Greatest

-- the first 1 to 64 of 64 rules are those of turns, and all later places hold Greatest
pub record IsTurnOrder (rules : List Branching) (count : ℕ) : Type 0 where
  pub some : 1 ≤ count
  pub few : count ≤ 64
  pub whole : length rules ≡ 64
  pub rest : drop count rules ≡ replicate (64 - count) Greatest

-- so an order gives its places back
pub count_back : (rules : List Branching) (count : ℕ) → IsTurnOrder rules count → length (take count rules) ≡ count
count_back rules count h = length-take-le count rules (subst (λ n. count ≤ n) (sym h.whole) h.few)

pub rules_back : (rules : List Branching) (count : ℕ) → IsTurnOrder rules count → filled_order (take count rules) ≡ rules
rules_back rules count h =
    ap (λ n. take count rules ++ replicate (64 - n) Greatest) (count_back rules count h)
    ∙ ap (λ more. take count rules ++ more) (sym h.rest)
    ∙ take-append-drop count rules
