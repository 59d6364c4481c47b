-- At a line one word is wanted.
use Rattle.std.proofs.Common.{◌≡◌, ℕ, Bool, inl, inr, Some, None, refl, sym, ap, ◌∙◌, arith}
use Rattle.hw_flat.specs.declared.fault.FlatWord.{FlatWord}
use Rattle.hw_flat.specs.declared.fault.FlatWord.TheVariants as words
use Rattle.hw_flat.specs.TextForms.{rule_form}
use Rattle.hw_flat_laws.specs.Wanted.{SaysSize, rule_on_line, WantsValues, WantsRule, WantsEnd, WantsNoMore, IsWanted}
use Rattle.hw_flat_laws.proofs.Same.{Parts, has}
use Rattle.hw_flat_laws.proofs.Closings.{end_no_rule}

same_ships : (parts : Parts) (s t : Bool × Bool) (ships others slots more : ℕ) → SaysSize parts s ships slots → SaysSize parts t others more → ships ≡ others
same_ships parts s t ships others slots more b c = let e : (ships, slots) ≡ (others, more) = cc in ap (λ (p : ℕ × ℕ). p.0) e

values_rule : (parts : Parts) (number : ℕ) → WantsValues parts number → WantsRule parts number → ⊥
values_rule parts number a b = let same = same_ships parts a.version b.version a.ships b.ships a.slots b.slots a.said b.said in omega (arith, same, a.before_rules, b.past_ships)

values_end : (parts : Parts) (number : ℕ) → WantsValues parts number → WantsEnd parts number → ⊥
values_end parts number a b = let same = same_ships parts a.version b.version a.ships b.ships a.slots b.slots a.said b.said in omega (arith, same, a.before_rules, b.past_rules)

values_more : (parts : Parts) (number : ℕ) → WantsValues parts number → WantsNoMore parts number → ⊥
values_more parts number a b = let same = same_ships parts a.version b.version a.ships b.ships a.slots b.slots a.said b.said in omega (arith, same, a.before_rules, b.past_ships)

-- the first two lines say one thing
pub same_said : (parts : Parts) (s t : Bool × Bool) (ships others slots more : ℕ) → SaysSize parts s ships slots → SaysSize parts t others more → (s ≡ t) × (ships ≡ others) × (slots ≡ more)
same_said parts s t ships others slots more b c =
    let said : Some s ≡ Some t = sym b.header ∙ c.header in
    let v : s ≡ t = inner s t said in
    let e : (ships, slots) ≡ (others, more) = cc in
    (v, ap (λ (p : ℕ × ℕ). p.0) e, ap (λ (p : ℕ × ℕ). p.1) e)
  where
    inner : (v w : Bool × Bool) → Some v ≡ Some w → v ≡ w
    inner v w k = cc

rule_end : (parts : Parts) (number : ℕ) → WantsRule parts number → WantsEnd parts number → ⊥
rule_end parts number a b =
    let same = same_said parts a.version b.version a.ships b.ships a.slots b.slots a.said b.said in
    let none : rule_on_line parts a.version a.ships a.slots number ≡ None = elim a.wrong [
      | inl n ↦ n.wrong
      | inr n ↦ ap (has (rule_form a.version.1 a.ships a.slots)) n.end ∙ end_no_rule a.version.1 a.ships a.slots
    ] in
    let both : None ≡ Some b.rule = sym none ∙ (rw (same.0, same.1, same.2) refl) ∙ b.one_more in
    cc

pub one_word : (parts : Parts) (number : ℕ) (word other : FlatWord) → IsWanted parts number word → IsWanted parts number other → word ≡ other
one_word parts number words.Header words.Header a b = refl
one_word parts number words.Header words.Size a b = absurd (omega (arith, a.place, b.place))
one_word parts number words.Header words.Values a b = absurd (omega (arith, a.place, b.past_size))
one_word parts number words.Header words.Rule a b = absurd (omega (arith, a.place, b.past_ships))
one_word parts number words.Header words.Many a b = absurd (omega (arith, a.place, b.past_rules))
one_word parts number words.Header words.Tail a b = absurd (omega (arith, a.place, b.past_ships))
one_word parts number words.Size words.Header a b = absurd (omega (arith, b.place, a.place))
one_word parts number words.Size words.Size a b = refl
one_word parts number words.Size words.Values a b = absurd (omega (arith, a.place, b.past_size))
one_word parts number words.Size words.Rule a b = absurd (omega (arith, a.place, b.past_ships))
one_word parts number words.Size words.Many a b = absurd (omega (arith, a.place, b.past_rules))
one_word parts number words.Size words.Tail a b = absurd (omega (arith, a.place, b.past_ships))
one_word parts number words.Values words.Header a b = absurd (omega (arith, b.place, a.past_size))
one_word parts number words.Values words.Size a b = absurd (omega (arith, b.place, a.past_size))
one_word parts number words.Values words.Values a b = refl
one_word parts number words.Values words.Rule a b = absurd (values_rule parts number a b)
one_word parts number words.Values words.Many a b = absurd (values_end parts number a b)
one_word parts number words.Values words.Tail a b = absurd (values_more parts number a b)
one_word parts number words.Rule words.Header a b = absurd (omega (arith, b.place, a.past_ships))
one_word parts number words.Rule words.Size a b = absurd (omega (arith, b.place, a.past_ships))
one_word parts number words.Rule words.Values a b = absurd (values_rule parts number b a)
one_word parts number words.Rule words.Rule a b = refl
one_word parts number words.Rule words.Many a b = absurd (rule_end parts number a b)
one_word parts number words.Rule words.Tail a b = absurd (a.no_end_before b.end)
one_word parts number words.Many words.Header a b = absurd (omega (arith, b.place, a.past_rules))
one_word parts number words.Many words.Size a b = absurd (omega (arith, b.place, a.past_rules))
one_word parts number words.Many words.Values a b = absurd (values_end parts number b a)
one_word parts number words.Many words.Rule a b = absurd (rule_end parts number b a)
one_word parts number words.Many words.Many a b = refl
one_word parts number words.Many words.Tail a b = absurd (a.no_end_before b.end)
one_word parts number words.Tail words.Header a b = absurd (omega (arith, b.place, a.past_ships))
one_word parts number words.Tail words.Size a b = absurd (omega (arith, b.place, a.past_ships))
one_word parts number words.Tail words.Values a b = absurd (values_more parts number b a)
one_word parts number words.Tail words.Rule a b = absurd (b.no_end_before a.end)
one_word parts number words.Tail words.Many a b = absurd (b.no_end_before a.end)
one_word parts number words.Tail words.Tail a b = refl
