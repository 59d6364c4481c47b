-- The letters of an order, read one after the other as a loop does, and the places in which their rules are kept.
use Rattle.std.proofs.Common.{◌≡◌, ℕ, ◌+◌, ◌-◌, ◌==◌, ◌<◌, ◌≤◌, false, List, [], ◌∷◌, ◌++◌, Option, Some, None, length, take, drop, set, get_or, replicate, refl, sym, ap, ◌∙◌, append_assoc, add-one, drop-cons, arith}
use Rattle.std.proofs.lemmas.List.{drop-replicate, drop-set-lt, take_more_set}
use Rattle.hw_flat.specs.TextForms.{with_front}
use Rattle.hw_text.specs.Parts.{put_first}
use Rattle.hw_search_laws.specs.declared.outcome.Branching.{Branching}
use Rattle.hw_search_laws.specs.declared.outcome.Branching.TheVariants.{Greatest}
use Rattle.hw_command_search.specs.Orders.{rule_of_letter, rules_read}

-- ---- letters

regroup : (front : List Branching) (rule : Branching) (o : Option (List Branching)) → with_front front (put_first (Some rule) o) ≡ with_front (front ++ rule ∷ []) o
regroup front rule None = refl
regroup front rule (Some rules) = ap Some (sym (append_assoc front (rule ∷ []) rules))

-- a word that isn't empty has a letter
pub some_letter : (letters : List ℕ) → (length letters == 0) ≡ false → 1 ≤ length letters
some_letter letters e = grind arith

-- one more letter has a rule
pub letter_read : (rules : List Branching) (letters : List ℕ) (i : ℕ) (rule : Branching) (total : Option (List Branching)) → i < length letters → i < length rules → rule_of_letter (get_or letters i 0) ≡ Some rule
    → with_front (take i rules) (rules_read (drop i letters)) ≡ total → with_front (take (i + 1) (set rules i rule)) (rules_read (drop (i + 1) letters)) ≡ total
letter_read rules letters i rule total inside room is so_far =
    let cut : drop i letters ≡ get_or letters i 0 ∷ drop (i + 1) letters = rw (add-one, drop-cons letters i 0) refl in
    let one : with_front (take i rules) (rules_read (drop i letters)) ≡ with_front (take i rules ++ rule ∷ []) (rules_read (drop (i + 1) letters)) = rw (cut, is) (regroup (take i rules) rule (rules_read (drop (i + 1) letters))) in
    rw (take_more_set rules i rule room) (sym one ∙ so_far)

-- ---- places

-- after one more rule there is one place less
pub one_place_less : (rules : List Branching) (i : ℕ) (rule : Branching) → i < length rules → drop i rules ≡ replicate (64 - i) Greatest → drop (i + 1) (set rules i rule) ≡ replicate (64 - (i + 1)) Greatest
one_place_less rules i rule inside rest =
    let kept : drop (i + 1) (set rules i rule) ≡ drop (i + 1) rules = drop-set-lt (i + 1) rules i rule (omega arith) in
    let remainder : drop 1 (drop i rules) ≡ drop (i + 1) rules = rw (drop-cons rules i rule, add-one) refl in
    let less : (64 - i) - 1 ≡ 64 - (i + 1) = omega arith in
    kept ∙ sym remainder ∙ ap (drop 1) rest ∙ drop-replicate 1 (64 - i) Greatest ∙ ap (λ n. replicate n Greatest) less
