-- The text of numbers reads back as these numbers.
use Rattle.std.proofs.Common.{◌≡◌, ◌≤◌, ◌<◌, ◌-◌, ◌^◌, nat_lt, cond, ℕ, Bool, true, List, [], ◌∷◌, length, map, decimal, Option, Some, None, refl, ap, ◌∙◌, arith}
use Rattle.std.proofs.lemmas.Bool.{and_parts, lt-ltb}
use Rattle.std.specs.Prelude.{option_and_then}
use Rattle.std.specs.List.{list_all}
use Rattle.hw_text.proofs.Spelled.{reads_back}
use Rattle.hw_text.specs.Parts.{put_first}
use Rattle.hw_cert.specs.Spelled.{number_word, all_numbers, some_of, some_numbers}
use Rattle.hw_cert.specs.Laws.{is_small}
use Rattle.hw_cert.proofs.WordBytes.{small_is}

pub number_again : (n : ℕ) → is_small n ≡ true → number_word (decimal n) ≡ Some n
number_again n s = let le : n ≤ 2 ^ 32 - 1 = small_is n s in reads_back (2 ^ 32 - 1) n (omega arith) le

pub numbers_again : (ns : List ℕ) → list_all is_small ns ≡ true → all_numbers (map decimal ns) ≡ Some ns
numbers_again [] h = refl
numbers_again (n ∷ ns) h =
    let p = and_parts (is_small n) (list_all is_small ns) h in
    ap (λ (o : Option ℕ). put_first o (all_numbers (map decimal ns))) (number_again n p.0) ∙ ap (put_first (Some n)) (numbers_again ns p.1)

pub some_again : (ns : List ℕ) → 0 < length ns → list_all is_small ns ≡ true → some_numbers (map decimal ns) ≡ Some ns
some_again ns lt h =
    let some : nat_lt 0 (length ns) ≡ true = lt-ltb 0 (length ns) lt in
    ap (option_and_then some_of) (numbers_again ns h) ∙ ap (λ (b : Bool). cond b (Some ns) None) some

-- a list that isn't empty
pub some_list : {A : Type 0} (xs : List A) → 0 < length xs → some_of xs ≡ Some xs
some_list xs lt = let some : nat_lt 0 (length xs) ≡ true = lt-ltb 0 (length xs) lt in ap (λ (b : Bool). cond b (Some xs) None) some
