-- Reading the words of a line one after the other, as a loop does.
use Rattle.std.proofs.Common.{◌≡◌, ℕ, suc, ◌+◌, ◌-◌, ◌<◌, ◌≤◌, Bool, List, [], ◌∷◌, ◌++◌, Option, Some, None, length, refl, sym, ap, ◌∙◌, append_assoc, arith}
use Rattle.std.proofs.lemmas.List.{length_push}
use Rattle.hw_flat.specs.TextForms.{with_front, row_values, value_word, items_of, some_items}
use Rattle.hw_text.specs.Parts.{put_first}

regroup : {A : Type 0} (front : List A) (x : A) (o : Option (List A)) → with_front front (put_first (Some x) o) ≡ with_front (front ++ x ∷ []) o
regroup front x None = refl
regroup front x (Some xs) = ap Some (sym (append_assoc front (x ∷ []) xs))

-- a row has a value for each slot
pub row_ends : (front : List (Option ℕ)) (stay : Bool) (slots slot : ℕ) (total : Option (List (Option ℕ))) → slot < slots → with_front front (row_values stay (slots - slot) []) ≡ total → None ≡ total
row_ends front stay slots slot total lt so_far =
    let k : slots - slot ≡ suc (slots - (slot + 1)) = omega arith in
    let one : with_front front (row_values stay (slots - slot) []) ≡ None = rw k refl in
    sym one ∙ so_far

pub row_fails : (front : List (Option ℕ)) (stay : Bool) (slots slot : ℕ) (word : List ℕ) (words rest : List (List ℕ)) (total : Option (List (Option ℕ))) → slot < slots → words ≡ word ∷ rest → value_word word ≡ None
    → with_front front (row_values stay (slots - slot) words) ≡ total → None ≡ total
row_fails front stay slots slot word words rest total lt cut bad so_far =
    let k : slots - slot ≡ suc (slots - (slot + 1)) = omega arith in
    let one : with_front front (row_values stay (slots - slot) words) ≡ None = rw (k, cut, bad) refl in
    sym one ∙ so_far

pub row_goes_on : (front : List (Option ℕ)) (stay : Bool) (slots slot : ℕ) (word : List ℕ) (value : Option ℕ) (words rest : List (List ℕ)) (total : Option (List (Option ℕ))) → slot < slots → words ≡ word ∷ rest → value_word word ≡ Some value
    → with_front front (row_values stay (slots - slot) words) ≡ total → with_front (front ++ value ∷ []) (row_values stay (slots - (slot + 1)) rest) ≡ total
row_goes_on front stay slots slot word value words rest total lt cut good so_far =
    let k : slots - slot ≡ suc (slots - (slot + 1)) = omega arith in
    let one : with_front front (row_values stay (slots - slot) words) ≡ with_front (front ++ value ∷ []) (row_values stay (slots - (slot + 1)) rest) = rw (k, cut, good) (regroup front value (row_values stay (slots - (slot + 1)) rest)) in
    sym one ∙ so_far

-- the items of a line, at most `most` of them
pub more_fit : {A : Type 0} (front more : List A) (item : A) (most : ℕ) → length front < most → more ≡ front ++ item ∷ [] → length more ≤ most
more_fit front more item most room grown = omega (arith, ap length grown, length_push front item, room)

pub items_fail : {A : Type 0} (form : List ℕ → Option A) (front : List A) (most : ℕ) (words : List (List ℕ)) (word : List ℕ) (rest : List (List ℕ)) (total : Option (List A)) → length front < most → words ≡ word ∷ rest → form word ≡ None
    → with_front front (items_of form (most - length front) words) ≡ total → None ≡ total
items_fail form front most words word rest total lt cut bad so_far =
    let k : most - length front ≡ suc (most - (length front + 1)) = omega arith in
    let one : with_front front (items_of form (most - length front) words) ≡ None = rw (k, cut, bad) refl in
    sym one ∙ so_far

pub items_go_on : {A : Type 0} (form : List ℕ → Option A) (front more : List A) (item : A) (most : ℕ) (words : List (List ℕ)) (word : List ℕ) (rest : List (List ℕ)) (total : Option (List A)) → length front < most → words ≡ word ∷ rest → form word ≡ Some item
    → more ≡ front ++ item ∷ [] → with_front front (items_of form (most - length front) words) ≡ total → with_front more (items_of form (most - length more) rest) ≡ total
items_go_on form front more item most words word rest total lt cut good grown so_far =
    let k : most - length front ≡ suc (most - (length front + 1)) = omega arith in
    let n : length more ≡ length front + 1 = ap length grown ∙ length_push front item in
    let one : with_front front (items_of form (most - length front) words) ≡ with_front (front ++ item ∷ []) (items_of form (most - (length front + 1)) rest) = rw (k, cut, good) (regroup front item (items_of form (most - (length front + 1)) rest)) in
    rw (n, grown) (sym one ∙ so_far)

-- where the items fail there are not some
pub some_fail : {A : Type 0} (form : List ℕ → Option A) (most : ℕ) (words : List (List ℕ)) → None ≡ items_of form most words → None ≡ some_items form most words
some_fail form most [] h = refl
some_fail form most (word ∷ words) h = h
