-- Slots of a text one after the other, as a loop reads them.
use Rattle.std.proofs.Common.{◌≡◌, ℕ, suc, ◌-◌, ◌+◌, ◌<◌, List, [], ◌∷◌, ◌++◌, Option, Some, None, All, refl, sym, ap, ◌∙◌, append_assoc, arith}
use Rattle.std.proofs.lemmas.List.Elements.{All-push}
use Rattle.hw_plan_texts.specs.Slots.{slot_form, slots_form}
use Rattle.hw_text.specs.Parts.{put_first}

-- the items in front and those after them, where there are any
abbrev pub with_front : {A : Type 0} → List A → Option (List A) → Option (List A)
with_front front None = None
with_front front (Some xs) = Some (front ++ xs)

pub regroup : {A : Type 0} (front : List A) (x : A) (more : Option (List A)) → with_front front (put_first (Some x) more) ≡ with_front (front ++ x ∷ []) more
regroup front x None = refl
regroup {A} front x (Some xs) = ap (λ (ys : List A). Some ys) (sym (append_assoc front (x ∷ []) xs))

pub slots_go_on : (front : List ℕ) (slots many i slot : ℕ) (word : List ℕ) (words : List (List ℕ)) (total : Option (List ℕ)) → i < many → slot_form slots word ≡ Some slot
    → with_front front (slots_form slots (many - i) (word ∷ words)) ≡ total → with_front (front ++ slot ∷ []) (slots_form slots (many - (i + 1)) words) ≡ total
slots_go_on front slots many i slot word words total lt e so_far =
    let k : many - i ≡ suc (many - (i + 1)) = omega arith in
    let one : with_front front (slots_form slots (many - i) (word ∷ words)) ≡ with_front (front ++ slot ∷ []) (slots_form slots (many - (i + 1)) words) = rw (k, e) (regroup front slot (slots_form slots (many - (i + 1)) words)) in
    sym one ∙ so_far

pub slots_end : (front : List ℕ) (slots many i : ℕ) (total : Option (List ℕ)) → i < many → with_front front (slots_form slots (many - i) []) ≡ total → None ≡ total
slots_end front slots many i total lt so_far =
    let k : many - i ≡ suc (many - (i + 1)) = omega arith in
    rw k at so_far

pub slots_fail : (front : List ℕ) (slots many i : ℕ) (word : List ℕ) (words : List (List ℕ)) (total : Option (List ℕ)) → i < many → slot_form slots word ≡ None
    → with_front front (slots_form slots (many - i) (word ∷ words)) ≡ total → None ≡ total
slots_fail front slots many i word words total lt e so_far =
    let k : many - i ≡ suc (many - (i + 1)) = omega arith in
    rw (k, e) at so_far

pub below_more : (slots slot : ℕ) (front : List ℕ) → All (λ s. s < slots) front → slot < slots → All (λ s. s < slots) (front ++ slot ∷ [])
below_more slots slot front each lt = All-push (λ s. s < slots) front slot each lt
