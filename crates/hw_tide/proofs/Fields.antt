-- The fields from a place on.
use Rattle.std.proofs.Common.{◌≡◌, ℕ, zero, suc, ◌+◌, ◌++◌, List, [], ◌∷◌, drop, Option, Some, None, Result, Ok, Err, refl, sym, Bor, MatchOption, option_map, add-one, length, ◌<◌, arith}
use Rattle.std.proofs.lemmas.List.{length-drop}
use Rattle.csv.specs.Records.{field_at}
use Rattle.hw_tide.specs.declared.fault.TideFault.{TideFault}
use Rattle.std.proofs.Common.{ℤ, append_assoc, ap, ◌∙◌}
use Rattle.hw_lemmas.specs.Operators.{◌>>=◌}
use Rattle.hw_text.specs.Numbers.{signed_up_to}
use Rattle.hw_tide.specs.declared.fault.TideFault.TheVariants.{Field}
use Rattle.hw_tide.specs.Table.{formed_field, heights_from}

abbrev pub with_front : {A : Type 0} → List A → Result (List A) TideFault → Result (List A) TideFault
with_front front read = read >>= λ xs. Ok (front ++ xs)

pub drop_field : (xs : List (List ℕ)) (i : ℕ) (f : List ℕ) → field_at xs i ≡ Some f → drop i xs ≡ f ∷ drop (suc i) xs
unfolding field_at
drop_field [] i f h = absurd cc
drop_field (x ∷ xs) zero f h = cc
drop_field (x ∷ xs) (suc i) f h = drop_field xs i f h

drop-nil : (i : ℕ) → drop {A = List ℕ} i [] ≡ []
drop-nil zero = refl
drop-nil (suc i) = refl

no_field : (xs : List (List ℕ)) (i : ℕ) → field_at xs i ≡ None → drop i xs ≡ []
unfolding field_at
no_field [] i h = drop-nil i
no_field (x ∷ xs) zero h = absurd cc
no_field (x ∷ xs) (suc i) h = no_field xs i h

pub field_or_end : (xs : List (List ℕ)) (i : ℕ) (o : Option (Bor (List ℕ))) → option_map (λ f. f.now) o ≡ field_at xs i → MatchOption o (drop i xs ≡ []) (λ f. drop i xs ≡ f.now ∷ drop (i + 1) xs)
field_or_end xs i None h = no_field xs i (sym h)
field_or_end xs i (Some f) h = rw add-one (drop_field xs i f.now (sym h))

pub one_more : {A : Type 0} (front : List A) (h : A) (read : Result (List A) TideFault) → with_front (front ++ h ∷ []) read ≡ with_front front (read >>= λ hs. Ok (h ∷ hs))
one_more front h (Ok hs) = ap (λ xs. Ok xs) (append_assoc front (h ∷ []) hs)
one_more front h (Err e) = refl

-- one more height of a record
pub next_height : (row column : ℕ) (front : List ℤ) (f : List ℕ) (fs rest : List (List ℕ)) (h : ℤ) (whole : Result (List ℤ) TideFault) → fs ≡ f ∷ rest → signed_up_to 2_000 f ≡ Some h → with_front front (heights_from row column fs) ≡ whole → with_front (front ++ h ∷ []) (heights_from row (column + 1) rest) ≡ whole
unfolding heights_from
next_height row column front f fs rest h whole at is so_far =
    let first : heights_from row column fs ≡ heights_from row column (f ∷ rest) = ap (heights_from row column) at in
    let second : heights_from row column (f ∷ rest) ≡ (heights_from row (column + 1) rest >>= λ hs. Ok (h ∷ hs)) = ap (λ (o : Option ℤ). formed_field (Field row column) o >>= λ h. heights_from row (column + 1) rest >>= λ hs. Ok (h ∷ hs)) is in
    one_more front h (heights_from row (column + 1) rest) ∙ ap (with_front front) (sym (first ∙ second)) ∙ so_far

-- a place of a record has a field
pub left_over : (xs : List (List ℕ)) (i : ℕ) → i < length xs → drop i xs ≡ [] → ⊥
left_over xs i lt e =
    let none : length (drop i xs) ≡ 0 = ap length e in
    let size = length-drop i xs in
    omega (arith, lt, none, size)
