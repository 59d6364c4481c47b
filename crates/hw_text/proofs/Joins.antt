-- Parts and the text in which they are joined.
use Rattle.std.proofs.Common.{◌≡◌, ℕ, ◌≤◌, ◌==◌, true, false, cond, List, [], ◌∷◌, ◌++◌, length, refl, sym, ap, ◌∙◌, arith}
use Rattle.std.proofs.lemmas.Bool.{and_parts}
use Rattle.std.proofs.lemmas.Bool.Decides.{nat_tests}
use Rattle.std.proofs.lemmas.List.Splits.{join_with_byte-slice_split}
use Rattle.std.specs.List.{onto_first, list_all, join_with_byte}
use Rattle.hw_lemmas.proofs.Truths.{was_not}
use Rattle.hw_text.specs.Parts.{parts_of, lacks, ended_lines}

same_test : (c : ℕ) → (c == c) ≡ true
same_test c = grind (arith, nat_tests)

-- a text that lacks the byte is one part
pub one_part : (c : ℕ) (xs : List ℕ) → lacks c xs ≡ true → parts_of c xs ≡ xs ∷ []
one_part c [] h = refl
one_part c (x ∷ xs) h =
    let a = and_parts _ _ h in
    let off : (x == c) ≡ false = was_not _ a.0 in
    rw (off, one_part c xs a.1) refl

-- the first part ends at the first place of the byte
pub part_before : (c : ℕ) (xs ys : List ℕ) → lacks c xs ≡ true → parts_of c (xs ++ c ∷ ys) ≡ xs ∷ parts_of c ys
part_before c [] ys h = rw (same_test c) refl
part_before c (x ∷ xs) ys h =
    let a = and_parts _ _ h in
    let off : (x == c) ≡ false = was_not _ a.0 in
    rw (off, part_before c xs ys a.1) refl

-- joined parts are cut again into the same parts
pub cut_joined : (c : ℕ) (parts : List (List ℕ)) → 1 ≤ length parts → list_all (lacks c) parts ≡ true → parts_of c (join_with_byte c parts) ≡ parts
cut_joined c [] some h = absurd (omega (arith, some))
cut_joined c (x ∷ []) some h = one_part c x (and_parts _ _ h).0
cut_joined c (x ∷ y ∷ parts) some h =
    let a = and_parts _ _ h in
    part_before c x (join_with_byte c (y ∷ parts)) a.0 ∙ ap (λ ps. x ∷ ps) (cut_joined c (y ∷ parts) (omega arith) a.1)

onto_lacking : (c x : ℕ) (parts : List (List ℕ)) → (x == c) ≡ false → list_all (lacks c) parts ≡ true → list_all (lacks c) (onto_first x parts) ≡ true
onto_lacking c x [] e h = rw e refl
onto_lacking c x (part ∷ parts) e h = rw e h

-- no part has the byte
pub parts_lack : (c : ℕ) (bytes : List ℕ) → list_all (lacks c) (parts_of c bytes) ≡ true
parts_lack c [] = refl
parts_lack c (x ∷ xs) =
    elim (x == c) as (λ b. (x == c) ≡ b → list_all (lacks c) (cond b ([] ∷ parts_of c xs) (onto_first x (parts_of c xs))) ≡ true) [
      | true ↦ λ e. parts_lack c xs
      | false ↦ λ e. onto_lacking c x (parts_of c xs) e (parts_lack c xs)
    ] refl

-- the parts of ended lines are the lines and an empty rest
join_ended : (lines : List (List ℕ)) → join_with_byte 10 (lines ++ [] ∷ []) ≡ ended_lines lines
join_ended [] = refl
join_ended (x ∷ []) = refl
join_ended (x ∷ y ∷ lines) = ap (λ t. x ++ 10 ∷ t) (join_ended (y ∷ lines))

pub is_ended_lines : (lines : List (List ℕ)) (bytes : List ℕ) → parts_of 10 bytes ≡ lines ++ [] ∷ [] → bytes ≡ ended_lines lines
is_ended_lines lines bytes e = sym (join_with_byte-slice_split 10 bytes) ∙ ap (join_with_byte 10) e ∙ join_ended lines

pub cut_ended : (lines : List (List ℕ)) → list_all (lacks 10) lines ≡ true → parts_of 10 (ended_lines lines) ≡ lines ++ [] ∷ []
cut_ended [] h = refl
cut_ended (x ∷ lines) h =
    let a = and_parts _ _ h in
    part_before 10 x (ended_lines lines) a.0 ∙ ap (λ ps. x ∷ ps) (cut_ended lines a.1)
