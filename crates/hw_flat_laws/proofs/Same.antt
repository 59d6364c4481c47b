-- Lists of parts that begin with the same lines.
use Rattle.std.proofs.Common.{◌≡◌, ℕ, zero, suc, ◌+◌, ◌<◌, ◌≤◌, List, [], ◌∷◌, ◌++◌, Option, length, take, drop, refl, sym, ap, ◌∙◌, arith}
use Rattle.std.proofs.Math.Path.{ap₂}
use Rattle.hw_flat.specs.TextForms.{◌and_then◌}
use Rattle.hw_flat_laws.specs.FirstLines.{later_line}

abbrev pub Parts : Type 0
Parts = List (List ℕ)

-- what a line that may not be there has by a form
abbrev pub has : {A : Type 0} → (List ℕ → Option A) → Option (List ℕ) → Option A
has form line = line and_then form

-- a list of parts that is not empty
abbrev pub Full : Parts → Type 0
Full parts = (x : List ℕ) × (more : Parts) × (parts ≡ x ∷ more)

-- the first `count` lines are the same, and both texts go on
abbrev pub Same : ℕ → Parts → Parts → Type 0
Same count [] others = ⊥
Same count (x ∷ xs) [] = ⊥
Same zero (x ∷ xs) (y ∷ ys) = Unit {0}
Same (suc count) (x ∷ xs) (y ∷ ys) = (y ≡ x) × Same count xs ys

pub same_from : (count : ℕ) (xs ys : Parts) → count < length xs → count < length ys → take count ys ≡ take count xs → Same count xs ys
same_from count [] ys p q e = absurd (omega (arith, p))
same_from count (x ∷ xs) [] p q e = absurd (omega (arith, q))
same_from zero (x ∷ xs) (y ∷ ys) p q e = tt
same_from (suc count) (x ∷ xs) (y ∷ ys) p q e =
    let first : y ≡ x = cc in
    let others : take count ys ≡ take count xs = cc in
    (first, same_from count xs ys (omega (arith, p)) (omega (arith, q)) others)

pub same_takes : (count : ℕ) (xs ys : Parts) → Same count xs ys → (count < length xs) × (count < length ys) × (take count ys ≡ take count xs)
same_takes count [] ys s = absurd s
same_takes count (x ∷ xs) [] s = absurd s
same_takes zero (x ∷ xs) (y ∷ ys) s = (omega arith, omega arith, refl)
same_takes (suc count) (x ∷ xs) (y ∷ ys) s = let r = same_takes count xs ys s.1 in (omega (arith, r.0), omega (arith, r.1), ap₂ ◌∷◌ s.0 r.2)

pub full_same : (count : ℕ) (xs ys : Parts) → Same count xs ys → Full ys
full_same count [] ys s = absurd s
full_same count (x ∷ xs) [] s = absurd s
full_same count (x ∷ xs) (y ∷ ys) s = (y, ys, refl)

pub full_is : (xs ys : Parts) → xs ≡ ys → Full xs → Full ys
full_is xs ys e full = (full.0, full.1, sym e ∙ full.2)

pub full_some : (xs : Parts) → Full xs → 1 ≤ length xs
full_some xs full = omega (arith, ap length full.2)

pub full_after : (xs parts : Parts) → Full parts → Full (xs ++ parts)
full_after [] parts full = full
full_after (x ∷ xs) parts full = (x, xs ++ parts, refl)

pub after_next : (count : ℕ) (line : List ℕ) (parts : Parts) → Full parts → later_line (suc count) (line ∷ parts) ≡ later_line count parts
after_next count line parts full = rw full.2 refl

pub after_front : (count : ℕ) (front parts : Parts) → Full parts → later_line (length front + count) (front ++ parts) ≡ later_line count parts
after_front count [] parts full = let n : 0 + count ≡ count = omega arith in ap (λ i. later_line i parts) n
after_front count (x ∷ front) parts full =
    let n : suc (length front) + count ≡ suc (length front + count) = omega arith in
    ap (λ i. later_line i (x ∷ front ++ parts)) n ∙ after_next (length front + count) x (front ++ parts) (full_after front parts full) ∙ after_front count front parts full

pub drop_front : (count : ℕ) (front parts : Parts) → count ≡ length front → drop count (front ++ parts) ≡ parts
drop_front zero [] parts e = refl
drop_front zero (x ∷ front) parts e = absurd (omega (arith, e))
drop_front (suc count) [] parts e = absurd (omega (arith, e))
drop_front (suc count) (x ∷ front) parts e = drop_front count front parts (omega (arith, e))
