-- The levels of a figure, read back from its text.
use Rattle.std.proofs.Common.{◌≡◌, ◌≤◌, ◌<◌, ◌+◌, ◌^◌, ◌++◌, ◌∙◌, ℕ, zero, suc, true, false, List, [], ◌∷◌, decimal, drop, get_or, refl, ap, sym, subst, arith, append_assoc, inl, inr}
use Rattle.std.specs.List.{list_all}
use Rattle.std.proofs.lemmas.Bool.{both_ways, and_parts, cases_eq}
use Rattle.std.proofs.lemmas.List.{append_cancel_left}
use Rattle.std.proofs.lemmas.Fmt.{decimal_injective}
use Rattle.hw_chart_svg.specs.Figures.{move, moves}
use Rattle.hw_chart_svg.proofs.Digits.{is_digit, digits_of}

-- digits end where a letter begins
pub parted : (a b : List ℕ) (x : ℕ) (r s : List ℕ) → is_digit x ≡ false → list_all is_digit a ≡ true → list_all is_digit b ≡ true → a ++ x ∷ r ≡ b ++ x ∷ s → (a ≡ b) × (r ≡ s)
parted [] [] x r s none p q e = (refl, ap (drop 1) e)
parted [] (d ∷ b) x r s none p q e = absurd (both_ways (is_digit x) none (ap is_digit (ap (λ (l : List ℕ). get_or l 0 0) e) ∙ (and_parts _ _ q).0))
parted (c ∷ a) [] x r s none p q e = absurd (both_ways (is_digit x) none (ap is_digit (sym (ap (λ (l : List ℕ). get_or l 0 0) e)) ∙ (and_parts _ _ p).0))
parted (c ∷ a) (d ∷ b) x r s none p q e =
    let same : c ≡ d = ap (λ (l : List ℕ). get_or l 0 0) e in
    let rest = parted a b x r s none (and_parts _ _ p).1 (and_parts _ _ q).1 (ap (drop 1) e) in
    (rw (same, rest.0) refl, rest.1)

spread : (level : ℕ → ℕ) (slot n : ℕ) (tail : List ℕ) → moves level slot (suc n) ++ tail ≡ 86 ∷ (decimal (level slot) ++ 72 ∷ ((decimal (slot + 1) ++ []) ++ (moves level (slot + 1) n ++ tail)))
spread level slot n tail =
    append_assoc (move slot (level slot)) (moves level (slot + 1) n) tail
    ∙ ap (λ (l : List ℕ). 86 ∷ l) (append_assoc (decimal (level slot)) (72 ∷ (decimal (slot + 1) ++ [])) (moves level (slot + 1) n ++ tail))

pub moves_back : (level other : ℕ → ℕ) (slot count : ℕ) (tail : List ℕ) → ((k : ℕ) → level k < 2 ^ 64) → ((k : ℕ) → other k < 2 ^ 64) → moves level slot count ++ tail ≡ moves other slot count ++ tail → (k : ℕ) → slot ≤ k → k < slot + count → level k ≡ other k
moves_back level other slot zero tail f g e k low high = absurd (omega (arith, low, high))
moves_back level other slot (suc n) tail f g e k low high =
    let both = ap (drop 1) (sym (spread level slot n tail) ∙ e ∙ spread other slot n tail) in
    let here = parted (decimal (level slot)) (decimal (other slot)) 72 _ _ refl (digits_of _ (f slot)) (digits_of _ (g slot)) both in
    let later = append_cancel_left (decimal (slot + 1) ++ []) _ _ here.1 in
    elim (cases_eq slot k) [
      | inl same ↦ subst (λ (j : ℕ). level j ≡ other j) same (decimal_injective _ _ (f slot) (g slot) here.0)
      | inr not_here ↦ moves_back level other (slot + 1) n tail f g later k (omega (arith, low, not_here)) (omega (arith, high))
    ]
