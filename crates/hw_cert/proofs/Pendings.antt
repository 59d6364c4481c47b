-- Pending bytes: the first line feed, and what a scan leaves.
use Rattle.std.proofs.Common.{◌≡◌, ◌==◌, ◌≤◌, ◌+◌, ◌-◌, ℕ, suc, true, false, not, ◌&&◌, cond, List, [], ◌∷◌, ◌++◌, length, take, drop, position, Some, None, refl, sym, ap, ◌∙◌, arith, add-one}
use Rattle.std.proofs.lemmas.Grind.{common_steps}
use Rattle.std.proofs.lemmas.Bool.{eqb-true}
use Rattle.std.proofs.lemmas.List.{drop-take, drop-drop}
use Rattle.std.proofs.lemmas.Iterator.Adapters.{position_from-zero}
use Rattle.std.specs.List.{position_from}
use Rattle.hw_lemmas.proofs.Truths.{same_some}
use Rattle.hw_text.specs.Parts.{lacks}
use Rattle.hw_cert.specs.Reader.{Scans}

none_found : (k : ℕ) (xs : List ℕ) → position_from (λ b. b == 10) k xs ≡ None → lacks 10 xs ≡ true
none_found k [] e = refl
none_found k (x ∷ xs) e =
    elim (x == 10) as (λ b. cond b (Some k) (position_from (λ b. b == 10) (k + 1) xs) ≡ None → (not b && lacks 10 xs) ≡ true) [
      | true ↦ λ h. absurd cc
      | false ↦ λ h. none_found (k + 1) xs h
    ] e

-- the bytes before a place, the line feed there, and those after it
abbrev pub Found : List ℕ → ℕ → Type 0
Found xs j = (xs ≡ take j xs ++ 10 ∷ drop (suc j) xs) × (lacks 10 (take j xs) ≡ true)

one_found : (k i : ℕ) (xs : List ℕ) → position_from (λ b. b == 10) k xs ≡ Some i → (j : ℕ) × (i ≡ k + j) × Found xs j
one_found k i [] e = absurd cc
one_found k i (x ∷ xs) e =
    elim (x == 10) as (λ b. (b ≡ true → x ≡ 10) → cond b (Some k) (position_from (λ b. b == 10) (k + 1) xs) ≡ Some i → (b ≡ false → not (x == 10) ≡ true) → (j : ℕ) × (i ≡ k + j) × Found (x ∷ xs) j) [
      | true ↦ λ is h no. (0, omega (arith, same_some k i h), (ap (λ y. y ∷ xs) (is refl), refl))
      | false ↦ λ is h no.
          let r = one_found (k + 1) i xs h in
          let kept : (not (x == 10) && lacks 10 (take r.0 xs)) ≡ true = rw (no refl) r.2.1 in
          (suc r.0, omega (arith, r.1), (ap (λ ys. x ∷ ys) r.2.0, kept))
    ] (λ h. eqb-true x 10 h) e (λ h. rw h refl)

-- without a line feed all is taken
pub scanned_all : (bytes old new : List ℕ) → position (λ b. b == 10) bytes ≡ None → new ≡ old ++ bytes → Scans bytes [] old new false
scanned_all bytes old new e h = (none_found 0 bytes (sym (position_from-zero (λ b. b == 10) bytes) ∙ e), h, refl)

-- up to the first one the bytes before it are
pub scanned_to : (bytes old new : List ℕ) (place : ℕ) → position (λ b. b == 10) bytes ≡ Some place → new ≡ old ++ take place bytes → Scans bytes (drop (place + 1) bytes) old new true
scanned_to bytes old new place e h =
    let r = one_found 0 place bytes (sym (position_from-zero (λ b. b == 10) bytes) ∙ e) in
    let same : place ≡ r.0 = omega (arith, r.1) in
    rw (add-one, same) (take r.0 bytes, r.2.0, r.2.1, (rw same at h))

-- what is left after the used bytes
pub rest_used : (block : List ℕ) (at used end : ℕ) → at + used ≤ end → drop used (take (end - at) (drop at block)) ≡ take (end - (at + used)) (drop (at + used) block)
rest_used block at used end le =
    let e : end - at ≡ used + (end - (at + used)) = omega arith in
    rw e (drop-take used (end - (at + used)) (drop at block) ∙ ap (take (end - (at + used))) (drop-drop used at block))

-- a scan of the pending part of a block
pub scanned_part : (self block read old new : List ℕ) (at used end : ℕ) → take (end - at) (drop at block) ≡ self → read ≡ block → at ≤ end → used ≤ length (take (end - at) (drop at read))
    → Scans (take (end - at) (drop at read)) (drop used (take (end - at) (drop at read))) old new true
    → Scans self (take (end - (at + used)) (drop (at + used) block)) old new true
scanned_part self block read old new at used end view same le few s =
    let e : take (end - at) (drop at read) ≡ self = ap (λ (bs : List ℕ). take (end - at) (drop at bs)) same ∙ view in
    let short : length (take (end - at) (drop at read)) ≤ end - at = grind (arith, common_steps) in
    let rest : drop used (take (end - at) (drop at read)) ≡ take (end - (at + used)) (drop (at + used) block) = rest_used read at used end (omega arith) ∙ ap (λ (bs : List ℕ). take (end - (at + used)) (drop (at + used) bs)) same in
    (s.0, sym e ∙ s.1 ∙ ap (λ (bs : List ℕ). s.0 ++ 10 ∷ bs) rest, s.2, s.3)
