-- Finding and taking a word are inverse.
use Rattle.std.proofs.Common.{◌≡◌, ℕ, zero, suc, ◌+◌, true, false, not, cond, List, [], ◌∷◌, Some, None, is_some, refl, ap, ◌∙◌, arith, bytes_eq}
use Rattle.std.specs.List.{slice_get}
use Rattle.std.proofs.lemmas.Bool.{and_parts}
use Rattle.std.proofs.lemmas.Slice.Eq.{bytes_eq-Decides}
use Rattle.hw_lemmas.proofs.Truths.{same_some}
use Rattle.hw_lexicon.specs.Words.{find_from, all_differ}

word_is : (x w : List ℕ) → Some x ≡ Some w → x ≡ w
word_is x w h = cc

pub at_place : (n : ℕ) (ws : List (List ℕ)) (i : ℕ) (w : List ℕ) → find_from n w ws ≡ Some i → (j : ℕ) × (i ≡ n + j) × (slice_get ws j ≡ Some w)
at_place n [] i w h = absurd cc
at_place n (x ∷ ws) i w h =
    elim (bytes_eq x w) as (λ b. (b ≡ true → x ≡ w) → cond b (Some n) (find_from (n + 1) w ws) ≡ Some i → (j : ℕ) × (i ≡ n + j) × (slice_get (x ∷ ws) j ≡ Some w)) [
      | true ↦ λ e k. (0, omega (arith, same_some n i k), ap Some (e refl))
      | false ↦ λ e k. let r = at_place (n + 1) ws i w k in (suc r.0, omega (arith, r.1), r.2)
    ] (bytes_eq-Decides x w).0 h

no_other : (x w : List ℕ) (ws : List (List ℕ)) (i : ℕ) → not (is_some (find_from 0 x ws)) ≡ true → find_from 0 w ws ≡ Some i → x ≡ w → ⊥
no_other x w ws i free later same = let there = rw (same, later) at free in cc

pub finds : (n : ℕ) (ws : List (List ℕ)) (i : ℕ) (w : List ℕ) → all_differ ws ≡ true → slice_get ws i ≡ Some w → find_from n w ws ≡ Some (n + i)
finds n [] i w d h = absurd cc
finds n (x ∷ ws) zero w d h =
    let same = (bytes_eq-Decides x w).1 (word_is x w h) in
    let at : n ≡ n + 0 = omega arith in
    rw same (ap Some at)
finds n (x ∷ ws) (suc i) w d h =
    let p = and_parts (not (is_some (find_from 0 x ws))) (all_differ ws) d in
    let at : (n + 1) + i ≡ n + suc i = omega arith in
    elim (bytes_eq x w) as (λ b. (b ≡ true → x ≡ w) → cond b (Some n) (find_from (n + 1) w ws) ≡ Some (n + suc i)) [
      | true ↦ λ e. absurd (no_other x w ws (0 + i) p.0 (finds 0 ws i w p.1 h) (e refl))
      | false ↦ λ e. finds (n + 1) ws i w p.1 h ∙ ap Some at
    ] (bytes_eq-Decides x w).0

pub absent : (n : ℕ) (ws : List (List ℕ)) (w : List ℕ) → find_from n w ws ≡ None → (i : ℕ) → slice_get ws i ≡ Some w → ⊥
absent n [] w e i h = absurd cc
absent n (x ∷ ws) w e zero h =
    let same = (bytes_eq-Decides x w).1 (word_is x w h) in
    let there = rw same at e in
    absurd cc
absent n (x ∷ ws) w e (suc i) h =
    elim (bytes_eq x w) as (λ b. cond b (Some n) (find_from (n + 1) w ws) ≡ None → ⊥) [
      | true ↦ λ k. absurd cc
      | false ↦ λ k. absent (n + 1) ws w k i h
    ] e
