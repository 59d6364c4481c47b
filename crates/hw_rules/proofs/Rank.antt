-- How the rank of a list of slots changes with one slot.
use Rattle.std.proofs.Common.{◌≡◌, ℕ, zero, suc, ◌+◌, ◌-◌, ◌*◌, ◌^◌, ◌<◌, ◌≤◌, List, [], ◌∷◌, length, get_or, set, ap, arith}
use Rattle.std.proofs.lemmas.List.{length-set}
use Rattle.std.proofs.Math.Nat.{pow-succ'}
use Rattle.hw_model.specs.Walk.{rank}

pub rank_set : (s : ℕ) (xs : List ℕ) (i v : ℕ) → i < length xs → rank s (set xs i v) + get_or xs i 0 * s ^ (length xs - (i + 1)) ≡ rank s xs + v * s ^ (length xs - (i + 1))
rank_set s [] i v lt = absurd (omega arith)
rank_set s (x ∷ xs) zero v lt =
    let e : length (x ∷ xs) - (0 + 1) ≡ length xs = omega arith in
    rw e (omega arith)
rank_set s (x ∷ xs) (suc i) v lt =
    let e : length (x ∷ xs) - (suc i + 1) ≡ length xs - (i + 1) = omega arith in
    let h = rank_set s xs i v (omega arith) in
    let n : x * s ^ length (set xs i v) ≡ x * s ^ length xs = ap (λ k. x * s ^ k) (length-set xs i v) in
    rw e (omega (arith, h, n))

-- the step that adds one at a place, where those after it were the last slots
pub one_more : (s : ℕ) (xs : List ℕ) (left total : ℕ) → 0 < left → left ≤ length xs → rank s xs + s ^ (length xs - left) ≡ total → rank s (set xs (left - 1) (get_or xs (left - 1) 0 + 1)) ≡ total
one_more s xs left total some inside so_far =
    let e : length xs - (left - 1 + 1) ≡ length xs - left = omega arith in
    let h = rank_set s xs (left - 1) (get_or xs (left - 1) 0 + 1) (omega arith) in
    let h' = rw e at h in
    omega (arith, h')

-- the step over a place that has the last slot
pub wrapped : (s : ℕ) (xs : List ℕ) (left total : ℕ) → 0 < left → left ≤ length xs → get_or xs (left - 1) 0 + 1 ≡ s → rank s xs + s ^ (length xs - left) ≡ total → rank s (set xs (left - 1) 0) + s ^ (length (set xs (left - 1) 0) - (left - 1)) ≡ total
wrapped s xs left total some inside last so_far =
    let e : length xs - (left - 1 + 1) ≡ length xs - left = omega arith in
    let n : length (set xs (left - 1) 0) - (left - 1) ≡ suc (length xs - left) = omega (arith, length-set xs (left - 1) 0) in
    let h = rank_set s xs (left - 1) 0 (omega arith) in
    let h' = rw e at h in
    let m : (get_or xs (left - 1) 0 + 1) * s ^ (length xs - left) ≡ s * s ^ (length xs - left) = ap (λ k. k * s ^ (length xs - left)) last in
    rw (n, pow-succ') (omega (arith, h', m))
