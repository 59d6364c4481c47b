-- Products of numbers.
use Rattle.std.proofs.Common.{◌≡◌, ℕ, ◌+◌, ◌*◌, ◌<◌, ◌≤◌, arith}
use Rattle.std.proofs.Math.Nat.{mul-le-mul_right}

pub product : (a b c d : ℕ) → a ≤ b → c ≤ d → a * c ≤ b * d
product a b c d p q =
    let one : a * c ≤ b * c = mul-le-mul_right c p in
    let two : c * b ≤ d * b = mul-le-mul_right b q in
    omega (arith, one, two)

-- in a table with rows of n places, each row stands before the next
pub rows_apart : (n v w a b : ℕ) → w < n → v < a → v * n + w < a * n + b
rows_apart n v w a b l h =
    let le : v + 1 ≤ a = omega arith in
    let m : (v + 1) * n ≤ a * n = mul-le-mul_right n le in
    let e : (v + 1) * n ≡ v * n + n = omega arith in
    omega (arith, m, e)
