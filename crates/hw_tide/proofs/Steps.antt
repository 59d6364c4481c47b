-- A part of a rise, rounded down, lies between nothing and the whole.
use Rattle.std.proofs.Common.{ℕ, zero, suc, ◌*◌, ◌/◌, ◌≤◌, ◌<◌, ℤ, pos, negsuc, ◌*ℤ◌, ◌≤ℤ◌, arith}
use Rattle.std.specs.Prelude.{neg_ℤ}
use Rattle.std.specs.Int.{int_div_euclid}
use Rattle.std.proofs.lemmas.Int.{ints}
use Rattle.std.proofs.Math.Nat.{div-lt_iff_lt-mul, div-le_of_le-mul, mul-le-mul_left, mul_comm}
use Rattle.hw_tide.specs.Twelfths.{IsStep}

up : (t m a : ℕ) → t ≤ m * a → IsStep (pos a) (pos (t / m))
up t m a h = let q : t / m ≤ a = div-le_of_le-mul m h in (omega (arith, ints, q), omega (arith, ints, q))

down : (t m a : ℕ) → 0 < m → t ≤ m * suc a → IsStep (negsuc a) (int_div_euclid (neg_ℤ (pos t)) (pos m))
down zero m a some h = let q : 0 / m ≤ 0 = div-le_of_le-mul m (omega arith) in (omega (arith, ints, q), omega (arith, ints, q))
down (suc t) m a some h = let lt : t < suc a * m = omega (arith, h, mul_comm m (suc a)) in let below : t / m < suc a = (div-lt_iff_lt-mul {k = m} {x = t} {y = suc a} some).1 lt in let q : t / m ≤ a = omega (arith, below) in (omega (arith, ints, q), omega (arith, ints, q))

part_of : (a n m : ℕ) → n ≤ m → a * n ≤ m * a
part_of a n m h = omega (arith, mul-le-mul_left a h, mul_comm a m)

pub within : (rise part whole : ℤ) → pos 0 ≤ℤ part → part ≤ℤ whole → pos 1 ≤ℤ whole → IsStep rise (int_div_euclid (rise *ℤ part) whole)
within (pos a) (pos n) (pos m) h k some = up (a * n) m a (part_of a n m (omega (arith, ints, k)))
within (negsuc a) (pos n) (pos m) h k some = down (suc a * n) m a (omega (arith, ints, some)) (part_of (suc a) n m (omega (arith, ints, k)))
within rise (negsuc n) whole h k some = absurd (omega (arith, ints, h))
within rise (pos n) (negsuc m) h k some = absurd (omega (arith, ints, some))
