-- The least and the greatest of heights, one after another.
use Rattle.std.proofs.Common.{◌≡◌, ◌+◌, ℕ, ℤ, add-one, ap}
use Rattle.std.specs.Int.{int_max, int_min}
use Rattle.hw_chart_port.specs.Strips.{greatest_of, least_height}

pub least_next : (height : ℕ → ℤ) (n : ℕ) → least_height height (n + 1) ≡ int_min (least_height height n) (height n)
least_next height n = ap (least_height height) (add-one n)

pub greatest_next : (height : ℕ → ℤ) (n : ℕ) → greatest_of height (n + 1) ≡ int_max (greatest_of height n) (height n)
greatest_next height n = ap (greatest_of height) (add-one n)
