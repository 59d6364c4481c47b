-- The numbers of buckets, and which of them a cut reaches.
use Rattle.std.proofs.Common.{ℕ, ◌+◌, ◌-◌, ◌*◌, ◌<◌, ◌≤◌, min, arith}
use Rattle.std.proofs.lemmas.Nat.{rows}
use Rattle.hw_store.specs.Numbering.{in_row, bucket_count}

pub placed : (rows columns y x : ℕ) → y < rows → x < columns → y * columns + x < rows * columns
placed n m y x p q = grind (arith, rows)

pub bound_small : (ships slots row slot : ℕ) → 1 ≤ slots → row < 2 * ships → in_row slots row slot < bucket_count ships slots
bound_small ships slots row slot some lt =
    let less : min slot (slots - 1) < slots = omega (arith, some) in
    let h : row * slots + min slot (slots - 1) < 2 * ships * slots = placed (2 * ships) slots row (min slot (slots - 1)) lt less in
    omega (arith, h)
