-- A rank is at most the number of ships.
use Rattle.std.proofs.Common.{◌≤◌, ℕ, List, length, slice_index, arith}
use Rattle.std.proofs.lemmas.List.FromFn.{length-enumerate_from}
use Rattle.std.proofs.lemmas.List.Sums.{count_by-le-length}
use Rattle.std.specs.List.{enumerate_from}
use Rattle.hw_chart.specs.Layout.{rank_of, stands_above}

pub rank_small : (table : List ℕ) (ship : ℕ) → rank_of table ship ≤ length table
rank_small table ship =
    let few = count_by-le-length (λ given. stands_above given.0 given.1 ship (slice_index table ship)) (enumerate_from 0 table) in
    let long = length-enumerate_from 0 table in
    omega (arith, few, long)
