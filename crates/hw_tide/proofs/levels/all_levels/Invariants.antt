use Rattle.std.proofs.Common.{◌≡◌, ◌+◌, ◌++◌, ℕ, List, vec_len, None}
use Rattle.csv.specs.Reading.{owned_rows_left}
use Rattle.hw_tide.specs.Table.{levels_from}
use Rattle.hw_tide.proofs.ComingRecords.{Through}
use Rattle.hw_tide.proofs.Fields.{with_front}
use Rattle.hw_tide.proofs.levels.all_levels.Given as goal

abbrev pub invariant-loop-levels : goal.invariant-loop-levels
invariant-loop-levels l = (done : List (List (List ℕ))) × Through l.fn.records done l.records
    × ((coming : List (List (List ℕ))) → with_front l.levels.items (levels_from l.kind l.columns (vec_len l.levels + 1) l.last coming) ≡ levels_from l.kind l.columns 1 None (done ++ coming))

abbrev pub decreases-loop-levels : goal.decreases-loop-levels
decreases-loop-levels l = owned_rows_left l.records
