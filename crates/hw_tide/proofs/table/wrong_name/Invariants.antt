use Rattle.std.proofs.Common.{◌≡◌, ◌+◌, drop, map}
use Rattle.csv.specs.Records.{fields_of}
use Rattle.hw_tide.specs.Table.{wrong_column}
use Rattle.hw_tide.proofs.table.wrong_name.Given as goal

abbrev pub invariant-loop-i : goal.invariant-loop-i
invariant-loop-i l = wrong_column (l.i + 1) (map (λ w. w.name) (drop l.i l.waypoints)) (drop (l.i + 1) (fields_of l.header)) ≡ wrong_column 1 (map (λ w. w.name) l.waypoints) (drop 1 (fields_of l.header))
