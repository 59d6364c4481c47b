use Rattle.std.proofs.Common.{◌≡◌, drop}
use Rattle.csv.specs.Records.{fields_of}
use Rattle.hw_tide.specs.Table.{heights_from}
use Rattle.hw_tide.proofs.Fields.{with_front}
use Rattle.hw_tide.proofs.levels.heights_of.Given as goal

abbrev pub invariant-loop-column : goal.invariant-loop-column
invariant-loop-column l = with_front l.heights.items (heights_from l.row l.column (drop l.column (fields_of l.fields))) ≡ heights_from l.row 1 (drop 1 (fields_of l.fields))
