use Rattle.std.proofs.Common.{◌≡◌, ◌++◌, ◌-◌, ◌*◌, map, length}
use Rattle.hw_text.specs.Parts.{ended_lines}
use Rattle.hw_flat.specs.TextWritten.{row_text, rows_in}
use Rattle.hw_flat.proofs.writing.put_rows.Given as goal

abbrev pub invariant-loop : goal.invariant-loop
invariant-loop l = record {
  size : length l.left ≡ (l.ships - l.counter) * l.slots;
  told : l.out.items ++ ended_lines (map (row_text l.sailing) (rows_in (l.ships - l.counter) l.slots l.left)) ≡ l.fn.out.items ++ ended_lines (map (row_text l.sailing) (rows_in l.ships l.slots l.values));
}
