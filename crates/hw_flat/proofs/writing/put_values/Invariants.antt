use Rattle.std.proofs.Common.{◌≡◌, ◌++◌, map, drop}
use Rattle.hw_flat.specs.TextWritten.{led, value_text}
use Rattle.hw_flat.proofs.writing.put_values.Given as goal

abbrev pub invariant-loop-value : goal.invariant-loop-value
invariant-loop-value l = l.out.items ++ led (map value_text (drop l.value-index l.values)) ≡ l.fn.out.items ++ led (map value_text l.values)
