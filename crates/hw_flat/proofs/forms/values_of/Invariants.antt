use Rattle.std.proofs.Common.{◌≡◌, ◌-◌}
use Rattle.hw_flat.specs.TextForms.{row_values, with_front}
use Rattle.hw_flat.proofs.forms.values_of.Given as goal

abbrev pub invariant-loop-slot : goal.invariant-loop-slot
invariant-loop-slot l = with_front l.values.items (row_values l.stay (l.slots - l.slot) l.words) ≡ row_values l.stay l.slots l.fn.words
