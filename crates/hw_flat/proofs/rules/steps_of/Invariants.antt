use Rattle.std.proofs.Common.{◌≡◌, ◌++◌, length}
use Rattle.hw_flat.specs.TextForms.{front_items, step_form}
use Rattle.hw_flat.proofs.rules.steps_of.Given as goal

abbrev pub invariant-loop-word : goal.invariant-loop-word
invariant-loop-word l = record {
  same : l.again ≡ l.words;
  told : (l.steps.items ++ (front_items (step_form l.slots) l.words).0, (front_items (step_form l.slots) l.words).1) ≡ front_items (step_form l.slots) l.fn.words;
}

abbrev pub decreases-loop-word : goal.decreases-loop-word
decreases-loop-word l = length l.words
