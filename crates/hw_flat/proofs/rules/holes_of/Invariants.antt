use Rattle.std.proofs.Common.{◌≡◌, ◌-◌, ◌≤◌, length}
use Rattle.hw_flat.specs.TextForms.{items_of, hole_form, with_front}
use Rattle.hw_flat.proofs.rules.holes_of.Given as goal

abbrev pub invariant-loop-word : goal.invariant-loop-word
invariant-loop-word l = record {
  few : length l.holes.items ≤ 8;
  told : with_front l.holes.items (items_of hole_form (8 - length l.holes.items) l.words) ≡ items_of hole_form 8 l.fn.words;
}

abbrev pub decreases-loop-word : goal.decreases-loop-word
decreases-loop-word l = length l.words
