use Rattle.std.proofs.Common.{◌≡◌, ◌-◌, ◌<◌, All, length}
use Rattle.hw_plan_texts.specs.Slots.{slots_form}
use Rattle.hw_plan_texts.proofs.Listed.{with_front}
use Rattle.hw_plan_texts.proofs.slots.slots_of.Given as goal

abbrev pub invariant-loop-place : goal.invariant-loop-place
invariant-loop-place l = record {
  told : with_front l.list.items (slots_form l.slots (l.many - l.place) l.words) ≡ slots_form l.slots l.many l.fn.words;
  many : length l.list.items ≡ l.place;
  below : All (λ slot. slot < l.slots) l.list.items;
}
