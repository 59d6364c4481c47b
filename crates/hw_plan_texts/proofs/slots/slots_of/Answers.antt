use Rattle.std.proofs.Common.{◌≡◌, ◌++◌, [], ◌∷◌, length, sym, ap, ◌∙◌, arith}
use Rattle.std.proofs.lemmas.List.{length_push}
use Rattle.hw_plan_texts.specs.Slots.{slots_form}
use Rattle.hw_plan_texts.proofs.Listed.{slots_go_on, slots_end, slots_fail, below_more}
use Rattle.hw_plan_texts.proofs.slots.slots_of.Goals as goal

pub returns-in_default-clause-form : goal.returns-in_default-clause-form
returns-in_default-clause-form c =
    slots_end c.loop-place.list.items c.args.slots c.args.many c.loop-place.place (slots_form c.args.slots c.args.many c.args.words) c.loop-place-test.true (rw c.in_default.ensures.0 at c.loop-place.invariant.told)

pub returns-in_default-slot_of-clause-form : goal.returns-in_default-slot_of-clause-form
returns-in_default-slot_of-clause-form c =
    slots_fail c.loop-place.list.items c.args.slots c.args.many c.loop-place.place c.in-Some.word.now c.word.new.self (slots_form c.args.slots c.args.many c.args.words) c.loop-place-test.true (sym c.in_default-slot_of.ensures.form) (rw c.in-Some.ensures at c.loop-place.invariant.told)

pub loop-place-preserved : goal.loop-place-preserved
loop-place-preserved c =
    let grown : c.push.new.self.items ≡ c.loop-place.list.items ++ c.in-Some-slot_of.slot ∷ [] = c.in_ok-push.ensures.items in
    record {
      told = rw grown (slots_go_on c.loop-place.list.items c.args.slots c.args.many c.loop-place.place c.in-Some-slot_of.slot c.in-Some.word.now c.word.new.self (slots_form c.args.slots c.args.many c.args.words) c.loop-place-test.true (sym c.in-Some-slot_of.ensures.form) (rw c.in-Some.ensures at c.loop-place.invariant.told));
      many = ap length grown ∙ (length_push c.loop-place.list.items c.in-Some-slot_of.slot ∙ omega (arith, c.loop-place.invariant.many));
      below = rw grown (below_more c.args.slots c.in-Some-slot_of.slot c.loop-place.list.items c.loop-place.invariant.below c.in-Some-slot_of.ensures.below);
    }
