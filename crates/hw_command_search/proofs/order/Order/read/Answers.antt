use Rattle.std.proofs.Common.{◌≡◌, ◌<◌, ◌≤◌, ◌∙◌, ◌-◌, length, length-set, subst, sym, drop, replicate, arith}
use Rattle.hw_search_laws.specs.declared.outcome.Branching.TheVariants.{Greatest}
use Rattle.hw_command_search.specs.Orders.{rules_read}
use Rattle.hw_command_search.proofs.Letters.{letter_read, one_place_less, some_letter}
use Rattle.hw_command_search.proofs.order.Order.read.Goals as goal

pub loop-place-preserved : goal.loop-place-preserved
loop-place-preserved c =
    let letters = c.as_bytes-letters.result.now in
    let rules = c.loop-place.rules in
    let i = c.loop-place.place in
    let rule = c.in-Some.rule in
    let inside : i < length letters = omega (arith, c.loop-place-test.true) in
    let room : i < length rules = omega (arith, c.loop-place.invariant.whole, c.if-letters-gt-MOST_TURNS.false, inside) in
    record {
      read = letter_read rules letters i rule (rules_read letters) inside room (sym c.rule_of.ensures ∙ c.in-Some.is) c.loop-place.invariant.read;
      whole = length-set rules i rule ∙ c.loop-place.invariant.whole;
      rest = one_place_less rules i rule room c.loop-place.invariant.rest;
    }

pub invariant_of-result : goal.invariant_of-result
invariant_of-result c =
    let letters = c.as_bytes-letters.result.now in
    let some : 1 ≤ length letters = some_letter letters (sym c.is_empty.ensures ∙ c.if-is_empty.false) in
    let few : length letters ≤ 64 = omega (arith, c.if-letters-gt-MOST_TURNS.false) in
    let over : c.loop-place.place ≡ length letters = omega (arith, c.loop-place-test.false, c.loop-place.auto.place-end) in
    record {
      some = some;
      few = few;
      whole = c.loop-place.invariant.whole;
      rest = subst (λ n. drop n c.loop-place.rules ≡ replicate (64 - n) Greatest) over c.loop-place.invariant.rest;
    }
