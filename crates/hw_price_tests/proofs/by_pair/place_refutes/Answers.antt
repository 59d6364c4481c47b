use Rattle.std.proofs.Common.{◌≡◌, ◌<◌, length, ap, arith}
use Rattle.hw_price_tests.proofs.by_pair.place_refutes.Goals as goal

pub returns-then-place-shape : goal.returns-then-place-shape
returns-then-place-shape c =
    let rules : c.shape.result.rules ≡ length c.args.flat.now.rules = ap (λ s. s.rules) c.shape.ensures.value in
    let inside : c.args.place < length c.args.flat.now.rules = omega (arith, c.if-place-shape.true, rules) in
    record { sound = λ t. (c.args.place, inside, c.rule_refutes.ensures.value.0 t); place = λ t. (inside, c.rule_refutes.ensures.value.0 t) }
