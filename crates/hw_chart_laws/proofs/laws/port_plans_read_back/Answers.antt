use Rattle.std.proofs.Common.{◌<◌, ◌^◌, arith}
use Rattle.std.proofs.lemmas.Int.{ints}
use Rattle.hw_port_model.specs.Numbers.{horizon_of}
use Rattle.hw_chart_laws.proofs.PortReading.{port_back}
use Rattle.hw_chart_laws.proofs.laws.port_plans_read_back.Goals as goal

pub returns : goal.returns
returns c = λ p h table other outcome later kept listed given e.
    let low = kept.slots.low in
    let high = kept.slots.high in
    let small : horizon_of p < 2 ^ 64 = grind (arith, ints, low, high) in
    port_back p h table other outcome later small listed given e
