use Rattle.std.proofs.Common.{◌<◌, ◌^◌, arith}
use Rattle.hw_model.specs.Problem.{horizon}
use Rattle.hw_chart_laws.proofs.FlatReading.{flat_back}
use Rattle.hw_chart_laws.proofs.laws.flat_plans_read_back.Goals as goal

pub returns : goal.returns
returns c = λ f table other outcome later few listed given e.
    let small : horizon f < 2 ^ 64 = omega (arith, few) in
    flat_back f table other outcome later small listed given e
