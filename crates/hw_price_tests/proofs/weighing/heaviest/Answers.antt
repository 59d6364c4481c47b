use Rattle.std.proofs.Common.{rules, ◌∙◌, arith}
use Rattle.std.proofs.lemmas.List.{get_or_default}
use Rattle.hw_price_tests.proofs.Steps.{cut_tugs}
use Rattle.hw_price_tests.proofs.weighing.heaviest.Goals as goal

pub returns : goal.returns
returns c = record {
  value =
      c.index.ensures
      ∙ get_or_default c.in_ok-most.most.items c.min-useful.result c.index.result.now 0 (omega (arith, c.in_ok-most.ensures.long))
      ∙ c.in_ok-most.ensures.value c.min-useful.result (omega arith)
      ∙ cut_tugs c.args.weights.now c.args.jobs.now c.args.tugs c.min-useful.result (search rules);
}
