use Rattle.std.proofs.Common.{◌↔◌, IfOk, IsTrue, ◌∙◌}
use Rattle.hw_price_laws.specs.Tolls.{IsToll}
use Rattle.hw_price_tests.proofs.Judged.{narrows_told, tugs_told, as_judged}
use Rattle.hw_price_tests.proofs.judging.is_toll_by.Goals as goal

pub returns-in-Narrows : goal.returns-in-Narrows
returns-in-Narrows c =
    let told : IfOk c.narrows_fit.result (λ yes. IsTrue yes ↔ IsToll c.args.flat.now c.args.toll.now) =
    narrows_told c.args.flat.now c.args.toll.now c.in-Narrows.blocks c.deref.result.now c.narrows_fit.result c.in-Narrows.is (c.deref.ensures.value ∙ c.blocks-in-Narrows.view_is) c.narrows_fit.ensures.value
    in
    record { computed = as_judged c.args.flat.now c.args.toll.now c.narrows_fit.result told; value = told }

pub returns-in-Tugs : goal.returns-in-Tugs
returns-in-Tugs c =
    let told : IfOk c.tugs_fit.result (λ yes. IsTrue yes ↔ IsToll c.args.flat.now c.args.toll.now) =
    tugs_told c.args.flat.now c.args.toll.now c.in-Tugs.restriction c.in-Tugs.slot c.in-Tugs.most c.in-Tugs.weights c.deref-in-Tugs.result.now c.tugs_fit.result c.in-Tugs.is (c.deref-in-Tugs.ensures.value ∙ c.weights.view_is) c.tugs_fit.ensures.value
    in
    record { computed = as_judged c.args.flat.now c.args.toll.now c.tugs_fit.result told; value = told }
