use Rattle.std.proofs.Common.{◌≡◌, ℕ, Option, length, take, filter_map, ap, ◌∙◌, arith}
use Rattle.std.proofs.lemmas.Grind.{common_steps}
use Rattle.std.proofs.lemmas.List.Elements.{filter_map-append}
use Rattle.std.proofs.Math.Seq.{take-length}
use Rattle.hw_search_ledger.proofs.dropped.numbers_of.Goals as goal

pub loop-one-preserved : goal.loop-one-preserved
loop-one-preserved c = grind (arith, common_steps, filter_map-append)

pub returns : goal.returns
returns c =
    let e : c.loop-one.one-index ≡ length c.args.written.now = omega arith in
    record { value = c.loop-one.invariant ∙ ap (λ (n : ℕ). filter_map (λ (number : Option ℕ). number) (take n c.args.written.now)) e ∙ ap (filter_map (λ (number : Option ℕ). number)) (take-length c.args.written.now) }
