use Rattle.std.proofs.Common.{◌∙◌, sym, arith}
use Rattle.hw_chart_flat.specs.Fleets.{fleets_in}
use Rattle.hw_chart_flat.proofs.Onward.{fleets_next, fleets_past, fleets_end}
use Rattle.hw_chart_flat.proofs.fleets.next.Goals as goal

pub loop-place-preserved : goal.loop-place-preserved
loop-place-preserved c = fleets_past c.loop-place.place c.args.fleets.rules.now c.index-rules-place.result c.loop-place-test.true c.index-rules-place.is (sym c.is_fleet.ensures ∙ c.if-is_fleet.false) ∙ c.loop-place.invariant

pub returns-then-is_fleet-clause-found : goal.returns-then-is_fleet-clause-found
unfolding fleets_in
returns-then-is_fleet-clause-found c = fleets_next c.args.fleets.left c.args.fleets.from c.loop-place.place c.args.fleets.rules.now c.index-rules-place.result (omega arith) c.loop-place-test.true c.index-rules-place.is (sym c.is_fleet.ensures ∙ c.if-is_fleet.true) c.loop-place.invariant

pub returns-clause-none : goal.returns-clause-none
unfolding fleets_in
returns-clause-none c = λ none. fleets_end c.args.fleets.left c.args.fleets.from c.loop-place.place c.args.fleets.rules.now c.loop-place-test.false c.loop-place.invariant
