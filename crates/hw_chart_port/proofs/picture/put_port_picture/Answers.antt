use Rattle.std.proofs.Common.{option_map}
use Rattle.hw_chart_port.proofs.Drawn.{drawn}
use Rattle.hw_chart_port.proofs.Openings.{listed_by}
use Rattle.hw_chart_port.proofs.picture.put_port_picture.Goals as goal

pub invariant_of-chart : goal.invariant_of-chart
invariant_of-chart g c = (
  record {
    kept = rw c.parts-kept.ensures.parts at c.parts-kept.ensures.kept;
    columns = c.requires.columns;
    some = c.slots_shown.ensures.some;
    few = c.slots_shown.ensures.small;
    listed = listed_by (λ plan. plan.now) c.args.port.now c.args.tide.now c.args.plan c.requires.moves;
  },
  c.requires.moves,
)

pub returns : goal.returns
returns g c = drawn c.args.port.now c.args.tide.now (option_map (λ plan. plan.now.table) c.args.plan) c.args.outcome c.slots_shown.result _ _ c.slots_shown.ensures.value c.put_picture.ensures
