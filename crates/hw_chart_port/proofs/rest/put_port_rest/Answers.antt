use Rattle.std.proofs.Common.{option_map}
use Rattle.hw_chart.specs.Legends.{legend_parts}
use Rattle.hw_chart_port.proofs.Drawn.{rest_drawn}
use Rattle.hw_chart_port.proofs.Openings.{listed_by}
use Rattle.hw_chart_port.proofs.rest.put_port_rest.Goals as goal

pub invariant_of-chart : goal.invariant_of-chart
invariant_of-chart g c = (
  record {
    kept = rw c.parts-kept.ensures.parts at c.parts-kept.ensures.kept;
    columns = c.requires.columns;
    some = c.slots_shown.ensures.some;
    few = c.slots_shown.ensures.small;
    listed = listed_by (λ plan. plan.now) c.args.port.now c.args.tide.now c.args.plan c.requires.moves;
  },
  c.requires.moves,
)

pub returns : goal.returns
returns g c = rest_drawn c.args.port.now c.args.tide.now (option_map (λ plan. plan.now.table) c.args.plan) (legend_parts c.args.more.now) c.slots_shown.result _ _ c.slots_shown.ensures.value c.put_rest.ensures
