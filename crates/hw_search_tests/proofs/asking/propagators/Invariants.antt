use Rattle.std.proofs.Common.{◌≡◌, All, map, take}
use Rattle.hw_model.specs.Problem.{shape_of}
use Rattle.hw_model.specs.Rooms.{whole_room}
use Rattle.hw_search_sources.specs.contracts.any.AnyPropagatorPropagator.TheImpl.{source-value, ready-value}
use Rattle.hw_search_tests.proofs.asking.propagators.Given as goal

abbrev pub invariant-loop-source : goal.invariant-loop-source
invariant-loop-source l = record {
  sources : map source-value.it l.props.items ≡ take l.source-index l.source-items;
  ready : All (λ one. ready-value.it one l.flat (whole_room (shape_of l.flat))) l.props.items;
}
