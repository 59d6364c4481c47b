use Rattle.std.proofs.Common.{◌≡◌, map, take}
use Rattle.hw_search_sources.proofs.asking.sources_of.Given as goal

abbrev pub invariant-loop-one : goal.invariant-loop-one
invariant-loop-one g l = l.sources.items ≡ map g.P.Propagator.source (take l.one-index l.props)
