use Rattle.hw_search.specs.Going.{Going}
use Rattle.hw_search_tests.proofs.turns.take_turns.Given as goal

abbrev pub invariant-loop-count : goal.invariant-loop-count
invariant-loop-count g l = Going l.flat l.budget l.search (g.L.Log.state l.fn.log) (g.L.Log.state l.log)
