use Rattle.std.proofs.Common.{◌≡◌, ◌≤◌}
use Rattle.hw_search_laws.specs.Luby.{luby}
use Rattle.hw_search_sources.specs.Powers.{IsPowerAbove}
use Rattle.hw_search_sources.proofs.restarts.luby.Given as goal

abbrev pub invariant-loop-rest : goal.invariant-loop-rest
invariant-loop-rest l = record { same : luby l.rest ≡ luby l.i; some : 1 ≤ l.rest; few : l.rest ≤ 100000; above : IsPowerAbove l.rest l.power }

abbrev pub decreases-loop-rest : goal.decreases-loop-rest
decreases-loop-rest l = l.rest
