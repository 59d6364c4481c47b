use Rattle.std.proofs.Common.{false}
use Rattle.std.specs.Prelude.{nat_lt}
use Rattle.hw_search_sources.specs.Speaking.{AddsPlace}
use Rattle.hw_search_sources.proofs.speakers.Speakers.add_all.Given as goal

abbrev pub invariant-loop-ship : goal.invariant-loop-ship
invariant-loop-ship l = AddsPlace l.place (λ u. nat_lt u l.ship) (λ v w. false) l.fn.self l.self
