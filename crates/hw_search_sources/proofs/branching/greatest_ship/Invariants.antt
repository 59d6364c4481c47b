use Rattle.std.proofs.Common.{nat_lt, filter}
use Rattle.std.specs.List.{range_with_len}
use Rattle.hw_model.specs.Rooms.{low_of, high_of}
use Rattle.hw_search_sources.specs.Branching.{BestAmong}
use Rattle.hw_search_sources.proofs.branching.greatest_ship.Given as goal

abbrev pub invariant-loop-ship : goal.invariant-loop-ship
invariant-loop-ship l = BestAmong l.flat l.room (filter (λ ship. nat_lt (low_of l.room ship) (high_of l.room ship)) (range_with_len 0 l.ship)) l.best
