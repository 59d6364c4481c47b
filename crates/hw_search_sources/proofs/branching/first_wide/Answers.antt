use Rattle.std.proofs.Common.{◌<◌, nat_lt, sym, arith}
use Rattle.std.proofs.lemmas.Bool.{lt-ltb}
use Rattle.hw_model.specs.Rooms.{low_of, high_of}
use Rattle.hw_model_laws.proofs.Searches.{found_none as find_none}
use Rattle.hw_search_sources.proofs.Choosing.{find_at}
use Rattle.hw_search_sources.proofs.branching.first_wide.Goals as goal

pub returns-then-low-high-clause-value : goal.returns-then-low-high-clause-value
returns-then-low-high-clause-value c =
    let wide : low_of c.args.room.now c.loop-ship.ship < high_of c.args.room.now c.loop-ship.ship = omega arith in
    sym (find_at (λ ship. nat_lt (low_of c.args.room.now ship) (high_of c.args.room.now ship)) 0 c.args.room.now.ships c.loop-ship.ship (omega arith) (omega arith) (λ j le lt. c.loop-ship.invariant j lt) (lt-ltb _ _ wide))

pub returns-clause-value : goal.returns-clause-value
returns-clause-value c = sym (find_none (λ ship. nat_lt (low_of c.args.room.now ship) (high_of c.args.room.now ship)) 0 c.args.room.now.ships (λ k le lt. c.loop-ship.invariant k (omega (arith, lt))))
