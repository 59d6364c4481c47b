use Rattle.hw_turns.specs.Members.{Working}
use Rattle.hw_turns_tests.proofs.played.take_turns.Given as goal

abbrev pub invariant-loop-place : goal.invariant-loop-place
invariant-loop-place l = record {
  greatest : Working l.flat l.players.greatest.search l.players.greatest.log;
  earliest : Working l.flat l.players.earliest.search l.players.earliest.log;
  latest : Working l.flat l.players.latest.search l.players.latest.log;
}
