use Rattle.hw_turns_tests.proofs.played.play.Goals as goal

pub take_turns-requires-clause-greatest : goal.take_turns-requires-clause-greatest
take_turns-requires-clause-greatest c = c.in_ok-players.ensures.greatest

pub take_turns-requires-clause-earliest : goal.take_turns-requires-clause-earliest
take_turns-requires-clause-earliest c = c.in_ok-players.ensures.earliest

pub take_turns-requires-clause-latest : goal.take_turns-requires-clause-latest
take_turns-requires-clause-latest c = c.in_ok-players.ensures.latest
