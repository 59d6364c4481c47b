use Rattle.hw_turns.proofs.Membering.{turns_by}
use Rattle.hw_turns_tests.proofs.player.Player.take_turn.Goals as goal

pub returns : goal.returns
returns c = record { turns = turns_by c.args.flat.now c.args.self.now.search c.args.self.now.log c.turn-turn.result c.turn-turn.new.self c.turn-turn.new.log c.requires.working c.lemmas-lemmas.ensures.search c.turn-turn.ensures.turns }
