use Rattle.hw_turns_tests.proofs.Begun.{works}
use Rattle.hw_turns_tests.proofs.player.Player.new.Goals as goal

pub returns : goal.returns
returns c = record { works = works c.args.rule c.shape-shape.ensures.limits c.in_ok-search.ensures.value c.new-3.ensures }
