use Rattle.hw_prop_tests.proofs.kinds.plain_wrong.Goals as goal

pub first_wrong-requires : goal.first_wrong-requires
first_wrong-requires c = record { serves = (c.new.ensures.ready c.args.flat.now c.args._room.now c.requires.source c.requires.room).0 }
