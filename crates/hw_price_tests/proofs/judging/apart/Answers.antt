use Rattle.hw_price_tests.proofs.Judged.{apart_told}
use Rattle.hw_price_tests.proofs.judging.apart.Goals as goal

pub returns-then-first-second-clause-value : goal.returns-then-first-second-clause-value
returns-then-first-second-clause-value c = apart_told c.args.flat.now c.args.first c.args.second c.set_blocks.new.room c.refute.result c.set_blocks.ensures.value c.if-first-second.true c.refute.ensures.value
