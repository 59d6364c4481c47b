use Rattle.hw_port.proofs.MeaningWords.{told_meaning}
use Rattle.hw_port.proofs.meaning.test_port.Goals as goal

pub returns-clause-meaning : goal.returns-clause-meaning
returns-clause-meaning c = told_meaning c.all_rules.result c.args.p.now c.all_rules.ensures
