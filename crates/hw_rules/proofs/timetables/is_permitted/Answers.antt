use Rattle.hw_rules.proofs.Permitted.{test_permits}
use Rattle.hw_rules.proofs.timetables.is_permitted.Goals as goal

pub returns : goal.returns
returns c = test_permits c.args.flat.now c.args.table.now c.first_broken.result c.is_none.result c.requires.listed c.first_broken.ensures.value c.is_none.ensures
