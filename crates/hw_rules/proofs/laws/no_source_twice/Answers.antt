use Rattle.hw_rules.proofs.Listed.{none_twice}
use Rattle.hw_rules.proofs.laws.no_source_twice.Goals as goal

pub returns : goal.returns
returns c = none_twice
