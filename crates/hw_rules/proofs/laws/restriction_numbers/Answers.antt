use Rattle.hw_rules.proofs.Numbers.{to_number, to_source}
use Rattle.hw_rules.proofs.laws.restriction_numbers.Goals as goal

pub returns : goal.returns
returns c = λ f. (to_number f, to_source f)
