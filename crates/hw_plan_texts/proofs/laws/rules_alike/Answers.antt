use Rattle.hw_plan_texts.proofs.Alike.{rules_alike}
use Rattle.hw_plan_texts.proofs.laws.rules_alike.Goals as goal

pub returns : goal.returns
returns c = rules_alike
