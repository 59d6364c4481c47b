use Rattle.hw_rules.proofs.Listed.{none_twice}
use Rattle.hw_search_laws.proofs.laws.sources_once.Goals as goal

pub returns : goal.returns
returns c = λ f sources h. record { each = h.each; once = none_twice f sources h }
