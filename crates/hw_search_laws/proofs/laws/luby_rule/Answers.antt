use Rattle.hw_search_laws.proofs.LubyRules.{luby_rule}
use Rattle.hw_search_laws.proofs.laws.luby_rule.Goals as goal

pub returns : goal.returns
returns c = luby_rule
