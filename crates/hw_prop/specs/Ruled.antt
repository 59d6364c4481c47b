-- The rule of a source.
use Rattle.std.specs.Prelude.{Option, None, slice_get}
use Rattle.hw_model.specs.declared.rule.Rule.{Rule}
use Rattle.hw_model.specs.declared.source.Source.{Source}
use Rattle.hw_model.specs.declared.source.Source.TheVariants as sources
use Rattle.hw_model.specs.Problem.{Problem}

-- the rule of which it is the source; a window, three orders and the goal have none
abbrev pub rule_of : Problem → Source → Option Rule
rule_of f (sources.Window v) = None
rule_of f (sources.Rule place) = slice_get f.rules place
rule_of f (sources.Order v w x) = None
rule_of f sources.Goal = None
