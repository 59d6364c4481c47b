-- Which kind of propagator a source has: the one that reads bounds and figures, and trying alone for a window.
use Rattle.std.specs.Prelude.{◌≡◌, ◌≢◌, length, slice_get, Option, Some, ⊤}
use Rattle.hw_model.specs.declared.rule.Rule.{Rule}
use Rattle.hw_model.specs.declared.rule.Rule.TheVariants.{Pair, After, Tugs}
use Rattle.hw_model.specs.declared.source.Source.{Source}
use Rattle.hw_model.specs.declared.source.Source.TheVariants as sources
use Rattle.hw_model.specs.Problem.{Problem}
use Rattle.hw_search_sources.specs.declared.any.AnyPropagator.{AnyPropagator}
use Rattle.hw_search_sources.specs.declared.any.AnyPropagator.TheVariants as kinds

-- a Separation has one hole, a Channel any other number
abbrev pub IsMadeForRule : Option Rule → AnyPropagator → Type 0
IsMadeForRule (Some (Pair v w holes)) (kinds.Separation one) = length holes ≡ 1
IsMadeForRule (Some (Pair v w holes)) (kinds.Channel one) = length holes ≢ 1
IsMadeForRule (Some (After v w gap)) (kinds.Berth one) = ⊤
IsMadeForRule (Some (Tugs fleet later jobs)) (kinds.TugProfile one) = ⊤
IsMadeForRule rule one = ⊥

abbrev pub IsMadeFor : Problem → Source → AnyPropagator → Type 0
IsMadeFor f (sources.Window v) (kinds.Shaver one) = ⊤
IsMadeFor f (sources.Rule place) one = IsMadeForRule (slice_get f.rules place) one
IsMadeFor f (sources.Order v w x) (kinds.OrderTriple one) = ⊤
IsMadeFor f sources.Goal (kinds.GoalBound one) = ⊤
IsMadeFor f source one = ⊥
