-- What the rule of a source says; for callers.
use Rattle.std.proofs.Common.{◌≡◌, ◌↔◌, ℕ, Option, Some, None, slice_get, IfSome, IsSomeAnd, sym, subst}
use Rattle.hw_model.specs.declared.rule.Rule.{Rule}
use Rattle.hw_model.specs.declared.source.Source.{Source}
use Rattle.hw_model.specs.declared.source.Source.TheVariants as sources
use Rattle.hw_model.specs.Problem.{Problem}
use Rattle.hw_model.specs.Limits.{IsFlat, RuleFits}
use Rattle.hw_model.specs.Rooms.{RoomModel}
use Rattle.hw_model.specs.Refuting.{Refutes, RuleRefutes, IsSourceOf}
use Rattle.hw_model_laws.proofs.Counting.{at_place}
use Rattle.hw_prop.specs.Ruled.{rule_of}
use Rattle.hw_prop.specs.Scope.{rule_ships, rule_pairs}
use Rattle.hw_prop.specs.Speaks.{SpokenOf}
use Rattle.hw_prop.proofs.Scopes.{spoken_of}

none_some : {X : Type 0} {Z : Type 0} (x : X) → None ≡ Some x → Z
none_some x e = absurd cc

if_some : (P : Rule → Type 0) (o : Option Rule) (rule : Rule) → o ≡ Some rule → IfSome o P → P rule
if_some P o rule e h = subst (λ o. IfSome o P) e h

-- it is within the limits of rules
pub rule_fits : (f : Problem) (source : Source) (rule : Rule) → IsFlat f → rule_of f source ≡ Some rule → RuleFits f.ships rule
rule_fits f (sources.Window v) rule flat e = none_some rule e
rule_fits f (sources.Rule place) rule flat e = if_some (RuleFits f.ships) (slice_get f.rules place) rule e (at_place (RuleFits f.ships) f.rules place flat.each_rule)
rule_fits f (sources.Order v w x) rule flat e = none_some rule e
rule_fits f sources.Goal rule flat e = none_some rule e

-- the source speaks of the rule's ships and pairs
pub rule_spoken : (f : Problem) (source : Source) (rule : Rule) → IsFlat f → IsSourceOf f source → rule_of f source ≡ Some rule → SpokenOf f source (rule_ships (Some rule)) (rule_pairs (Some rule))
rule_spoken f (sources.Window v) rule flat of e = none_some rule e
rule_spoken f (sources.Rule place) rule flat of e = subst (λ o. SpokenOf f (sources.Rule place) (rule_ships o) (rule_pairs o)) e (spoken_of f (sources.Rule place) flat of)
rule_spoken f (sources.Order v w x) rule flat of e = none_some rule e
rule_spoken f sources.Goal rule flat of e = none_some rule e

-- the source refutes exactly where the rule does
pub rule_refutes : (f : Problem) (source : Source) (best : Option ℕ) (r : RoomModel) (rule : Rule) → rule_of f source ≡ Some rule → (RuleRefutes f r rule ↔ Refutes f source best r)
rule_refutes f (sources.Window v) best r rule e = none_some rule e
rule_refutes f (sources.Rule place) best r rule e = (λ h. subst (λ o. IsSomeAnd o (RuleRefutes f r)) (sym e) h, λ h. subst (λ o. IsSomeAnd o (RuleRefutes f r)) e h)
rule_refutes f (sources.Order v w x) best r rule e = none_some rule e
rule_refutes f sources.Goal best r rule e = none_some rule e
