use Rattle.std.proofs.Common.{rules, refl, ◌≡◌}
use Rattle.std.specs.Bool.{Decides}
use Rattle.std.proofs.lemmas.Slice.Eq.{slice_eq-Decides}
use Rattle.hw_model.specs.contracts.source.SourcePartialEq.TheImpl.{eq-value}
use Rattle.hw_model.specs.declared.source.Source.{Source}
use Rattle.hw_model.specs.declared.source.Source.TheVariants as sources
use Rattle.hw_search_tests.proofs.asking.is_same.Goals as goal

-- two sources are the same exactly where `==` says so
decides : (a b : Source) → Decides (eq-value.it a b) (a ≡ b)
decides sources.Goal sources.Goal = (λ h. refl, λ e. refl)
decides a b = search rules

pub returns : goal.returns
returns c = (slice_eq-Decides decides c.args.one.now c.args.other.now c.eq.result c.eq.ensures).0
