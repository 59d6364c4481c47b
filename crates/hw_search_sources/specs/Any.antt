-- What a propagator of any kind means, by what each kind means.
use Rattle.hw_model.specs.declared.source.Source.{Source}
use Rattle.hw_model.specs.Problem.{Problem}
use Rattle.hw_model.specs.Rooms.{RoomModel}
use Rattle.hw_model.specs.Refuting.{IsSourceOf}
use Rattle.hw_prop.specs.declared.propagator.Propagator.{Ghosts as Members}
use Rattle.hw_prop.specs.declared.shaver.Shaver.{Shaver}
use Rattle.hw_pairs.specs.declared.props.Stateless.{Stateless}
use Rattle.hw_pairs.specs.declared.props.Pairs.{Pairs}
use Rattle.hw_pairs.specs.declared.props.OneHolePairs.{OneHolePairs}
use Rattle.hw_pairs.specs.declared.props.Afters.{Afters}
use Rattle.hw_pairs.specs.declared.props.Orders.{Orders}
use Rattle.hw_tugs.specs.declared.profile.TugProfile.{TugProfile}
use Rattle.hw_goal.specs.declared.bound.GoalBound.{GoalBound}
use Rattle.hw_search_sources.specs.declared.any.AnyPropagator.{AnyPropagator}
use Rattle.hw_search_sources.specs.declared.any.AnyPropagator.TheVariants as kinds

-- what a kind means: the sources of its propagators, what they serve and are ready for, and the two laws of a propagator
pub record Kind (P : Type 0) : Type 1 where
  pub says : Members P
  pub ready_serves : (p : P) (f : Problem) (room : RoomModel) → says.ready p f room → says.serves p f
  pub serves_source : (p : P) (f : Problem) → says.serves p f → IsSourceOf f (says.source p)

-- what one propagator means
pub record Meaning : Type 1 where
  pub source : Source
  pub serves : Problem → Type 0
  pub ready : Problem → RoomModel → Type 0
  pub ready_serves : (f : Problem) (room : RoomModel) → ready f room → serves f
  pub serves_source : (f : Problem) → serves f → IsSourceOf f source

abbrev pub meaning : {P : Type 0} → Kind P → P → Meaning
meaning kind p = record { source = kind.says.source p; serves = kind.says.serves p; ready = kind.says.ready p; ready_serves = kind.ready_serves p; serves_source = kind.serves_source p }

-- each kind in a row
pub record Kinds : Type 1 where
  pub shaver : Kind Shaver
  pub channel : Kind (Stateless Pairs)
  pub separation : Kind (Stateless OneHolePairs)
  pub berth : Kind (Stateless Afters)
  pub order_triple : Kind (Stateless Orders)
  pub tug_profile : Kind TugProfile
  pub goal_bound : Kind GoalBound

-- a propagator means what its kind does
abbrev pub propagator_meaning : Kinds → AnyPropagator → Meaning
propagator_meaning all (kinds.Shaver one) = meaning all.shaver one
propagator_meaning all (kinds.Channel one) = meaning all.channel one
propagator_meaning all (kinds.Separation one) = meaning all.separation one
propagator_meaning all (kinds.Berth one) = meaning all.berth one
propagator_meaning all (kinds.OrderTriple one) = meaning all.order_triple one
propagator_meaning all (kinds.TugProfile one) = meaning all.tug_profile one
propagator_meaning all (kinds.GoalBound one) = meaning all.goal_bound one
