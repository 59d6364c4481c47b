use Rattle.std.proofs.Common.{◌≡◌, ℕ, length, take, sym, subst, ap, ◌∙◌, arith}
use Rattle.std.proofs.Math.Seq.{take-length}
use Rattle.std.proofs.lemmas.List.Elements.{All-push, All-same}
use Rattle.hw_model.specs.Problem.{shape_of}
use Rattle.hw_model.specs.Rooms.{whole_room}
use Rattle.hw_search_laws.specs.Starting.{EachSourceOnce}
use Rattle.hw_rules.specs.Sources.{AreSourcesOf}
use Rattle.hw_search_sources.specs.contracts.any.AnyPropagatorPropagator.TheImpl.{source-value, ready-value}
use Rattle.hw_search_sources.specs.MadeFor.{IsMadeFor}
use Rattle.hw_search_sources.proofs.Props.{push_source, each_once}
use Rattle.hw_search_sources.proofs.any.propagators.Goals as goal

pub loop-source-preserved : goal.loop-source-preserved
loop-source-preserved c = record {
  sources = push_source source-value.it c.loop-source.props.items c.push.new.self.items c.in_ok-one.one c.deref-source-items.result.now c.loop-source.source-index _ c.loop-source-test.true c.in_ok-push.ensures.items c.in_ok-one.ensures.source c.loop-source.invariant.sources;
  ready = All-same (λ one. ready-value.it one c.args.flat.now (whole_room (shape_of c.args.flat.now))) c.push.new.self.items _ c.in_ok-push.ensures.items (All-push (λ one. ready-value.it one c.args.flat.now (whole_room (shape_of c.args.flat.now))) c.loop-source.props.items c.in_ok-one.one c.loop-source.invariant.ready c.in_ok-one.ensures.ready);
  kinds = All-same (λ one. IsMadeFor c.args.flat.now (source-value.it one) one) c.push.new.self.items _ c.in_ok-push.ensures.items (All-push (λ one. IsMadeFor c.args.flat.now (source-value.it one) one) c.loop-source.props.items c.in_ok-one.one c.loop-source.invariant.kinds (subst (λ s. IsMadeFor c.args.flat.now s c.in_ok-one.one) (sym c.in_ok-one.ensures.source) c.in_ok-one.ensures.kind));
}

pub returns-clause-order : goal.returns-clause-order
returns-clause-order c =
    let e : c.loop-source.source-index ≡ length c.deref-source-items.result.now = omega arith in
    let all = c.loop-source.invariant.sources ∙ ap (λ (n : ℕ). take n c.deref-source-items.result.now) e ∙ take-length c.deref-source-items.result.now ∙ c.deref-source-items.ensures.value in
    subst (AreSourcesOf c.args.flat.now) (sym all) c.in_ok-list.ensures

pub returns-clause-sources : goal.returns-clause-sources
returns-clause-sources c =
    let e : c.loop-source.source-index ≡ length c.deref-source-items.result.now = omega arith in
    let all = c.loop-source.invariant.sources ∙ ap (λ (n : ℕ). take n c.deref-source-items.result.now) e ∙ take-length c.deref-source-items.result.now ∙ c.deref-source-items.ensures.value in
    subst (EachSourceOnce c.args.flat.now) (sym all) (each_once c.args.flat.now c.in_ok-list.list.items c.in_ok-list.ensures)
