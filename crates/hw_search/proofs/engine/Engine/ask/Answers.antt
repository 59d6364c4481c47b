use Rattle.std.proofs.Common.{◌≡◌, map, length, ap, ◌∙◌, sym, subst, arith}
use Rattle.hw_model.specs.Problem.{Problem, shape_of}
use Rattle.hw_model.specs.Rooms.{RoomModel, IsRoomOf}
use Rattle.hw_lits.specs.declared.found.Found.TheVariants as founds
use Rattle.std.specs.Prelude.{slice_get}
use Rattle.hw_search.specs.Engines.{EngineModel}
use Rattle.hw_search.proofs.Askings.{asked_sources, asked_serve, source_there, place_in, found_here, kept_asked, kept_cleared, clause_here, source_reason}
use Rattle.hw_search.proofs.Kept.{room_here}
use Rattle.hw_search.proofs.engine.Engine.ask.Goals as goal

pub ask_at-requires-clause-room : goal.ask_at-requires-clause-room
ask_at-requires-clause-room g c =
    let f : Problem = c.self.inside.flat.now in
    let P : RoomModel → Type 0 = IsRoomOf (shape_of f) in
    subst P (sym c.room.ensures.value) (room_here _ c.self.invariant.0.search)

pub invariant_of-self : goal.invariant_of-self
invariant_of-self g c =
    let lent = c.deref_mut.ensures.value in
    let n : c.self.inside.props.len ≡ length c.ask_at.new.props = omega (arith, c.self.inside.props.ok.0, ap length lent, c.ask_at.auto.props) in
    let serves = λ (one : g.row.P.Denot). g.P.Propagator.serves one c.self.inside.flat.now in (
      kept_asked _ _ _ _ _ _ c.self.invariant.0 (asked_sources g.P.Propagator.source c.self.inside.props.len c.self.inside.props.items c.deref_mut.result.now c.ask_at.new.props n lent c.ask_at.ensures.sources),
      c.self.invariant.1,
      c.self.invariant.2,
      asked_serve serves c.self.inside.props.len c.self.inside.props.items c.ask_at.new.props n c.ask_at.ensures.serve,
    )

pub invariant_of-self-in-Quiet : goal.invariant_of-self-in-Quiet
invariant_of-self-in-Quiet g c =
    let lent = c.deref_mut.ensures.value in
    let k = c.self.invariant.0 in
    let source = c.source-source.result in
    let n : c.self.inside.props.len ≡ length c.ask_at.new.props = omega (arith, c.self.inside.props.ok.0, ap length lent, c.ask_at.auto.props) in
    let serves = λ (one : g.row.P.Denot). g.P.Propagator.serves one c.self.inside.flat.now in
    let lt = place_in g.P.Propagator.source c.self.inside.props.items c.args.self.now.sources c.args.place (ap (λ (e : EngineModel). e.sources) c.self.view_is) c.requires.inside in
    let at = source_there g.P.Propagator.source c.self.inside.props.items c.args.place c.index.result.now c.source-source.result lt c.index.ensures c.source-source.ensures.value in
    let lent_at = ap (λ xs. slice_get (map g.P.Propagator.source xs) c.args.place) lent ∙ at in
    let calm = found_here c.self.inside.flat.now c.source-source.result c.self.inside.best.worth _ c.room.result.now _ c.in_ok-found.found founds.Quiet k.worth_is c.room.ensures.value c.in-Quiet.is (c.in_ok-found.ensures.found c.source-source.result lent_at) in (
      kept_asked _ _ _ _ _ _ (kept_cleared _ _ _ _ _ c.args.place c.source-source.result c.clear.new.self k at calm c.clear.ensures.value) (asked_sources g.P.Propagator.source c.self.inside.props.len c.self.inside.props.items c.deref_mut.result.now c.ask_at.new.props n lent c.ask_at.ensures.sources),
      c.self.invariant.1,
      c.self.invariant.2,
      asked_serve serves c.self.inside.props.len c.self.inside.props.items c.ask_at.new.props n c.ask_at.ensures.serve,
    )

pub invariant_of-self-in-Clause : goal.invariant_of-self-in-Clause
invariant_of-self-in-Clause g c =
    let lent = c.deref_mut.ensures.value in
    let n : c.self.inside.props.len ≡ length c.ask_at.new.props = omega (arith, c.self.inside.props.ok.0, ap length lent, c.ask_at.auto.props) in
    let serves = λ (one : g.row.P.Denot). g.P.Propagator.serves one c.self.inside.flat.now in (
      kept_asked _ _ _ _ _ _ c.self.invariant.0 (asked_sources g.P.Propagator.source c.self.inside.props.len c.self.inside.props.items c.deref_mut.result.now c.ask_at.new.props n lent c.ask_at.ensures.sources),
      c.self.invariant.1,
      c.self.invariant.2,
      asked_serve serves c.self.inside.props.len c.self.inside.props.items c.ask_at.new.props n c.ask_at.ensures.serve,
    )

pub take-requires-clause-reason : goal.take-requires-clause-reason
take-requires-clause-reason g c =
    let lent = c.deref_mut.ensures.value in
    let k = c.self.invariant.0 in
    let lt = place_in g.P.Propagator.source c.self.inside.props.items c.args.self.now.sources c.args.place (ap (λ (e : EngineModel). e.sources) c.self.view_is) c.requires.inside in
    let at = source_there g.P.Propagator.source c.self.inside.props.items c.args.place c.index.result.now c.source-source.result lt c.index.ensures c.source-source.ensures.value in
    let lent_at = ap (λ xs. slice_get (map g.P.Propagator.source xs) c.args.place) lent ∙ at in
    let x = clause_here c.self.inside.flat.now c.source-source.result c.self.inside.best.worth _ c.room.result.now _ c.in_ok-found.found c.in-Clause.clause k.worth_is c.room.ensures.value c.in-Clause.is (c.in_ok-found.ensures.found c.source-source.result lent_at) in
    source_reason _ _ c.args.place c.source-source.result c.in-Clause.clause k.search k.of_problem at x
