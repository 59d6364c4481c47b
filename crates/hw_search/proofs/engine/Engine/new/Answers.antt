use Rattle.std.proofs.Common.{◌≡◌, true, List, map, length, replicate, ap, ◌∙◌, sym, subst, arith}
use Rattle.std.specs.Prelude.{All, Contains, slice_get, Some}
use Rattle.std.proofs.lemmas.List.{length-map}
use Rattle.std.proofs.lemmas.List.Elements.{All-map, All-weaker}
use Rattle.hw_model.specs.declared.shape.Shape.{Shape}
use Rattle.hw_model.specs.declared.source.Source.{Source}
use Rattle.hw_model.specs.declared.source.Source.TheVariants.{Goal}
use Rattle.hw_model.specs.Problem.{shape_of}
use Rattle.hw_model.specs.Refuting.{IsSourceOf}
use Rattle.hw_model.specs.Rooms.{whole_room}
use Rattle.hw_trail_laws.specs.Trails.{TrailModel, room_of, most_events}
use Rattle.hw_search.specs.Prices.{prices_of}
use Rattle.hw_search_sources.specs.Speaking.{TellsSpeakers}
use Rattle.hw_search.proofs.Kept.{kept_new}
use Rattle.hw_search.proofs.engine.Engine.new.Goals as goal

pub goal_of-goal-requires : goal.goal_of-goal-requires
goal_of-goal-requires g c =
    let same = c.deref-2.ensures.value ∙ c.in_ok-sources.ensures.value ∙ ap (map g.P.Propagator.source) c.deref.ensures.value in
    let P : List Source → Type 0 = λ xs. Contains xs Goal in
    record { there = subst P (sym same) (c.requires.sources.each Goal tt) }

pub new-requires-3 : goal.new-requires-3
new-requires-3 g c =
    let same = c.deref-3.ensures.value ∙ c.in_ok-sources.ensures.value ∙ ap (map g.P.Propagator.source) c.deref.ensures.value in
    let P : List Source → Type 0 = All (IsSourceOf c.args.flat.now) in
    let ready = λ (one : g.row.P.Denot). g.P.Propagator.ready one c.args.flat.now (whole_room (shape_of c.args.flat.now)) in
    let named = λ (one : g.row.P.Denot). IsSourceOf c.args.flat.now (g.P.Propagator.source one) in
    let each = All-weaker ready named (λ one h. g.met.P.Propagator.serves_source one c.args.flat.now (g.met.P.Propagator.ready_serves one c.args.flat.now (whole_room (shape_of c.args.flat.now)) h)) c.args.props.items c.requires.ready in
    record { sources = subst P (sym same) (All-map (IsSourceOf c.args.flat.now) g.P.Propagator.source c.args.props.items each) }

pub invariant_of-result : goal.invariant_of-result
invariant_of-result g c =
    let same = c.in_ok-sources.ensures.value ∙ ap (map g.P.Propagator.source) c.deref.ensures.value in
    let ready = λ (one : g.row.P.Denot). g.P.Propagator.ready one c.args.flat.now (whole_room (shape_of c.args.flat.now)) in
    let serves = λ (one : g.row.P.Denot). g.P.Propagator.serves one c.args.flat.now in
    let named = λ (one : g.row.P.Denot). IsSourceOf c.args.flat.now (g.P.Propagator.source one) in
    let all = All-weaker ready serves (λ one h. g.met.P.Propagator.ready_serves one c.args.flat.now (whole_room (shape_of c.args.flat.now)) h) c.args.props.items c.requires.ready in
    let of = All-map (IsSourceOf c.args.flat.now) g.P.Propagator.source c.args.props.items (All-weaker serves named (λ one h. g.met.P.Propagator.serves_source one c.args.flat.now h) c.args.props.items all) in
    let tells = subst (λ xs. TellsSpeakers c.args.flat.now xs c.in_ok-speakers.speakers) (c.deref-3.ensures.value ∙ same) c.in_ok-speakers.ensures.tells in
    let at = subst (λ xs. slice_get xs c.goal_of-goal.result ≡ Some Goal) (c.deref-2.ensures.value ∙ same) c.goal_of-goal.ensures.value in
    let most : most_events c.args.flat.now.ships c.args.flat.now.slots ≡ most_events c.shape-shape.result.ships c.shape-shape.result.slots = ap (λ (s : Shape). most_events s.ships s.slots) (sym c.shape-shape.ensures.value) in
    let room = c.in_ok-ledger.ensures.reserved in
    let count : c.len.result ≡ length (map g.P.Propagator.source c.args.props.items) = omega (arith, c.len.ensures, c.args.props.ok.0, length-map c.args.props.items g.P.Propagator.source) in
    let marks : c.in_ok-marks.marks ≡ replicate (length (map g.P.Propagator.source c.args.props.items)) true = c.in_ok-marks.ensures.value ∙ ap (λ n. replicate n true) count in (
      kept_new c.args.flat.now c.args.branching (map g.P.Propagator.source c.args.props.items) _ _ c.in_ok-trail.trail (g.S.Store.clauses c.args.store) c.in_ok-ledger.ledger (prices_of c.none.result) c.in_ok-marks.marks c.shape-shape.ensures.limits c.requires.sources of tells at (omega (arith, most, room)) c.in_ok-trail.ensures.value c.requires.empty c.in_ok-ledger.ensures.written c.in_ok-ledger.ensures.clause_lines c.none.ensures.value marks,
      c.requires.ships,
      subst (λ (t : TrailModel). g.S.Store.ready c.args.store (room_of t)) (sym c.in_ok-trail.ensures.value) c.requires.right,
      all,
    )
