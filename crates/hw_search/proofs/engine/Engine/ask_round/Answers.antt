use Rattle.std.proofs.Common.{◌∙◌, length, sym, ap, subst, arith}
use Rattle.std.proofs.lemmas.Result.{err_from_is_err_and}
use Rattle.hw_search_laws.specs.Settling.{Implies}
use Rattle.hw_search.specs.Askings.{Gains, AskingFails}
use Rattle.hw_search.specs.Engines.{EngineModel}
use Rattle.hw_search_sources.specs.Marks.{ClearWithin}
use Rattle.hw_search.proofs.Steps.{implies_more, fails_more, gains_more, as_cut, as_conflict}
use Rattle.hw_search.proofs.Rounds.{less_left, clear_joined}
use Rattle.hw_search.proofs.engine.Engine.ask_round.Goals as goal

pub returns-in_err-ask-clause-meets : goal.returns-in_err-ask-clause-meets
returns-in_err-ask-clause-meets g c =
    let p = err_from_is_err_and c.from_residual.result c.from_residual.ensures.1 in
    rw p.1 (implies_more _ _ _ c.loop-place.invariant.implies (subst (λ (e : EngineModel). Implies e.search c.ask.new.self.search) c.next_marked.ensures.same c.in_err-ask.ensures.meets))

pub loop-place-smaller : goal.loop-place-smaller
loop-place-smaller g c =
    let m = subst (λ (e : EngineModel). Gains e.search c.ask.new.self.search) c.next_marked.ensures.same (as_cut _ c.next_marked.new.self.search c.ask.new.self.search c.in_ok-ask.field-0 c.in-Cut.is c.in_ok-ask.ensures.meets) in
    less_left c.loop-place.self.search c.ask.new.self.search c.ask.new.self.sources c.loop-place.self.sources c.loop-place.from c.in-Some.place m (c.ask.ensures.sources ∙ ap (λ (e : EngineModel). e.sources) c.next_marked.ensures.same) c.in-Some.ensures.next.0

pub loop-place-preserved : goal.loop-place-preserved
loop-place-preserved g c =
    let m = subst (λ (e : EngineModel). Gains e.search c.ask.new.self.search) c.next_marked.ensures.same (as_cut _ c.next_marked.new.self.search c.ask.new.self.search c.in_ok-ask.field-0 c.in-Cut.is c.in_ok-ask.ensures.meets) in
    record {
      sources = c.ask.ensures.sources ∙ ap (λ (e : EngineModel). e.sources) c.next_marked.ensures.same ∙ c.loop-place.invariant.sources;
      within = omega (arith, c.in-Some.ensures.next.1, c.next_marked.ensures.each, ap length c.ask.ensures.sources);
      implies = implies_more _ _ _ c.loop-place.invariant.implies m.goes.implies;
      still = λ e. absurd cc;
      gains = λ e. gains_more _ _ _ c.loop-place.invariant.implies m;
    }

pub returns-in-Conflict-clause-meets : goal.returns-in-Conflict-clause-meets
returns-in-Conflict-clause-meets g c =
    fails_more _ _ _ _ c.loop-place.invariant.implies (subst (λ (e : EngineModel). AskingFails e.search c.ask.new.self.search c.in-Conflict.why) c.next_marked.ensures.same (as_conflict _ c.next_marked.new.self.search c.ask.new.self.search c.in_ok-ask.field-0 c.in-Conflict.why c.in-Conflict.is c.in_ok-ask.ensures.meets))

pub returns-else-cut-clause-meets : goal.returns-else-cut-clause-meets
returns-else-cut-clause-meets g c =
    let still = c.loop-place.invariant.still c.if-cut.false in
    let first = subst (λ (e : EngineModel). ClearWithin e.marks 0 c.loop-place.from) (sym c.next_marked.ensures.same) still.1 in (
      ap (λ (e : EngineModel). e.search) c.next_marked.ensures.same ∙ still.0,
      c.next_marked.ensures.search,
      c.next_marked.ensures.quiet (clear_joined c.next_marked.new.self.marks c.loop-place.from (length c.next_marked.new.self.marks) first c.in_default.ensures.next),
    )

pub overflow_add-from : goal.overflow_add-from
overflow_add-from g c = omega (arith, c.in-Some.ensures.next.1, c.next_marked.ensures.each, c.next_marked.ensures.few)
