use Rattle.std.proofs.lemmas.Result.{err_from_is_err_and}
use Rattle.hw_search.specs.Askings.{SourcesQuiet}
use Rattle.hw_search.proofs.Steps.{implies_more, left_less, as_cut, as_conflict, as_quiet, gains_more}
use Rattle.hw_search.proofs.Settlings.{store_fails, store_quiet, settles_conflict, settles_quiet}
use Rattle.hw_search.proofs.engine.Engine.settle.Goals as goal

pub returns-in_err-why : goal.returns-in_err-why
returns-in_err-why g c =
    let p = err_from_is_err_and c.from_residual.result c.from_residual.ensures.1 in
    record { meets = rw p.1 (implies_more _ _ _ c.loop-why.invariant c.in_err-why.ensures.meets) }

pub returns-in-Some : goal.returns-in-Some
returns-in-Some g c = record { meets = settles_conflict _ _ _ c.in-Some.why c.loop-why.invariant (store_fails c.loop-why.self.search c.ask_store.new.self.search c.in_ok-why.field-0 c.in-Some.why c.in-Some.is c.in_ok-why.ensures.meets) }

pub returns-in_err-ask_round : goal.returns-in_err-ask_round
returns-in_err-ask_round g c =
    let p = err_from_is_err_and c.from_residual-in_err-ask_round.result c.from_residual-in_err-ask_round.ensures.1 in
    let m = store_quiet c.loop-why.self.search c.ask_store.new.self.search c.in_ok-why.field-0 c.in_default.is c.in_ok-why.ensures.meets in
    record { meets = rw p.1 (implies_more _ _ _ (implies_more _ _ _ c.loop-why.invariant m.0.implies) c.in_err-ask_round.ensures.meets) }

pub returns-in-Quiet : goal.returns-in-Quiet
returns-in-Quiet g c =
    let m = store_quiet c.loop-why.self.search c.ask_store.new.self.search c.in_ok-why.field-0 c.in_default.is c.in_ok-why.ensures.meets in
    let q = as_quiet (SourcesQuiet c.ask_round.new.self.search) c.ask_store.new.self.search c.ask_round.new.self.search c.in_ok-ask_round.field-0 c.in-Quiet.is c.in_ok-ask_round.ensures.meets in
    record { meets = settles_quiet _ c.ask_store.new.self.search c.ask_round.new.self.search (implies_more _ _ _ c.loop-why.invariant m.0.implies) m.1 q }

pub loop-why-smaller : goal.loop-why-smaller
loop-why-smaller g c =
    let m = store_quiet c.loop-why.self.search c.ask_store.new.self.search c.in_ok-why.field-0 c.in_default.is c.in_ok-why.ensures.meets in
    let q = as_cut (SourcesQuiet c.ask_round.new.self.search) c.ask_store.new.self.search c.ask_round.new.self.search c.in_ok-ask_round.field-0 c.in-Cut.is c.in_ok-ask_round.ensures.meets in
    left_less c.loop-why.self.search c.ask_round.new.self.search (gains_more _ _ _ m.0.implies q)

pub loop-why-preserved : goal.loop-why-preserved
loop-why-preserved g c =
    let m = store_quiet c.loop-why.self.search c.ask_store.new.self.search c.in_ok-why.field-0 c.in_default.is c.in_ok-why.ensures.meets in
    let q = as_cut (SourcesQuiet c.ask_round.new.self.search) c.ask_store.new.self.search c.ask_round.new.self.search c.in_ok-ask_round.field-0 c.in-Cut.is c.in_ok-ask_round.ensures.meets in
    implies_more _ _ _ c.loop-why.invariant (implies_more _ _ _ m.0.implies q.goes.implies)

pub returns-in-Conflict : goal.returns-in-Conflict
returns-in-Conflict g c =
    let m = store_quiet c.loop-why.self.search c.ask_store.new.self.search c.in_ok-why.field-0 c.in_default.is c.in_ok-why.ensures.meets in
    let q = as_conflict (SourcesQuiet c.ask_round.new.self.search) c.ask_store.new.self.search c.ask_round.new.self.search c.in_ok-ask_round.field-0 c.in-Conflict.why c.in-Conflict.is c.in_ok-ask_round.ensures.meets in
    record { meets = settles_conflict _ _ _ c.in-Conflict.why (implies_more _ _ _ c.loop-why.invariant m.0.implies) q }
