use Rattle.std.proofs.Common.{◌∙◌}
use Rattle.std.proofs.lemmas.Result.{err_from_is_err_and}
use Rattle.hw_search.specs.Askings.{LemmasQuiet}
use Rattle.hw_search.proofs.Steps.{implies_more, fails_more, left_less, as_cut, as_conflict}
use Rattle.hw_search.proofs.engine.Engine.ask_store.Goals as goal

pub returns-in_err-look-clause-meets : goal.returns-in_err-look-clause-meets
returns-in_err-look-clause-meets g c =
    let p = err_from_is_err_and c.from_residual.result c.from_residual.ensures.1 in
    rw p.1 (implies_more _ _ _ c.loop-why.invariant.goes c.in_err-look.ensures.meets)

pub loop-why-smaller : goal.loop-why-smaller
loop-why-smaller g c =
    left_less c.loop-why.self.search c.look.new.self.search (as_cut (LemmasQuiet c.look.new.self.search) c.loop-why.self.search c.look.new.self.search c.in_ok-look.field-0 c.in-Cut.is c.in_ok-look.ensures.meets)

pub loop-why-preserved : goal.loop-why-preserved
loop-why-preserved g c =
    let m = as_cut (LemmasQuiet c.look.new.self.search) c.loop-why.self.search c.look.new.self.search c.in_ok-look.field-0 c.in-Cut.is c.in_ok-look.ensures.meets in
    record { goes = implies_more _ _ _ c.loop-why.invariant.goes m.goes.implies; sources = c.look.ensures.sources ∙ c.loop-why.invariant.sources }

pub returns-in-Conflict-clause-meets : goal.returns-in-Conflict-clause-meets
returns-in-Conflict-clause-meets g c =
    fails_more _ _ _ _ c.loop-why.invariant.goes (as_conflict (LemmasQuiet c.look.new.self.search) c.loop-why.self.search c.look.new.self.search c.in_ok-look.field-0 c.in-Conflict.why c.in-Conflict.is c.in_ok-look.ensures.meets)
