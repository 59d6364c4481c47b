use Rattle.std.proofs.Common.{length, ap, subst, arith}
use Rattle.hw_search.specs.Engines.{EngineModel}
use Rattle.hw_search_sources.specs.Marks.{AllClear}
use Rattle.hw_search.proofs.Rounds.{sources_quiet, kept_same}
use Rattle.hw_search.proofs.engine.Engine.next_marked.Goals as goal

pub next-requires : goal.next-requires
next-requires g c = record { within = omega (arith, c.requires.within, c.self.invariant.0.each_mark, ap (λ (e : EngineModel). length e.sources) c.self.view_is) }

pub invariant_of-self : goal.invariant_of-self
invariant_of-self g c = (
  kept_same _ _ _ _ _ c.next.new.self c.self.invariant.0 c.next.ensures.same,
  c.self.invariant.1,
  c.self.invariant.2,
  c.self.invariant.3,
)

pub returns-clause-quiet : goal.returns-clause-quiet
returns-clause-quiet g c = λ clear. sources_quiet _ _ _ _ _ c.self.invariant.0 (subst AllClear c.next.ensures.same clear)
