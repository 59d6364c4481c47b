use Rattle.std.proofs.Common.{◌≡◌, ℕ, Some, IsTrue, rules}
use Rattle.hw_model.specs.Timetables.{Permits, cargo, beats}
use Rattle.hw_search_laws.specs.Searches.{best_cargo}
use Rattle.hw_search.specs.Engines.{EngineModel}
use Rattle.hw_search.proofs.Kept.{of_view}
use Rattle.hw_search.proofs.Turns.{kept_better}
use Rattle.hw_search.proofs.engine.Engine.take_best.Goals as goal

pub invariant_of-self : goal.invariant_of-self
invariant_of-self g c =
    let p = of_view _ _ (λ (e : EngineModel). Permits e.search.problem c.args.table) c.self.view_is c.requires.permitted in
    let b = of_view _ _ (λ (e : EngineModel). (n : ℕ) × (cargo e.search.problem c.args.table ≡ Some n) × IsTrue (beats n (best_cargo e.search))) c.self.view_is c.requires.better in (
      kept_better _ _ _ _ _ c.args.table _ _ c.self.invariant.0 p b.0 b.1 b.2 c.cargo-worth.ensures.value (search rules),
      c.self.invariant.1,
      c.self.invariant.2,
      c.self.invariant.3,
    )
