use Rattle.std.proofs.Common.{◌≡◌, Some, subst, sym}
use Rattle.hw_model.specs.Rooms.{RoomFits}
use Rattle.hw_trail_laws.specs.Trails.{room_of}
use Rattle.hw_search_laws.specs.Branches.{branch_literal}
use Rattle.hw_search_laws.specs.Searches.{IsSearch}
use Rattle.hw_search_laws.specs.Starting.{Branches}
use Rattle.hw_search.specs.Engines.{EngineModel}
use Rattle.hw_search.proofs.Kept.{room_here}
use Rattle.hw_search.proofs.Turns.{branch_here}
use Rattle.hw_search.proofs.engine.Engine.branch.Goals as goal

pub branch-self-requires-clause-room : goal.branch-self-requires-clause-room
branch-self-requires-clause-room g c = subst (RoomFits c.self.inside.flat.now) (sym c.room.ensures.value) (room_here _ c.self.invariant.0.search)

pub returns-clause-open : goal.returns-clause-open
returns-clause-open g c =
    let s = c.args.self.now.search in
    let lit = c.branch-self.result in
    let is : IsSearch s = subst (λ (e : EngineModel). IsSearch e.search) c.self.view_is c.self.invariant.0.search in
    let value : branch_literal c.self.inside.branching c.self.inside.flat.now (room_of c.self.inside.trail) ≡ Some lit = subst (λ r. branch_literal c.self.inside.branching c.self.inside.flat.now r ≡ Some lit) c.room.ensures.value c.branch-self.ensures.value in
    branch_here s lit is c.requires.wide (subst (λ (e : EngineModel). Branches e.search lit) c.self.view_is value)
