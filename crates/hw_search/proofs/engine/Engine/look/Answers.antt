use Rattle.std.proofs.Common.{sym, subst}
use Rattle.hw_model.specs.Rooms.{RoomModel}
use Rattle.hw_store.specs.declared.store.Stored.{Stored}
use Rattle.hw_lits.specs.Active.{IsActive}
use Rattle.hw_store.specs.Stores.{FindsStored, IsNotHeld}
use Rattle.hw_trail_laws.specs.Trails.{reason_clause}
use Rattle.hw_search_laws.specs.Searches.{IsSearch}
use Rattle.hw_search.specs.Engines.{EngineModel}
use Rattle.hw_search.specs.Askings.{IsHeldWhy}
use Rattle.std.specs.Prelude.{List}
use Rattle.hw_search.proofs.Lemmas.{held_fits, held_active, held_reason, held_unpriced, held_there, all_quiet, same_stored}
use Rattle.hw_search.proofs.engine.Engine.look.Goals as goal

pub take-requires-clause-fits : goal.take-requires-clause-fits
take-requires-clause-fits g c = held_fits _ _ c.in-Clause.id c.in_ok-why-in-Clause.why c.self.invariant.0.search c.in_ok-step.ensures.same c.in_ok-why-in-Clause.ensures.held

pub take-requires-clause-active : goal.take-requires-clause-active
take-requires-clause-active g c =
    let f = c.in_ok-step.ensures in
    let P : List Stored → Type 0 = λ held. IsHeldWhy held c.in-Clause.id c.in_ok-why-in-Clause.why in
    let found = subst (FindsStored (g.S.Store.clauses c.self.inside.store) c.room.result.now) c.in-Clause.is f.found in
    let Q : RoomModel → Type 0 = IsActive (reason_clause c.in_ok-why-in-Clause.why) in
    subst Q c.room.ensures.value (held_active (g.S.Store.clauses c.self.inside.store) c.in-Clause.id c.room.result.now c.in_ok-why-in-Clause.why found (subst P f.same c.in_ok-why-in-Clause.ensures.held))

pub take-requires-clause-reason : goal.take-requires-clause-reason
take-requires-clause-reason g c = held_reason _ (g.S.Store.clauses c.step.new.self) c.in-Clause.id c.in_ok-why-in-Clause.why c.self.invariant.0.search c.in_ok-why-in-Clause.ensures.held

pub take-requires-clause-unpriced : goal.take-requires-clause-unpriced
take-requires-clause-unpriced g c = held_unpriced (g.S.Store.clauses c.step.new.self) c.in-Clause.id c.in_ok-why-in-Clause.why c.in_ok-why-in-Clause.ensures.held

pub lemma_of-requires : goal.lemma_of-requires
lemma_of-requires g c =
    let f = c.in_ok-step.ensures in
    let found = subst (FindsStored (g.S.Store.clauses c.self.inside.store) c.room.result.now) c.in-Clause.is f.found in
    let P : List Stored → Type 0 = λ held. IsNotHeld held c.in-Clause.id in
    record { held = λ none. held_there (g.S.Store.clauses c.self.inside.store) c.in-Clause.id c.room.result.now found (subst P f.same none) }

pub returns-in-Quiet-clause-meets : goal.returns-in-Quiet-clause-meets
returns-in-Quiet-clause-meets g c =
    let f = c.in_ok-step.ensures in
    let found = subst (FindsStored (g.S.Store.clauses c.self.inside.store) c.room.result.now) c.in-Quiet.is f.found in
    let same = same_stored _ _ _ f.same c.self.view_is in
    let was = subst (λ (e : EngineModel). IsSearch e.search) c.self.view_is c.self.invariant.0.search in (
      same,
      subst IsSearch (sym same) was,
      all_quiet (g.S.Store.clauses c.step.new.self) (g.S.Store.clauses c.self.inside.store) c.room.result.now _ f.same c.room.ensures.value found,
    )
