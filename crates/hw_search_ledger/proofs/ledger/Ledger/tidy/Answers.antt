use Rattle.std.proofs.Common.{◌≡◌, ◌++◌, ◌∷◌, [], length, sym, ◌∙◌, subst, inl, inr}
use Rattle.std.specs.Prelude.{Err}
use Rattle.hw_cert.specs.declared.log.LogStop.TheVariants as stops
use Rattle.hw_search_ledger.specs.Dropped.{IsLeftOver}
use Rattle.hw_search_ledger.specs.GoingBack.{TidiesBy}
use Rattle.hw_search_ledger.specs.Ledgers.{LedgerModel}
use Rattle.hw_search_ledger.proofs.Tidying.{at_err, at_ok, tidies_none, tidies_by}
use Rattle.hw_search_ledger.proofs.ledger.Ledger.tidy.Goals as goal

pub returns-then-is_err-clause-tidies : goal.returns-then-is_err-clause-tidies
returns-then-is_err-clause-tidies g c =
    let held = g.S.Store.clauses c.args.store.now in
    let now = g.S.Store.clauses c.add.new.self in
    let log = g.L.Log.state c.args.log.now in
    let events = length c.args.trail.now.events in
    subst (λ (l : LedgerModel). TidiesBy {A = Unit {0}} l events c.args.written held (Err stops.NoMemory) now log log) c.self.view_is
    (tidies_none (Unit {0}) held now (record { number = c.self.inside.clause_lines; clause = c.args.written.lemma }) c.self.inside.written.items events c.args.written.conflict log
    (inr (at_err c.add.result (now ≡ held) (sym c.is_err.ensures.value ∙ c.if-is_err.true) c.add.ensures.same)) c.requires.whole)

pub returns-in_default-clause-tidies : goal.returns-in_default-clause-tidies
returns-in_default-clause-tidies g c =
    let held = g.S.Store.clauses c.args.store.now in
    let now = g.S.Store.clauses c.add.new.self in
    let log = g.L.Log.state c.args.log.now in
    let events = length c.args.trail.now.events in
    subst (λ (l : LedgerModel). TidiesBy {A = Unit {0}} l events c.args.written held (Err stops.NoMemory) now log log) c.self.view_is
    (tidies_none (Unit {0}) held now (record { number = c.self.inside.clause_lines; clause = c.args.written.lemma }) c.self.inside.written.items events c.args.written.conflict log
    (inl (at_ok c.add.result (now ≡ held ++ record { number = c.self.inside.clause_lines; clause = c.args.written.lemma } ∷ []) (sym c.is_err.ensures.value ∙ c.if-is_err.false) c.add.ensures.added)) c.requires.whole)

pub returns-clause-tidies : goal.returns-clause-tidies
returns-clause-tidies g c =
    let held = g.S.Store.clauses c.args.store.now in
    let now = g.S.Store.clauses c.add.new.self in
    let log = g.L.Log.state c.args.log.now in
    let new = g.L.Log.state c.hand_deletion.new.log in
    let events = length c.args.trail.now.events in
    let ids = c.in-Ok.ids.items in
    let left = subst (λ xs. IsLeftOver now xs c.len-keep.result c.args.written.conflict ids) c.deref.ensures.value c.in-Ok.ensures.left in
    subst (λ (l : LedgerModel). TidiesBy {A = Unit {0}} l events c.args.written held c.hand_deletion.result now log new) c.self.view_is
    (tidies_by held now (record { number = c.self.inside.clause_lines; clause = c.args.written.lemma }) c.self.inside.written.items events c.args.written.conflict ids log new c.hand_deletion.result
    (at_ok c.add.result (now ≡ held ++ record { number = c.self.inside.clause_lines; clause = c.args.written.lemma } ∷ []) (sym c.is_err.ensures.value ∙ c.if-is_err.false) c.add.ensures.added)
    (subst (λ k. IsLeftOver now c.self.inside.written.items k c.args.written.conflict ids) c.len-keep.ensures.value left)
    c.hand_deletion.ensures.takes c.hand_deletion.ensures.stops)
