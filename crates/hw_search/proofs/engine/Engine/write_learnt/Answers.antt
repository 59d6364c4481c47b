use Rattle.std.proofs.Common.{◌≤◌, map, length, refl, ap, ◌∙◌, arith}
use Rattle.hw_search_ledger.specs.Ledgers.{LedgerModel}
use Rattle.hw_search.proofs.Faults.{stop_keeps}
use Rattle.hw_search.proofs.Learnt.{Gone, places_here, few_here, sources_here, source_here, lemma_stopped_here, wrote, ended_here, level_here, lits_back, above_here, whole_here, back_search, back_stopped, back_meets, stopped_meets}
use Rattle.hw_search.proofs.Lessons.{goal_marked, kept_back}
use Rattle.hw_search.proofs.engine.Engine.write_learnt.Goals as goal

pub write_lemma-wrote-requires-clause-places_in : goal.write_lemma-wrote-requires-clause-places_in
write_lemma-wrote-requires-clause-places_in g c = places_here _ _ c.args.why.now c.args.learnt c.self.view_is c.requires.teaches

pub write_lemma-wrote-requires-clause-few : goal.write_lemma-wrote-requires-clause-few
write_lemma-wrote-requires-clause-few g c = few_here _ _ c.args.why.now c.args.learnt c.self.view_is c.requires.teaches c.requires.few

pub write_lemma-wrote-requires-clause-sources : goal.write_lemma-wrote-requires-clause-sources
write_lemma-wrote-requires-clause-sources g c = sources_here _ c.self.invariant.0.search

pub write_lemma-wrote-requires-clause-source : goal.write_lemma-wrote-requires-clause-source
write_lemma-wrote-requires-clause-source g c = source_here _ _ c.args.why.now c.args.learnt c.self.view_is c.requires.teaches

pub returns-then-len-eq0-clause-turns : goal.returns-then-len-eq0-clause-turns
returns-then-len-eq0-clause-turns g c =
    let old = g.L.Log.state c.args.log.now in
    let mid = g.L.Log.state c.write_lemma-wrote.new.log in
    let w = wrote _ _ c.args.why.now c.args.learnt c.self.inside.ledger.reserved c.write_lemma-wrote.new.self c.in-Ok.written old mid c.self.view_is c.requires.teaches c.in-Ok.ensures.lines c.in-Ok.ensures.writes in
    ended_here _ _ c.args.why.now c.args.learnt c.write_lemma-wrote.new.self c.in-Ok.written old mid c.self.view_is w (omega (arith, c.if-len-eq0.true, c.len.ensures.value))

pub go_back-gone-requires-clause-level : goal.go_back-gone-requires-clause-level
go_back-gone-requires-clause-level g c =
    let old = g.L.Log.state c.args.log.now in
    let mid = g.L.Log.state c.write_lemma-wrote.new.log in
    let w = wrote _ _ c.args.why.now c.args.learnt c.self.inside.ledger.reserved c.write_lemma-wrote.new.self c.in-Ok.written old mid c.self.view_is c.requires.teaches c.in-Ok.ensures.lines c.in-Ok.ensures.writes in
    omega (arith, level_here _ c.args.why.now c.args.learnt c.write_lemma-wrote.new.self c.in-Ok.written old mid c.next_level-level.new.restarts c.next_level-level.new.since c.next_level-level.result w (omega (arith, c.if-len-eq0.false, c.len.ensures.value)) c.next_level-level.ensures.next)

pub go_back-gone-requires-clause-each_event : goal.go_back-gone-requires-clause-each_event
go_back-gone-requires-clause-each_event g c = c.write_lemma-wrote.ensures.gives.long ∙ c.self.invariant.0.search.each_event

pub go_back-gone-requires-clause-lits : goal.go_back-gone-requires-clause-lits
go_back-gone-requires-clause-lits g c =
    let old = g.L.Log.state c.args.log.now in
    let mid = g.L.Log.state c.write_lemma-wrote.new.log in
    let w = wrote _ _ c.args.why.now c.args.learnt c.self.inside.ledger.reserved c.write_lemma-wrote.new.self c.in-Ok.written old mid c.self.view_is c.requires.teaches c.in-Ok.ensures.lines c.in-Ok.ensures.writes in
    lits_back _ c.args.why.now c.args.learnt c.write_lemma-wrote.new.self c.in-Ok.written old mid w

pub go_back-gone-requires-clause-above : goal.go_back-gone-requires-clause-above
go_back-gone-requires-clause-above g c =
    let old = g.L.Log.state c.args.log.now in
    let mid = g.L.Log.state c.write_lemma-wrote.new.log in
    let w = wrote _ _ c.args.why.now c.args.learnt c.self.inside.ledger.reserved c.write_lemma-wrote.new.self c.in-Ok.written old mid c.self.view_is c.requires.teaches c.in-Ok.ensures.lines c.in-Ok.ensures.writes in
    above_here _ c.args.why.now c.args.learnt c.write_lemma-wrote.new.self c.in-Ok.written old mid w

pub go_back-gone-requires-clause-whole : goal.go_back-gone-requires-clause-whole
go_back-gone-requires-clause-whole g c =
    let old = g.L.Log.state c.args.log.now in
    let mid = g.L.Log.state c.write_lemma-wrote.new.log in
    let w = wrote _ _ c.args.why.now c.args.learnt c.self.inside.ledger.reserved c.write_lemma-wrote.new.self c.in-Ok.written old mid c.self.view_is c.requires.teaches c.in-Ok.ensures.lines c.in-Ok.ensures.writes in
    whole_here _ c.args.why.now c.args.learnt c.write_lemma-wrote.new.self c.in-Ok.written old mid w

pub invariant_of-self-in-Ok-gone : goal.invariant_of-self-in-Ok-gone
invariant_of-self-in-Ok-gone g c =
    let old = g.L.Log.state c.args.log.now in
    let mid = g.L.Log.state c.write_lemma-wrote.new.log in
    let new = g.L.Log.state c.go_back-gone.new.log in
    let trail = c.go_back-gone.new.trail in
    let l = c.write_lemma-wrote.new.self in
    let l' = c.go_back-gone.new.self in
    let restarts = c.next_level-level.new.restarts in
    let since = c.next_level-level.new.since in
    let level = c.next_level-level.result in
    let w = wrote _ _ c.args.why.now c.args.learnt c.self.inside.ledger.reserved l c.in-Ok.written old mid c.self.view_is c.requires.teaches c.in-Ok.ensures.lines c.in-Ok.ensures.writes in
    let some : 1 ≤ length c.in-Ok.written.lemma = omega (arith, c.if-len-eq0.false, c.len.ensures.value) in
    let gone : Gone _ c.args.learnt c.in-Ok.written l l' trail restarts since level = record { some = some; next = c.next_level-level.ensures.next; at = c.go_back-gone.ensures.trail; left = c.go_back-gone.ensures.numbers } in
    let below = level_here _ c.args.why.now c.args.learnt l c.in-Ok.written old mid restarts since level w some c.next_level-level.ensures.next in
    let marked = goal_marked c.self.inside.goal (map g.P.Propagator.source c.self.inside.props.items) c.mark_only.new.self c.self.inside.marks c.self.invariant.0.each_mark c.self.invariant.0.goal_at c.mark_only.ensures.marked in
    let cap = ap (λ (x : LedgerModel). x.reserved) c.go_back-gone.ensures.numbers ∙ c.write_lemma-wrote.ensures.gives.reserved in (
      kept_back _ _ _ _ _ _ level _ _ c.self.invariant.0 (back_search _ c.args.why.now c.args.learnt l l' c.in-Ok.written old mid new trail restarts since level (g.S.Store.clauses c.go_back-gone.new.store) w gone c.in-Ok-gone.ensures.tidies) refl refl c.go_back-gone.ensures.trail below c.mark_only.ensures.same_length marked cap,
      c.go_back-gone.ensures.ships ∙ c.self.invariant.1,
      c.go_back-gone.ensures.ready,
      c.self.invariant.3,
    )

pub returns-in-Ok-gone-clause-turns : goal.returns-in-Ok-gone-clause-turns
returns-in-Ok-gone-clause-turns g c =
    let old = g.L.Log.state c.args.log.now in
    let mid = g.L.Log.state c.write_lemma-wrote.new.log in
    let new = g.L.Log.state c.go_back-gone.new.log in
    let trail = c.go_back-gone.new.trail in
    let l = c.write_lemma-wrote.new.self in
    let l' = c.go_back-gone.new.self in
    let restarts = c.next_level-level.new.restarts in
    let since = c.next_level-level.new.since in
    let level = c.next_level-level.result in
    let w = wrote _ _ c.args.why.now c.args.learnt c.self.inside.ledger.reserved l c.in-Ok.written old mid c.self.view_is c.requires.teaches c.in-Ok.ensures.lines c.in-Ok.ensures.writes in
    let some : 1 ≤ length c.in-Ok.written.lemma = omega (arith, c.if-len-eq0.false, c.len.ensures.value) in
    let gone : Gone _ c.args.learnt c.in-Ok.written l l' trail restarts since level = record { some = some; next = c.next_level-level.ensures.next; at = c.go_back-gone.ensures.trail; left = c.go_back-gone.ensures.numbers } in
    back_meets _ _ c.args.why.now c.args.learnt l l' c.in-Ok.written old mid new trail restarts since level (g.S.Store.clauses c.go_back-gone.new.store) c.self.view_is w gone c.in-Ok-gone.ensures.tidies

pub invariant_of-self-in-Err-gone : goal.invariant_of-self-in-Err-gone
invariant_of-self-in-Err-gone g c =
    let old = g.L.Log.state c.args.log.now in
    let mid = g.L.Log.state c.write_lemma-wrote.new.log in
    let new = g.L.Log.state c.go_back-gone.new.log in
    let trail = c.go_back-gone.new.trail in
    let l = c.write_lemma-wrote.new.self in
    let l' = c.go_back-gone.new.self in
    let restarts = c.next_level-level.new.restarts in
    let since = c.next_level-level.new.since in
    let level = c.next_level-level.result in
    let w = wrote _ _ c.args.why.now c.args.learnt c.self.inside.ledger.reserved l c.in-Ok.written old mid c.self.view_is c.requires.teaches c.in-Ok.ensures.lines c.in-Ok.ensures.writes in
    let some : 1 ≤ length c.in-Ok.written.lemma = omega (arith, c.if-len-eq0.false, c.len.ensures.value) in
    let gone : Gone _ c.args.learnt c.in-Ok.written l l' trail restarts since level = record { some = some; next = c.next_level-level.ensures.next; at = c.go_back-gone.ensures.trail; left = c.go_back-gone.ensures.numbers } in
    let below = level_here _ c.args.why.now c.args.learnt l c.in-Ok.written old mid restarts since level w some c.next_level-level.ensures.next in
    let marked = goal_marked c.self.inside.goal (map g.P.Propagator.source c.self.inside.props.items) c.mark_only.new.self c.self.inside.marks c.self.invariant.0.each_mark c.self.invariant.0.goal_at c.mark_only.ensures.marked in
    let cap = ap (λ (x : LedgerModel). x.reserved) c.go_back-gone.ensures.numbers ∙ c.write_lemma-wrote.ensures.gives.reserved in (
      kept_back _ _ _ _ _ _ level _ _ c.self.invariant.0 (back_stopped _ c.args.why.now c.args.learnt l l' c.in-Ok.written old mid new trail restarts since level (g.S.Store.clauses c.go_back-gone.new.store) c.in-Err-gone.stop w gone c.in-Err-gone.ensures.tidies) refl refl c.go_back-gone.ensures.trail below c.mark_only.ensures.same_length marked cap,
      c.go_back-gone.ensures.ships ∙ c.self.invariant.1,
      c.go_back-gone.ensures.ready,
      c.self.invariant.3,
    )

pub returns-in-Err-gone-clause-turns : goal.returns-in-Err-gone-clause-turns
returns-in-Err-gone-clause-turns g c =
    let old = g.L.Log.state c.args.log.now in
    let mid = g.L.Log.state c.write_lemma-wrote.new.log in
    let new = g.L.Log.state c.go_back-gone.new.log in
    let trail = c.go_back-gone.new.trail in
    let l = c.write_lemma-wrote.new.self in
    let l' = c.go_back-gone.new.self in
    let restarts = c.next_level-level.new.restarts in
    let since = c.next_level-level.new.since in
    let level = c.next_level-level.result in
    let w = wrote _ _ c.args.why.now c.args.learnt c.self.inside.ledger.reserved l c.in-Ok.written old mid c.self.view_is c.requires.teaches c.in-Ok.ensures.lines c.in-Ok.ensures.writes in
    let some : 1 ≤ length c.in-Ok.written.lemma = omega (arith, c.if-len-eq0.false, c.len.ensures.value) in
    let gone : Gone _ c.args.learnt c.in-Ok.written l l' trail restarts since level = record { some = some; next = c.next_level-level.ensures.next; at = c.go_back-gone.ensures.trail; left = c.go_back-gone.ensures.numbers } in
    stopped_meets _ _ c.args.why.now c.args.learnt l l' c.in-Ok.written old mid new trail restarts since level (g.S.Store.clauses c.go_back-gone.new.store) c.in-Err-gone.stop c.turn_of.result c.self.view_is w gone c.in-Err-gone.ensures.tidies c.turn_of.ensures.value

pub returns-in-Err-clause-turns : goal.returns-in-Err-clause-turns
returns-in-Err-clause-turns g c = lemma_stopped_here _ _ c.args.why.now c.args.learnt c.self.inside.ledger.reserved c.write_lemma-wrote.new.self c.in-Err.stop c.turn_of-in-Err.result (g.L.Log.state c.args.log.now) (g.L.Log.state c.write_lemma-wrote.new.log) c.self.view_is c.requires.teaches c.in-Err.ensures.lines c.turn_of-in-Err.ensures.value

pub returns-then-len-eq0-clause-kept : goal.returns-then-len-eq0-clause-kept
returns-then-len-eq0-clause-kept g c =
    let wrote = c.in-Ok.ensures.lines c.args.self.now.search in
    wrote.faults

pub returns-in-Ok-gone-clause-kept : goal.returns-in-Ok-gone-clause-kept
returns-in-Ok-gone-clause-kept g c =
    let wrote = c.in-Ok.ensures.lines c.args.self.now.search in
    c.in-Ok-gone.ensures.tidies.1.2.faults ∙ wrote.faults

pub returns-in-Err-gone-clause-kept : goal.returns-in-Err-gone-clause-kept
returns-in-Err-gone-clause-kept g c =
    let wrote = c.in-Ok.ensures.lines c.args.self.now.search in
    stop_keeps c.in-Err-gone.stop c.turn_of.result (g.L.Log.state c.args.log.now) (g.L.Log.state c.write_lemma-wrote.new.log) (g.L.Log.state c.go_back-gone.new.log) c.turn_of.ensures.value wrote.faults c.in-Err-gone.ensures.tidies.1.2.cause

pub returns-in-Err-clause-kept : goal.returns-in-Err-clause-kept
returns-in-Err-clause-kept g c =
    let stopped = c.in-Err.ensures.lines c.args.self.now.search in
    stop_keeps c.in-Err.stop c.turn_of-in-Err.result (g.L.Log.state c.args.log.now) (g.L.Log.state c.args.log.now) (g.L.Log.state c.write_lemma-wrote.new.log) c.turn_of-in-Err.ensures.value refl stopped.cause
