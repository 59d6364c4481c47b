use Rattle.std.proofs.Common.{◌+◌, ◌<◌, length, take, fold, ◌∙◌, subst, arith}
use Rattle.std.proofs.lemmas.List.{take_all}
use Rattle.std.proofs.lemmas.Result.{err_from_is_err_and}
use Rattle.hw_search_laws.specs.declared.outcome.Branching.TheVariants.{Earliest}
use Rattle.hw_search_laws.specs.Searches.{new_search}
use Rattle.hw_search_laws.specs.Turns.{cite}
use Rattle.hw_search_ledger.specs.Handing.{TakesAll}
use Rattle.hw_search_ledger.specs.Naming.{search_on, naming, Numbers}
use Rattle.hw_search_ledger.proofs.Giving.{gives_then}
use Rattle.hw_search_ledger.proofs.Handed.{all_whole}
use Rattle.hw_search_ledger.proofs.Named.{step_lines, step_numbers, step_stops}
use Rattle.hw_search_ledger.proofs.ledger.Ledger.name_reasons.Goals as goal

pub name_reason-requires-clause-whole : goal.name_reason-requires-clause-whole
name_reason-requires-clause-whole g c =
    let s = new_search c.args.flat.now Earliest in
    all_whole (fold cite (naming (search_on s c.args.flat.now c.args.trail.now c.args.self.now.written c.args.self.now.clause_lines) c.args.hints.now.items) (take c.loop-place.place-index c.args.places.now)).lines (g.L.Log.state c.args.log.now) (g.L.Log.state c.loop-place.log) (c.loop-place.invariant.lines s)

pub returns-in_err-name_reason-clause-lines : goal.returns-in_err-name_reason-clause-lines
returns-in_err-name_reason-clause-lines g c = λ s.
    let p = err_from_is_err_and c.from_residual.result c.from_residual.ensures.1 in
    let lt : c.loop-place.place-index < length c.args.places.now = omega arith in
    rw (p.1, p.2) (step_stops s c.args.flat.now c.args.trail.now c.args.self.now.written c.loop-place.self.written c.args.self.now.clause_lines c.loop-place.self.clause_lines c.args.hints.now.items c.loop-place.hints.items c.args.places.now c.loop-place.place-index 0 c.in_err-name_reason.field-0.0 (g.L.Log.state c.args.log.now) (g.L.Log.state c.loop-place.log) (g.L.Log.state c.name_reason.new.log) lt (c.loop-place.invariant.names s) (c.loop-place.invariant.lines s) (c.in_err-name_reason.ensures.lines s))

pub loop-place-preserved : goal.loop-place-preserved
loop-place-preserved g c =
    let lt : c.loop-place.place-index < length c.args.places.now = omega arith in
    record {
      lines = λ s. step_lines s c.args.flat.now c.args.trail.now c.args.self.now.written c.loop-place.self.written c.args.self.now.clause_lines c.loop-place.self.clause_lines c.args.hints.now.items c.loop-place.hints.items c.args.places.now c.loop-place.place-index 0 (g.L.Log.state c.args.log.now) (g.L.Log.state c.loop-place.log) (g.L.Log.state c.name_reason.new.log) lt (c.loop-place.invariant.names s) (c.loop-place.invariant.lines s) (c.in_ok-name_reason.ensures.lines s);
      names = λ s. step_numbers s c.args.flat.now c.args.trail.now c.args.self.now.written c.loop-place.self.written c.name_reason.new.self.written c.args.self.now.clause_lines c.loop-place.self.clause_lines c.name_reason.new.self.clause_lines c.args.hints.now.items c.loop-place.hints.items c.name_reason.new.hints.items c.args.places.now c.loop-place.place-index 0 lt (c.loop-place.invariant.names s) (c.in_ok-name_reason.ensures.names s);
      gives = gives_then c.args.self.now c.loop-place.self c.name_reason.new.self c.loop-place.place-index 1 (c.loop-place.place-index + 1) (omega arith) c.loop-place.invariant.gives c.in_ok-name_reason.ensures.gives;
      same_reference = c.in_ok-name_reason.ensures.same_reference ∙ c.loop-place.invariant.same_reference;
    }

pub returns-clause-lines : goal.returns-clause-lines
returns-clause-lines g c = λ s. subst (λ xs. TakesAll (fold cite (naming (search_on s c.args.flat.now c.args.trail.now c.args.self.now.written c.args.self.now.clause_lines) c.args.hints.now.items) xs).lines (g.L.Log.state c.args.log.now) (g.L.Log.state c.loop-place.log)) (take_all c.loop-place.place-index c.args.places.now (omega arith)) (c.loop-place.invariant.lines s)

pub returns-clause-names : goal.returns-clause-names
returns-clause-names g c = λ s. subst (λ xs. Numbers (fold cite (naming (search_on s c.args.flat.now c.args.trail.now c.args.self.now.written c.args.self.now.clause_lines) c.args.hints.now.items) xs) c.loop-place.self.written c.loop-place.self.clause_lines c.loop-place.hints.items) (take_all c.loop-place.place-index c.args.places.now (omega arith)) (c.loop-place.invariant.names s)

pub returns-in_err-name_reason-clause-gives : goal.returns-in_err-name_reason-clause-gives
returns-in_err-name_reason-clause-gives g c =
    let lt : c.loop-place.place-index < length c.args.places.now = omega arith in
    gives_then c.args.self.now c.loop-place.self c.name_reason.new.self c.loop-place.place-index 1 (length c.args.places.now) (omega (arith, lt)) c.loop-place.invariant.gives c.in_err-name_reason.ensures.gives
