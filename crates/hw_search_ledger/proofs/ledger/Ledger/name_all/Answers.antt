use Rattle.std.proofs.Common.{ℕ, ◌+◌, List, length, fold, refl, ap, ◌∙◌, subst, arith}
use Rattle.std.proofs.lemmas.Result.{err_from_is_err_and}
use Rattle.hw_search_laws.specs.declared.outcome.Branching.TheVariants.{Earliest}
use Rattle.hw_search_laws.specs.Searches.{SearchModel, new_search}
use Rattle.hw_search_laws.specs.Turns.{cite, cited}
use Rattle.hw_search_ledger.specs.Handing.{StopsWithin}
use Rattle.hw_search_ledger.specs.Naming.{search_on, search_by, naming, own_number}
use Rattle.hw_search_ledger.proofs.Giving.{gives_none, gives_then}
use Rattle.hw_search_ledger.proofs.Handed.{all_whole}
use Rattle.hw_search_ledger.proofs.Named.{numbers_from, taken_from, taught_hands, reasons_stop, conflict_stops, taught_numbers}
use Rattle.hw_search_ledger.proofs.ledger.Ledger.name_all.Goals as goal

pub returns-in_err-name_reasons-clause-lines : goal.returns-in_err-name_reasons-clause-lines
returns-in_err-name_reasons-clause-lines g c = λ s.
    let p = err_from_is_err_and c.from_residual.result c.from_residual.ensures.1 in
    let P : List ℕ → Type 0 = λ hints. StopsWithin c.in_err-name_reasons.field-0.0 (fold cite (naming (search_on s c.args.flat.now c.args.trail.now c.args.self.now.written c.args.self.now.clause_lines) hints) c.args.places.now).lines (length (fold cite (naming (search_on s c.args.flat.now c.args.trail.now c.args.self.now.written c.args.self.now.clause_lines) hints) c.args.places.now).lines) (g.L.Log.state c.args.log.now) (g.L.Log.state c.name_reasons.new.log) in
    rw (p.1, p.2) (reasons_stop s c.args.flat.now c.args.trail.now c.args.self.now.written c.args.self.now.clause_lines c.args.places.now c.args.why.now c.in_err-name_reasons.field-0.0 (g.L.Log.state c.args.log.now) (g.L.Log.state c.name_reasons.new.log) (subst P c.new-hints.ensures.items (c.in_err-name_reasons.ensures.lines s)))

pub name_conflict-requires-clause-whole : goal.name_conflict-requires-clause-whole
name_conflict-requires-clause-whole g c =
    let s = new_search c.args.flat.now Earliest in
    all_whole (cited (search_on s c.args.flat.now c.args.trail.now c.args.self.now.written c.args.self.now.clause_lines) c.args.places.now).lines (g.L.Log.state c.args.log.now) (g.L.Log.state c.name_reasons.new.log) (taken_from s c.args.flat.now c.args.trail.now c.args.self.now.written c.args.self.now.clause_lines c.new-hints.result.items c.args.places.now (g.L.Log.state c.args.log.now) (g.L.Log.state c.name_reasons.new.log) c.new-hints.ensures.items (c.in_ok-name_reasons.ensures.lines s))

pub returns-in_err-conflict-clause-lines : goal.returns-in_err-conflict-clause-lines
returns-in_err-conflict-clause-lines g c = λ s.
    let p = err_from_is_err_and c.from_residual-in_err-conflict.result c.from_residual-in_err-conflict.ensures.1 in
    let u = search_on s c.args.flat.now c.args.trail.now c.name_reasons.new.self.written c.name_reasons.new.self.clause_lines in
    rw (p.1, p.2) (conflict_stops s c.args.flat.now c.args.trail.now c.args.self.now.written c.name_reasons.new.self.written c.args.self.now.clause_lines c.name_reasons.new.self.clause_lines c.name_reasons.new.hints.items c.args.places.now c.args.why.now c.in_err-conflict.field-0.0 (g.L.Log.state c.args.log.now) (g.L.Log.state c.name_reasons.new.log) (g.L.Log.state c.name_conflict.new.log)
    (numbers_from s c.args.flat.now c.args.trail.now c.args.self.now.written c.name_reasons.new.self.written c.args.self.now.clause_lines c.name_reasons.new.self.clause_lines c.new-hints.result.items c.name_reasons.new.hints.items c.args.places.now c.new-hints.ensures.items (c.in_ok-name_reasons.ensures.names s)) (taken_from s c.args.flat.now c.args.trail.now c.args.self.now.written c.args.self.now.clause_lines c.new-hints.result.items c.args.places.now (g.L.Log.state c.args.log.now) (g.L.Log.state c.name_reasons.new.log) c.new-hints.ensures.items (c.in_ok-name_reasons.ensures.lines s)) (c.in_err-conflict.ensures.lines u refl))

pub returns-clause-lines : goal.returns-clause-lines
returns-clause-lines g c = λ s.
    let u = search_on s c.args.flat.now c.args.trail.now c.name_reasons.new.self.written c.name_reasons.new.self.clause_lines in
    taught_hands s c.args.flat.now c.args.trail.now c.args.self.now.written c.name_reasons.new.self.written c.args.self.now.clause_lines c.name_reasons.new.self.clause_lines c.name_reasons.new.hints.items c.args.places.now c.args.why.now (g.L.Log.state c.args.log.now) (g.L.Log.state c.name_reasons.new.log) (g.L.Log.state c.name_conflict.new.log)
    (numbers_from s c.args.flat.now c.args.trail.now c.args.self.now.written c.name_reasons.new.self.written c.args.self.now.clause_lines c.name_reasons.new.self.clause_lines c.new-hints.result.items c.name_reasons.new.hints.items c.args.places.now c.new-hints.ensures.items (c.in_ok-name_reasons.ensures.names s)) (taken_from s c.args.flat.now c.args.trail.now c.args.self.now.written c.args.self.now.clause_lines c.new-hints.result.items c.args.places.now (g.L.Log.state c.args.log.now) (g.L.Log.state c.name_reasons.new.log) c.new-hints.ensures.items (c.in_ok-name_reasons.ensures.lines s)) (c.in_ok-conflict.ensures.lines u refl)

pub returns-clause-names : goal.returns-clause-names
returns-clause-names g c =
    let n = λ (s : SearchModel). numbers_from s c.args.flat.now c.args.trail.now c.args.self.now.written c.name_reasons.new.self.written c.args.self.now.clause_lines c.name_reasons.new.self.clause_lines c.new-hints.result.items c.name_reasons.new.hints.items c.args.places.now c.new-hints.ensures.items (c.in_ok-name_reasons.ensures.names s) in
    let k = c.in_ok-conflict.ensures.names in
    record {
      numbers = λ s.
          let u = search_by s c.args.flat.now c.args.trail.now c.name_reasons.new.self in
          let m = taught_numbers s c.args.flat.now c.args.trail.now c.args.self.now.written c.name_reasons.new.self.written c.args.self.now.clause_lines c.name_reasons.new.self.clause_lines c.name_conflict.new.self.clause_lines c.name_reasons.new.hints.items c.name_conflict.new.hints.items c.args.places.now c.args.why.now (n s) (k.same_lines u refl) (k.same_hints u refl) in
          record { same_written = k.same_written ∙ m.same_written; same_lines = m.same_lines; same_hints = m.same_hints };
      own_is = λ s. k.own_is ∙ ap (λ (lines : ℕ). own_number c.args.why.now (lines + 1)) (n s).same_lines;
    }

pub returns-in_err-name_reasons-clause-gives : goal.returns-in_err-name_reasons-clause-gives
returns-in_err-name_reasons-clause-gives g c = gives_then c.args.self.now c.name_reasons.new.self c.name_reasons.new.self (length c.args.places.now) 0 (length c.args.places.now + 1) (omega arith) c.in_err-name_reasons.ensures.gives (gives_none c.name_reasons.new.self 0)

pub returns-in_err-conflict-clause-gives : goal.returns-in_err-conflict-clause-gives
returns-in_err-conflict-clause-gives g c = gives_then c.args.self.now c.name_reasons.new.self c.name_conflict.new.self (length c.args.places.now) 1 (length c.args.places.now + 1) (omega arith) c.in_ok-name_reasons.ensures.gives c.in_err-conflict.ensures.gives

pub returns-clause-gives : goal.returns-clause-gives
returns-clause-gives g c = gives_then c.args.self.now c.name_reasons.new.self c.name_conflict.new.self (length c.args.places.now) 1 (length c.args.places.now + 1) (omega arith) c.in_ok-name_reasons.ensures.gives c.in_ok-conflict.ensures.gives
