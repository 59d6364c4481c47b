use Rattle.std.proofs.Common.{◌≡◌, ◌+◌, List, ℕ, length, ap, ◌∙◌, subst, arith}
use Rattle.std.specs.Prelude.{Err}
use Rattle.hw_search_laws.specs.Laws.{lemma_lines}
use Rattle.hw_search_ledger.specs.declared.writing.WrittenLemma.{WrittenLemma}
use Rattle.std.proofs.lemmas.Result.{err_from_is_err_and}
use Rattle.hw_search_laws.specs.declared.outcome.Branching.TheVariants.{Earliest}
use Rattle.hw_search_laws.specs.Searches.{SearchModel, new_search}
use Rattle.hw_search_ledger.specs.Handing.{TakesAll, HandsLemma}
use Rattle.hw_search_ledger.specs.Ledgers.{LedgerModel}
use Rattle.hw_search_ledger.specs.Naming.{search_by, taught, own_after, Taught}
use Rattle.hw_search_ledger.proofs.Giving.{gives_none, gives_line, gives_then}
use Rattle.hw_search_ledger.proofs.Handed.{all_whole}
use Rattle.hw_search_ledger.proofs.Named.{lemma_taken, lemma_stopped, lemma_early}
use Rattle.hw_search_ledger.proofs.ledger.Ledger.write_lemma.Goals as goal

pub name_all-requires-clause-few : goal.name_all-requires-clause-few
name_all-requires-clause-few g c = omega (arith, c.requires.few, ap length c.deref.ensures.value)

pub returns-in_err-named-clause-lines : goal.returns-in_err-named-clause-lines
returns-in_err-named-clause-lines g c = λ s.
    let p = err_from_is_err_and c.from_residual.result c.from_residual.ensures.1 in
    let u = search_by s c.args.flat.now c.args.trail.now c.args.self.now in
    rw (p.1, p.2) (subst (λ (ps : List ℕ). HandsLemma {A = WrittenLemma} (taught u c.args.why.now ps) c.args.learnt.lemma (g.L.Log.state c.args.log.now) (g.L.Log.state c.name_all.new.log) (Err c.in_err-named.field-0.0)) c.deref.ensures.value
    (lemma_early (taught u c.args.why.now c.deref.result.now) c.args.learnt.lemma c.in_err-named.field-0.0 (g.L.Log.state c.args.log.now) (g.L.Log.state c.name_all.new.log) (c.in_err-named.ensures.lines s)))

pub line-requires : goal.line-requires
line-requires g c =
    let u = search_by (new_search c.args.flat.now Earliest) c.args.flat.now c.args.trail.now c.args.self.now in
    record { whole = all_whole (taught u c.args.why.now c.deref.result.now).lines (g.L.Log.state c.args.log.now) (g.L.Log.state c.name_all.new.log) (c.in_ok-named.ensures.lines (new_search c.args.flat.now Earliest)) }

pub returns-in-Ok-clause-lines : goal.returns-in-Ok-clause-lines
returns-in-Ok-clause-lines g c = λ s.
    let u = search_by s c.args.flat.now c.args.trail.now c.args.self.now in
    let old = g.L.Log.state c.args.log.now in
    let new = g.L.Log.state c.line.new.self in
    subst (λ (ps : List ℕ). TakesAll (lemma_lines (taught u c.args.why.now ps) c.args.learnt.lemma) old new) c.deref.ensures.value
    (lemma_taken (taught u c.args.why.now c.deref.result.now) c.args.learnt.lemma c.in_ok-named.named.hints old (g.L.Log.state c.name_all.new.log) new tt (c.in_ok-named.ensures.names.numbers s).same_hints (c.in_ok-named.ensures.lines s) c.in-Ok.ensures.takes)

pub returns-in-Ok-clause-writes : goal.returns-in-Ok-clause-writes
returns-in-Ok-clause-writes g c =
    let n = c.in_ok-named.ensures.names in
    let by = λ (s : SearchModel). search_by s c.args.flat.now c.args.trail.now c.args.self.now in
    let l = c.give-number.new.self in
    record {
      numbers = λ s. subst (λ (ps : List ℕ). Taught (taught (by s) c.args.why.now ps) l.written l.clause_lines) c.deref.ensures.value (record {
        same_written = ap (λ (x : LedgerModel). x.written) c.give-number.ensures.value ∙ (n.numbers s).same_written;
        same_lines = ap (λ (x : LedgerModel). x.clause_lines) c.give-number.ensures.value ∙ ap (λ (k : ℕ). k + 1) (n.numbers s).same_lines;
      });
      own_is = λ s. subst (λ (ps : List ℕ). c.in_ok-named.named.conflict ≡ own_after (by s) c.args.why.now ps) c.deref.ensures.value (n.own_is s);
      same_lemma = let e = c.lemma_in-lemma.ensures.value in cc;
    }

pub returns-clause-lines : goal.returns-clause-lines
returns-clause-lines g c = λ s.
    let u = search_by s c.args.flat.now c.args.trail.now c.args.self.now in
    let old = g.L.Log.state c.args.log.now in
    let new = g.L.Log.state c.line.new.self in
    subst (λ (ps : List ℕ). HandsLemma {A = WrittenLemma} (taught u c.args.why.now ps) c.args.learnt.lemma old new (Err c.in-Err.stop)) c.deref.ensures.value
    (lemma_stopped (taught u c.args.why.now c.deref.result.now) c.args.learnt.lemma c.in_ok-named.named.hints c.in-Err.stop old (g.L.Log.state c.name_all.new.log) new (c.in_ok-named.ensures.names.numbers s).same_hints (c.in_ok-named.ensures.lines s) c.in-Err.ensures.takes)

pub returns-in_err-named-clause-gives : goal.returns-in_err-named-clause-gives
returns-in_err-named-clause-gives g c = gives_then c.args.self.now c.name_all.new.self c.name_all.new.self (length c.deref.result.now + 1) 0 (length c.args.learnt.places.items + 2) (omega (arith, ap length c.deref.ensures.value)) c.in_err-named.ensures.gives (gives_none c.name_all.new.self 0)

pub returns-in-Ok-clause-gives : goal.returns-in-Ok-clause-gives
returns-in-Ok-clause-gives g c = gives_then c.args.self.now c.name_all.new.self c.give-number.new.self (length c.deref.result.now + 1) 1 (length c.args.learnt.places.items + 2) (omega (arith, ap length c.deref.ensures.value)) c.in_ok-named.ensures.gives (gives_line c.name_all.new.self c.give-number.new.self c.give-number.ensures.value)

pub returns-clause-gives : goal.returns-clause-gives
returns-clause-gives g c = gives_then c.args.self.now c.name_all.new.self c.name_all.new.self (length c.deref.result.now + 1) 0 (length c.args.learnt.places.items + 2) (omega (arith, ap length c.deref.ensures.value)) c.in_ok-named.ensures.gives (gives_none c.name_all.new.self 0)
