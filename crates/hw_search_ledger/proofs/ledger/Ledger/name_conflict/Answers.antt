use Rattle.std.proofs.Common.{length, sym, subst}
use Rattle.std.proofs.lemmas.Result.{err_from_is_err_and}
use Rattle.hw_search_ledger.specs.Handing.{StopsWithin}
use Rattle.hw_search_laws.specs.Turns.{why_lines}
use Rattle.hw_search_ledger.proofs.Handed.{memory_after}
use Rattle.hw_search_ledger.proofs.Named.{conflict_lines}
use Rattle.hw_search_ledger.proofs.ledger.Ledger.name_conflict.Goals as goal

pub returns-in_err-push_hint-in-None-clause-lines : goal.returns-in_err-push_hint-in-None-clause-lines
returns-in_err-push_hint-in-None-clause-lines g c = λ s same.
    let p = err_from_is_err_and c.from_residual-in_err-push_hint-in-None.result c.from_residual-in_err-push_hint-in-None.ensures.1 in
    let old = g.L.Log.state c.args.log.now in
    let new = g.L.Log.state c.hand_why.new.log in
    let plan = why_lines c.args.flat.now c.args.why.now in
    let stop = c.in_err-push_hint-in-None.field-0.0 in
    rw (p.1, p.2) (subst (λ xs. StopsWithin stop xs (length xs) old new) (sym (conflict_lines s c.args.flat.now c.args.hints.now.items c.args.why.now same))
    (subst (λ x. StopsWithin x plan (length plan) old new) (sym c.in_err-push_hint-in-None.ensures.memory) (memory_after plan old new c.in_ok-hand_why-in-None.ensures.hands)))
