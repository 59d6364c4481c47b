use Rattle.std.proofs.Common.{◌≡◌, ◌+◌, [], ◌∷◌, ◌++◌, None, ap, sym, ◌∙◌, subst, arith}
use Rattle.std.proofs.lemmas.List.{get_or_default}
use Rattle.hw_search_laws.specs.Turns.{cite}
use Rattle.hw_search_ledger.specs.Handing.{TakesAll}
use Rattle.hw_search_ledger.specs.Ledgers.{LedgerModel}
use Rattle.hw_search_ledger.specs.Naming.{search_by, naming, NamesBy}
use Rattle.hw_search_ledger.proofs.Named.{ok_then, why_of_event, written_is, known_hands, known_names, new_lines, new_names, hands_then}
use Rattle.hw_search_ledger.proofs.Giving.{gives_none, gives_reason}
use Rattle.hw_search_ledger.proofs.ledger.Ledger.name_reason.Goals as goal

pub returns-in-Some-known_number-clause-lines : goal.returns-in-Some-known_number-clause-lines
returns-in-Some-known_number-clause-lines g c = λ s.
    let e = why_of_event c.args.trail.now c.args.place c.event-event.result.now c.in-Some.why c.event-event.ensures.value c.in-Some.is in
    let w = written_is c.args.self.now.written c.args.place c.number_at.result (omega (arith, c.requires.place_in, c.requires.each_event)) (c.number_at.ensures.value ∙ get_or_default c.args.self.now.written c.args.place None c.number_at.result (omega (arith, c.requires.place_in, c.requires.each_event))) in
    known_hands s c.args.flat.now c.args.trail.now c.args.self.now.written c.args.self.now.clause_lines c.args.hints.now.items c.args.place c.in-Some.why c.number_at.result c.in-Some-known_number.number c.push_hint.result (g.L.Log.state c.args.log.now) e w (sym c.known_number.ensures.value ∙ c.in-Some-known_number.is) c.requires.whole c.push_hint.ensures.memory

pub returns-in-Some-known_number-clause-names : goal.returns-in-Some-known_number-clause-names
returns-in-Some-known_number-clause-names g c = λ s.
    let e = why_of_event c.args.trail.now c.args.place c.event-event.result.now c.in-Some.why c.event-event.ensures.value c.in-Some.is in
    let w = written_is c.args.self.now.written c.args.place c.number_at.result (omega (arith, c.requires.place_in, c.requires.each_event)) (c.number_at.ensures.value ∙ get_or_default c.args.self.now.written c.args.place None c.number_at.result (omega (arith, c.requires.place_in, c.requires.each_event))) in
    known_names s c.args.flat.now c.args.trail.now c.args.self.now.written c.args.self.now.clause_lines c.args.hints.now.items c.push_hint.new.hints.items c.args.place c.in-Some.why c.number_at.result c.in-Some-known_number.number c.push_hint.result e w (sym c.known_number.ensures.value ∙ c.in-Some-known_number.is) c.push_hint.ensures.named

pub returns-in_ok-hand_why-in-None-clause-lines : goal.returns-in_ok-hand_why-in-None-clause-lines
returns-in_ok-hand_why-in-None-clause-lines g c = λ s.
    let e = why_of_event c.args.trail.now c.args.place c.event-event.result.now c.in-Some.why c.event-event.ensures.value c.in-Some.is in
    let w = written_is c.args.self.now.written c.args.place c.number_at.result (omega (arith, c.requires.place_in, c.requires.each_event)) (c.number_at.ensures.value ∙ get_or_default c.args.self.now.written c.args.place None c.number_at.result (omega (arith, c.requires.place_in, c.requires.each_event))) in
    let same = new_lines s c.args.flat.now c.args.trail.now c.args.self.now.written c.args.self.now.clause_lines c.args.hints.now.items c.args.place c.in-Some.why c.number_at.result e w (sym c.known_number.ensures.value ∙ c.in-None.is) in
    hands_then _ (g.L.Log.state c.args.log.now) (g.L.Log.state c.hand_why.new.log) c.push_hint-in-None.result c.push_hint-in-None.ensures.memory (subst (λ xs. TakesAll xs (g.L.Log.state c.args.log.now) (g.L.Log.state c.hand_why.new.log)) (sym same) c.in_ok-hand_why-in-None.ensures.hands)

pub returns-in_ok-hand_why-in-None-clause-names : goal.returns-in_ok-hand_why-in-None-clause-names
returns-in_ok-hand_why-in-None-clause-names g c = λ s.
    let e = why_of_event c.args.trail.now c.args.place c.event-event.result.now c.in-Some.why c.event-event.ensures.value c.in-Some.is in
    let w = written_is c.args.self.now.written c.args.place c.number_at.result (omega (arith, c.requires.place_in, c.requires.each_event)) (c.number_at.ensures.value ∙ get_or_default c.args.self.now.written c.args.place None c.number_at.result (omega (arith, c.requires.place_in, c.requires.each_event))) in
    let pushed = ok_then c.push_hint-in-None.result (c.push_hint-in-None.new.hints.items ≡ c.args.hints.now.items ++ c.give_reason-number.result ∷ []) (c.push_hint-in-None.new.hints.items ≡ c.args.hints.now.items ++ (c.args.self.now.clause_lines + 1) ∷ []) c.push_hint-in-None.ensures.named (λ p. p ∙ ap (λ n. c.args.hints.now.items ++ n ∷ []) c.give_reason-number.ensures.number) in
    let P : LedgerModel → Type 0 = λ l. NamesBy (cite (naming (search_by s c.args.flat.now c.args.trail.now c.args.self.now) c.args.hints.now.items) c.args.place) c.push_hint-in-None.result c.args.self.now.written c.args.self.now.clause_lines l.written l.clause_lines c.push_hint-in-None.new.hints.items in
    subst P (sym c.give_reason-number.ensures.value)
    (new_names s c.args.flat.now c.args.trail.now c.args.self.now.written c.args.self.now.clause_lines c.args.hints.now.items c.push_hint-in-None.new.hints.items c.args.place c.in-Some.why c.number_at.result c.push_hint-in-None.result e w (sym c.known_number.ensures.value ∙ c.in-None.is) pushed)

pub returns-in-Some-known_number-clause-gives : goal.returns-in-Some-known_number-clause-gives
returns-in-Some-known_number-clause-gives g c = gives_none c.args.self.now 1

pub returns-in_ok-hand_why-in-None-clause-gives : goal.returns-in_ok-hand_why-in-None-clause-gives
returns-in_ok-hand_why-in-None-clause-gives g c = gives_reason c.args.self.now c.give_reason-number.new.self c.args.place c.give_reason-number.ensures.value
