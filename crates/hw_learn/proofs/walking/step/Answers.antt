use Rattle.std.proofs.Common.{◌≡◌, ap, sym, ◌∙◌, ℕ, subst, None, Some, List, All}
use Rattle.std.proofs.lemmas.Bool.{MatchBool-at_true}
use Rattle.std.specs.Prelude.{option_map}
use Rattle.hw_model.specs.declared.lit.Lit.{Lit}
use Rattle.hw_trail_laws.specs.declared.event.Event.{Event}
use Rattle.hw_model.specs.Lits.{IsLitOf}
use Rattle.hw_lits.proofs.Forms.{lits_from}
use Rattle.hw_trail_laws.specs.Knowing.{knows, widened}
use Rattle.hw_trail_laws.specs.Trails.{trail_shape, reason, reason_clause}
use Rattle.hw_trail_laws.specs.Bridge.{story_of, event_at}
use Rattle.hw_trail_laws.specs.Passes.{DeniesOthers}
use Rattle.hw_trail_laws.proofs.Passes.{step_decision, step_resolve}
use Rattle.hw_trail_laws.proofs.Learnt.{reason_fits}
use Rattle.hw_learn.proofs.Hits.{at_event, start_is, event_lit}
use Rattle.hw_learn.proofs.walking.step.Goals as goal

pub replace-requires-clause-clause : goal.replace-requires-clause-clause
replace-requires-clause-clause c =
    let e = at_event c.args.trail.now c.args.place c.event-event.result.now c.requires.inside c.event-event.ensures.value in
    let why : reason c.event-event.result.now ≡ Some (reason_clause c.in-Some.why) = ap (option_map reason_clause) c.in-Some.is in
    let here : reason (event_at c.args.trail.now c.args.place) ≡ Some (reason_clause c.in-Some.why) = sym (ap reason e) ∙ why in
    let lits : All (IsLitOf c.args.trail.now.ships) (reason_clause c.in-Some.why) = lits_from (trail_shape c.args.trail.now) _ 0 None (reason_fits c.args.trail.now c.event-event.ensures.trail c.args.place c.requires.inside _ here) in
    subst (λ (n : ℕ). All (IsLitOf n) c.as_slice.result.now) (sym c.requires.shape.ships)
    (subst (λ (x : List Lit). All (IsLitOf c.args.trail.now.ships) x) (sym (c.as_slice.ensures.value ∙ c.clause_of.ensures.value)) lits)

pub returns-in-None-clause-keeps : goal.returns-in-None-clause-keeps
returns-in-None-clause-keeps c =
    let e = at_event c.args.trail.now c.args.place c.event-event.result.now c.requires.inside c.event-event.ensures.value in
    let due = MatchBool-at_true _ _ c.if-not-due.false c.due.ensures.answer in
    let none : reason c.event-event.result.now ≡ None = ap (option_map reason_clause) c.in-None.is in
    step_decision (story_of c.args.trail.now) c.args.place c.args.top c.args.first (knows c.args.held.now)
    due.0 due.1 (sym (ap reason e) ∙ none)

pub returns-in-Some-clause-keeps : goal.returns-in-Some-clause-keeps
returns-in-Some-clause-keeps c =
    let e = at_event c.args.trail.now c.args.place c.event-event.result.now c.requires.inside c.event-event.ensures.value in
    let due = MatchBool-at_true _ _ c.if-not-due.false c.due.ensures.answer in
    let why : reason c.event-event.result.now ≡ Some (reason_clause c.in-Some.why) = ap (option_map reason_clause) c.in-Some.is in
    let v : c.as_slice.result.now ≡ reason_clause c.in-Some.why = c.as_slice.ensures.value ∙ c.clause_of.ensures.value in
    let d : DeniesOthers (knows (widened (event_at c.args.trail.now c.args.place).lit c.args.held.now)) (knows c.replace.new.held) (reason_clause c.in-Some.why) (event_at c.args.trail.now c.args.place).lit
    = subst (λ (y : Event). DeniesOthers (knows (widened y.lit c.args.held.now)) (knows c.replace.new.held) (reason_clause c.in-Some.why) y.lit) e
    (subst (λ (y : List Lit). DeniesOthers (knows (widened c.event-event.result.now.lit c.args.held.now)) (knows c.replace.new.held) y c.event-event.result.now.lit) v c.replace.ensures.replaced) in
    let fits : IsLitOf c.args.held.now.ships (event_at c.args.trail.now c.args.place).lit
    = subst (λ (n : ℕ). IsLitOf n (event_at c.args.trail.now c.args.place).lit) (sym c.requires.shape.ships) (event_lit c.args.trail.now c.event-event.ensures.trail c.args.place c.requires.inside) in
    step_resolve (story_of c.args.trail.now) c.args.place c.args.top c.args.first c.args.held.now c.replace.new.held (reason_clause c.in-Some.why)
    c.replace.ensures.before c.replace.ensures.room
    (sym (start_is c.args.trail.now c.args.held.now.ships c.args.held.now.slots c.requires.shape.ships c.requires.shape.slots))
    (sym (start_is c.args.trail.now c.replace.new.held.ships c.replace.new.held.slots (c.replace.ensures.shape.ships ∙ c.requires.shape.ships) (c.replace.ensures.shape.slots ∙ c.requires.shape.slots)))
    fits due.0 due.1 (sym (ap reason e) ∙ why) d
