use Rattle.std.proofs.Common.{◌≡◌, ◌↔◌, true, Some, subst}
use Rattle.hw_model.specs.declared.lit.Lit.{Lit}
use Rattle.hw_trail_laws.specs.Learning.{event_of}
use Rattle.hw_learn.proofs.Hits.{none_answer, exact_answer}
use Rattle.hw_learn.proofs.walking.hit.Goals as goal

pub returns-in-None : goal.returns-in-None
returns-in-None c = record { answer = none_answer c.args.trail.now c.args.place c.event.result.now c.args.held.now c.requires.inside c.event.ensures.value c.requires.shape.ships c.requires.shape.slots c.in-None.ensures.most }

pub returns-in-Some : goal.returns-in-Some
returns-in-Some c =
    record {
      answer = exact_answer c.args.trail.now c.event.ensures.trail c.args.place c.event.result.now c.args.held.now c.in-Some.most c.is_event_of.result c.requires.inside c.event.ensures.value c.requires.shape.ships c.requires.shape.slots
          c.in-Some.ensures.most c.in-Some.ensures.fits (subst (λ (m : Lit). (c.is_event_of.result ≡ true) ↔ (event_of c.args.trail.now m ≡ Some c.args.place)) c.not.ensures c.is_event_of.ensures.exactly);
    }
