use Rattle.std.proofs.Common.{subst, sym}
use Rattle.hw_model.specs.Problem.{Problem}
use Rattle.hw_model.specs.Timetables.{Permits}
use Rattle.hw_search_laws.specs.declared.outcome.Turn.{Turn}
use Rattle.hw_search_laws.specs.Offers.{OfferMeets}
use Rattle.hw_cert.specs.Logs.{memory_log}
use Rattle.hw_turns.proofs.Membering.{caught_offer, better_of}
use Rattle.hw_turns_tests.proofs.player.Player.offer.Goals as goal

pub returns-in-Better : goal.returns-in-Better
returns-in-Better c =
    let s = c.args.self.now.search in
    let row = c.in-Some.best in
    let permits : Permits s.problem row = subst (λ (p : Problem). Permits p row) (sym c.requires.working.same_problem) (c.is_permitted.ensures c.if-not-is_permitted.false) in
    record {
      caught = caught_offer c.args.flat.now s row c.args.self.now.log c.offer.new.self c.offer.new.log c.requires.working permits
          (better_of c.args.flat.now s row _ c.requires.working.same_problem c.best.ensures.value (c.is_above.ensures.better c.if-not-is_above.false))
          (subst (λ (turn : Turn). OfferMeets s row (memory_log c.args.self.now.log) turn c.offer.new.self (memory_log c.offer.new.log)) c.in-Better.is c.offer.ensures.offers);
    }
