use Rattle.std.proofs.Common.{refl, ◌∙◌}
use Rattle.hw_search_laws.specs.Searches.{IsSearch}
use Rattle.hw_search_laws.proofs.Heeded.{heeds_none}
use Rattle.hw_search_advised.proofs.Heedings.{gains_on}
use Rattle.hw_search_advised.proofs.AdvisedTurns.{turn_on, fewer_left}
use Rattle.hw_search_advised.proofs.advising.advised_turn.Goals as goal

pub rounds-init : goal.rounds-init
rounds-init g c =
    let s = c.args.search.now in
    let is : IsSearch s = c.lemmas-lemmas.ensures.search in
    record { heeds = heeds_none s (g.L.Log.state c.args.log.now) is c.requires.fits; same_reference = refl }

pub returns-in-Some-clause-turns : goal.returns-in-Some-clause-turns
returns-in-Some-clause-turns g c = turn_on c.args.search.now c.rounds.search c.round.new.search (g.L.Log.state c.args.log.now) (g.L.Log.state c.rounds.log) (g.L.Log.state c.round.new.log) c.in-Some.turn c.rounds.invariant.heeds c.in-Some.ensures.round

pub rounds-smaller : goal.rounds-smaller
rounds-smaller g c = fewer_left c.rounds.search c.round.new.search (g.L.Log.state c.rounds.log) (g.L.Log.state c.round.new.log) c.in_default.ensures.round

pub rounds-preserved : goal.rounds-preserved
rounds-preserved g c =
    let gains = gains_on c.args.search.now c.rounds.search c.round.new.search (g.L.Log.state c.args.log.now) (g.L.Log.state c.rounds.log) (g.L.Log.state c.round.new.log) c.rounds.invariant.heeds c.in_default.ensures.round in
    record { heeds = gains.heeds; same_reference = c.in_default.ensures.same_reference ∙ c.rounds.invariant.same_reference }
