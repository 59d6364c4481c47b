use Rattle.std.proofs.Common.{subst, refl}
use Rattle.hw_cert.specs.declared.log.LogStop.TheVariants as stops
use Rattle.hw_search_laws.specs.declared.outcome.Settled.TheVariants.{Quiet}
use Rattle.hw_search_laws.specs.declared.outcome.Turn.TheVariants as turns
use Rattle.hw_search_laws.specs.Searches.{IsSearch}
use Rattle.hw_search_laws.specs.Settling.{Settles}
use Rattle.hw_search.specs.Turning.{TurnBegins, halted}
use Rattle.hw_search.proofs.Answering.{stopped_early}
use Rattle.hw_search.proofs.Ending.{turned}
use Rattle.hw_search.proofs.Faults.{stop_keeps}
use Rattle.hw_search_advised.proofs.Heedings.{heeds_fit}
use Rattle.hw_search_advised.proofs.AdvisedTurns.{settled_heeds, turn_ends, round_on}
use Rattle.hw_search_advised.proofs.advising.round.Goals as goal

pub advise-requires-clause-fits : goal.advise-requires-clause-fits
advise-requires-clause-fits g c =
    let s = c.args.search.now in
    let mid = c.settle.new.self in
    let log = g.L.Log.state c.args.log.now in
    let is : IsSearch s = c.lemmas-lemmas.ensures.search in
    let settles : Settles s mid Quiet = subst (Settles s mid) c.in-Ok-Quiet.field-0-is c.in-Ok-Quiet.ensures.meets in
    heeds_fit s mid log log (settled_heeds s mid log is settles.implies settles.kept c.requires.fits)

pub returns-in-Ok-Quiet-clause-round : goal.returns-in-Ok-Quiet-clause-round
returns-in-Ok-Quiet-clause-round g c =
    let s = c.args.search.now in
    let mid = c.settle.new.self in
    let log = g.L.Log.state c.args.log.now in
    let is : IsSearch s = c.lemmas-lemmas.ensures.search in
    let settles : Settles s mid Quiet = subst (Settles s mid) c.in-Ok-Quiet.field-0-is c.in-Ok-Quiet.ensures.meets in
    round_on s mid c.advise.new.search log log (g.L.Log.state c.advise.new.log) c.advise.result (settled_heeds s mid log is settles.implies settles.kept c.requires.fits) c.advise.ensures.round

pub returns-in-Ok-Conflict-clause-round : goal.returns-in-Ok-Conflict-clause-round
returns-in-Ok-Conflict-clause-round g c =
    let s = c.args.search.now in
    let mid = c.settle.new.self in
    let log = g.L.Log.state c.args.log.now in
    let is : IsSearch s = c.lemmas-lemmas.ensures.search in
    let b : TurnBegins s log = record { kept = is; going = c.requires.going; few = c.requires.few; fits = c.requires.fits } in
    turn_ends s log c.meet_conflict.result c.meet_conflict.new.self (g.L.Log.state c.meet_conflict.new.log) is c.requires.fits (c.meet_conflict.ensures.turns s b (subst (Settles s mid) c.in-Ok-Conflict.field-0-is c.in-Ok-Conflict.ensures.meets)) c.meet_conflict.ensures.kept

pub returns-in-Err-clause-round : goal.returns-in-Err-clause-round
returns-in-Err-clause-round g c =
    let s = c.args.search.now in
    let mid = c.settle.new.self in
    let log = g.L.Log.state c.args.log.now in
    let was : IsSearch s = c.lemmas-lemmas.ensures.search in
    let b : TurnBegins s log = record { kept = was; going = c.requires.going; few = c.requires.few; fits = c.requires.fits } in
    let is : IsSearch mid = c.lemmas-lemmas-in-Err.ensures.search in
    turn_ends s log c.halt.result c.halt.new.self log was c.requires.fits
    (turned s log log turns.NoMemory c.halt.result (halted mid mid.written mid.clause_lines) c.halt.new.self c.halt.ensures.value c.halt.ensures.search (stopped_early s mid mid.written mid.clause_lines log b c.in-Err.ensures.meets is))
    (stop_keeps stops.NoMemory c.halt.result log log log c.halt.ensures.value refl refl)
