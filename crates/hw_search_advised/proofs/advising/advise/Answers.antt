use Rattle.std.proofs.Common.{◌≡◌, subst}
use Rattle.std.specs.Prelude.{Ok}
use Rattle.hw_search.specs.declared.settling.Asked.{Asked}
use Rattle.hw_search_advised.specs.Heeding.{ConsultMeets}
use Rattle.hw_search_advised.proofs.AdvisedTurns.{fails_end}
use Rattle.hw_search_advised.proofs.advising.advise.Goals as goal

pub returns-in-Ok-Conflict-clause-round : goal.returns-in-Ok-Conflict-clause-round
returns-in-Ok-Conflict-clause-round g c =
    let s = c.args.search.now in
    let mid = c.consult.new.search in
    let old = g.L.Log.state c.args.log.now in
    let here = g.L.Log.state c.consult.new.log in
    let fails = subst (λ (x : Asked). ConsultMeets ((mid ≡ s) × (here ≡ old)) s mid old here (Ok x)) c.in-Ok-Conflict.field-0-is c.in-Ok-Conflict.ensures.meets in
    fails_end s mid old here c.in-Ok-Conflict.why c.meet_conflict.result c.meet_conflict.new.self (g.L.Log.state c.meet_conflict.new.log) c.requires.going c.requires.few fails c.meet_conflict.ensures.turns c.meet_conflict.ensures.kept
