use Rattle.std.proofs.Common.{◌≡◌, true, false, sym, ◌∙◌, subst}
use Rattle.hw_model.specs.Rooms.{IsPoint}
use Rattle.hw_search_laws.specs.Searches.{IsSearch, room_in}
use Rattle.hw_search_advised.proofs.AdvisedTurns.{point_ends, preference_ends, rule_ends}
use Rattle.hw_search_advised.proofs.advising.go_on.Goals as goal

pub returns-then-is_point-clause-turns : goal.returns-then-is_point-clause-turns
returns-then-is_point-clause-turns g c =
    let s = c.args.search.now in
    let is : IsSearch s = c.room.ensures.search in
    point_ends s (g.L.Log.state c.args.log.now) c.improve.result c.improve.new.self (g.L.Log.state c.improve.new.log) is c.requires.going c.requires.few c.requires.fits c.requires.quiet c.improve.ensures.turns c.improve.ensures.kept

pub returns-in-Some-clause-turns : goal.returns-in-Some-clause-turns
returns-in-Some-clause-turns g c =
    let s = c.args.search.now in
    let is : IsSearch s = c.room.ensures.search in
    preference_ends s (g.L.Log.state c.args.log.now) c.in-Some.lit c.decide_by.new.self is c.requires.fits c.requires.quiet c.in-Some.ensures.open c.decide_by.ensures.search c.decide_by.ensures.kept

pub returns-in-None-clause-turns : goal.returns-in-None-clause-turns
returns-in-None-clause-turns g c =
    let s = c.args.search.now in
    let is : IsSearch s = c.room.ensures.search in
    let room : c.room.result.now ≡ room_in s = c.room.ensures.value in
    let wide : IsPoint (room_in s) → ⊥ = λ p. let two : true ≡ false = sym (c.is_point.ensures.point.1 (subst IsPoint (sym room) p)) ∙ c.if-is_point.false in cc in
    rule_ends s (g.L.Log.state c.args.log.now) c.decide.new.self is c.requires.going c.requires.few c.requires.fits c.requires.quiet wide c.decide.ensures.decides
