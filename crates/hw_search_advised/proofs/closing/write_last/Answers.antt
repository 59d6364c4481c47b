use Rattle.std.proofs.Common.{◌≡◌, ◌∙◌, []}
use Rattle.hw_search_laws.specs.Searches.{IsSearch}
use Rattle.hw_search_advised.proofs.Closings.{last_meets}
use Rattle.hw_search_advised.proofs.closing.write_last.Goals as goal

pub returns-clause-writes : goal.returns-clause-writes
returns-clause-writes g c =
    let s = c.args.search.now in
    let is : IsSearch s = c.lemmas-lemmas.ensures.search in
    let none : c.of_normal-clause.result ≡ [] = c.of_normal-clause.ensures.value ∙ c.new.ensures.items in
    last_meets s c.of_normal-clause.result c.hand_priced.result (g.L.Log.state c.args.log.now) (g.L.Log.state c.hand_priced.new.log) is c.requires.going c.requires.few c.requires.shows c.requires.fits none c.hand_priced.ensures.hands c.hand_priced.ensures.stops
