use Rattle.std.proofs.lemmas.Result.{on_ok_weaker}
use Rattle.hw_search_sources.proofs.Adding.{pair_pushed}
use Rattle.hw_search_sources.proofs.speakers.Speakers.add_pair.Goals as goal

pub returns : goal.returns
returns c = record { adds = on_ok_weaker c.push.result (pair_pushed (record { ships = c.self.inside.ships; by_ship = c.self.inside.by_ship.items; by_pair = c.self.inside.by_pair.items }) c.args.self.now c.args.v c.args.w c.args.place c.index_mut.result.now c.push.new.self c.self.view_is c.self.invariant.each_pair c.requires.ascends c.requires.ship_in c.index_mut.ensures.value) c.push.ensures.push }
