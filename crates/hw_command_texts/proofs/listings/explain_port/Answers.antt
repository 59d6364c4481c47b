use Rattle.hw_subject.specs.Subjects.{port_of}
use Rattle.hw_command_texts.specs.Listings.{restriction_words}
use Rattle.hw_command_texts.proofs.Carried.{held_sent, listing_stops}
use Rattle.hw_command_texts.proofs.listings.explain_port.Goals as goal

pub returns-in-Ok : goal.returns-in-Ok
returns-in-Ok g c = held_sent c.args.port.instance.now c.args.port.tides.now restriction_words c.explain.result c.in-Ok.ensures.problem c.explain.ensures c.list_held.ensures

pub returns-in-Err : goal.returns-in-Err
returns-in-Err g c = listing_stops (port_of c.args.port.instance.now c.args.port.tides.now) restriction_words c.in-Err.ensures.no_problem c.finish.ensures
