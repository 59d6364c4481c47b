use Rattle.hw_subject.specs.Subjects.{port_of}
use Rattle.hw_command_texts.specs.Listings.{flat_text_of}
use Rattle.hw_command_texts.proofs.Carried.{flat_made, held_sent, listing_stops}
use Rattle.hw_command_texts.proofs.listings.flatten_port.Goals as goal

pub returns-in-Ok : goal.returns-in-Ok
returns-in-Ok g c = held_sent c.args.port.instance.now c.args.port.tides.now flat_text_of c.flat_text.result c.in-Ok.ensures.problem (flat_made c.flat_text.result c.in-Ok.ensures.problem c.flat_text.ensures) c.list_held.ensures

pub returns-in-Err : goal.returns-in-Err
returns-in-Err g c = listing_stops (port_of c.args.port.instance.now c.args.port.tides.now) flat_text_of c.in-Err.ensures.no_problem c.finish.ensures
