use Rattle.hw_subject.specs.Subjects.{port_of}
use Rattle.hw_command_texts.specs.Listings.{windows_of}
use Rattle.hw_command_texts.proofs.Carried.{listing_stops, port_sent}
use Rattle.hw_command_texts.proofs.listings.list_windows.Goals as goal

pub returns-in-Ok : goal.returns-in-Ok
returns-in-Ok g c = port_sent c.args.port.instance.now c.args.port.tides.now windows_of c.in-Ok.ensures.problem c.list.ensures

pub returns-in-Err : goal.returns-in-Err
returns-in-Err g c = listing_stops (port_of c.args.port.instance.now c.args.port.tides.now) windows_of c.in-Err.ensures.no_problem c.finish.ensures
