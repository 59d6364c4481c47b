use Rattle.hw_subject.specs.Subjects.{origin_seen, subject_of_source}
use Rattle.hw_command_texts.specs.Listings.{programme_text}
use Rattle.hw_command_texts.proofs.Carried.{listing_stops, problem_sent}
use Rattle.hw_command_texts.proofs.listings.list_model.Goals as goal

pub returns-in-Ok : goal.returns-in-Ok
returns-in-Ok g c = problem_sent (subject_of_source c.args.source) (programme_text c.args.format) c.in-Ok.ensures.given c.list.ensures

pub returns-in-Err : goal.returns-in-Err
returns-in-Err g c = listing_stops (origin_seen c.args.source) _ c.in-Err.ensures.stops c.finish.ensures
