use Rattle.std.proofs.Common.{subst}
use Rattle.hw_model.specs.Problem.{shape_of}
use Rattle.hw_model.specs.Limits.{ShapeFits}
use Rattle.hw_model.specs.Rooms.{whole_room}
use Rattle.hw_trail_laws.proofs.Denials.{whole_of}
use Rattle.hw_search_tests.proofs.asking.make.Goals as goal

pub returns-in-Trying-clause-ready : goal.returns-in-Trying-clause-ready
returns-in-Trying-clause-ready c = c.new.ensures.ready c.args.flat.now (whole_room (shape_of c.args.flat.now)) c.requires.source_in (whole_of (shape_of c.args.flat.now) (subst ShapeFits c.shape-shape.ensures.value c.shape-shape.ensures.fits))
