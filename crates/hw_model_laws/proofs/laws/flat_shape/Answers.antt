use Rattle.hw_model_laws.proofs.Denying.{shape_fits}
use Rattle.hw_model_laws.proofs.laws.flat_shape.Goals as goal

pub returns : goal.returns
returns c = shape_fits
