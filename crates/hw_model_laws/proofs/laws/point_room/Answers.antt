use Rattle.hw_model_laws.proofs.Points.{permitted, worth_it}
use Rattle.hw_model_laws.proofs.laws.point_room.Goals as goal

pub returns : goal.returns
returns c = λ f best room flat fits point nothing. (permitted f best room fits point nothing, worth_it f best room fits point nothing)
