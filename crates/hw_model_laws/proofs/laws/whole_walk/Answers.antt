use Rattle.hw_model_laws.proofs.Rank.{first_is_best, none_of_all}
use Rattle.hw_model_laws.proofs.laws.whole_walk.Goals as goal

pub returns : goal.returns
returns c = λ f. (first_is_best f, none_of_all f)
