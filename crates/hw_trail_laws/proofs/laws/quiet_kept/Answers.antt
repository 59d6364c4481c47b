use Rattle.hw_trail_laws.proofs.Kept.{quiet_implied, quiet_decided, quiet_back}
use Rattle.hw_trail_laws.proofs.Quiets.{quiet_learnt, back_below}
use Rattle.hw_trail_laws.proofs.laws.quiet_kept.Goals as goal

pub returns : goal.returns
returns c = λ t clauses is quiet. record {
  implication = λ lit why. quiet_implied t lit why clauses quiet;
  decision = λ lit here. quiet_decided t lit clauses is here quiet;
  back = λ level le. quiet_back t level clauses le quiet;
  lemma = λ clause lemma back places h some. (back_below t is clause lemma back places h some, quiet_learnt t is clause lemma back places clauses h some quiet);
}
