use Rattle.std.proofs.Common.{◌≡◌, arith}
use Rattle.hw_lexicon.proofs.Inverse.{at_place}
use Rattle.hw_lexicon.proofs.laws.is_word_found.Goals as goal

pub returns : goal.returns
returns c = λ ws i w h. let r = at_place 0 ws i w h in let at : i ≡ r.0 = omega (arith, r.1) in rw at r.2
