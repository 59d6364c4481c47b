use Rattle.hw_trail_laws.proofs.Quiets.{not_within}
use Rattle.hw_trail_laws.proofs.laws.never_inside.Goals as goal

pub returns : goal.returns
returns c = λ t clause lemma back places old is h some fits quiet inside. not_within t is clause lemma back places old h some fits quiet inside
