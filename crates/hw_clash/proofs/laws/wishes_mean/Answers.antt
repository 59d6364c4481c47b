use Rattle.hw_clash.proofs.Wishes.{wishes_mean}
use Rattle.hw_clash.proofs.laws.wishes_mean.Goals as goal

pub returns : goal.returns
returns c = wishes_mean
