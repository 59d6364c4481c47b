use Rattle.hw_search_laws.proofs.Sound.{solved}
use Rattle.hw_search_laws.proofs.laws.solved_sound.Goals as goal

pub returns : goal.returns
returns c = solved
