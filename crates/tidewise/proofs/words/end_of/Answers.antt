use Rattle.std.proofs.Common.{Ok}
use Rattle.tidewise.proofs.words.end_of.Goals as goal

pub returns-in-Ok : goal.returns-in-Ok
returns-in-Ok g c = (Ok c.in-Ok.words, c.in-Ok.ensures, rw c.deref.ensures.value at c.end_of_words.ensures)
