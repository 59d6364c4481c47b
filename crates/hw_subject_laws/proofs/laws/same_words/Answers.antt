use Rattle.hw_subject_laws.proofs.Words.{same_words_law}
use Rattle.hw_subject_laws.proofs.laws.same_words.Goals as goal

pub returns : goal.returns
returns c = same_words_law
