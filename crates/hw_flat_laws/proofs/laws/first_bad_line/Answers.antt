use Rattle.hw_flat_laws.proofs.Texts.{first_bad_line_law}
use Rattle.hw_flat_laws.proofs.laws.first_bad_line.Goals as goal

pub returns : goal.returns
returns c = first_bad_line_law
