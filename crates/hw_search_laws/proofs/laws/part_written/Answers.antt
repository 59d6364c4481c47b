use Rattle.hw_search_laws.proofs.Parts.{part_well}
use Rattle.hw_search_laws.proofs.laws.part_written.Goals as goal

pub returns : goal.returns
returns c = part_well
