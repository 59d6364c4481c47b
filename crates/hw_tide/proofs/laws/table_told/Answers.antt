use Rattle.hw_tide.proofs.ToldTables.{table_told_law}
use Rattle.hw_tide.proofs.laws.table_told.Goals as goal

pub returns : goal.returns
returns c = table_told_law
