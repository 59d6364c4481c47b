use Rattle.hw_tide.proofs.OneList.{one_list_law}
use Rattle.hw_tide.proofs.laws.one_list.Goals as goal

pub returns : goal.returns
returns c = one_list_law
