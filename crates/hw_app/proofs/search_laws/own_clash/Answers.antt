use Rattle.hw_app.proofs.OwnedClash.{own_clash}
use Rattle.hw_app.proofs.search_laws.own_clash.Goals as goal

pub returns : goal.returns
returns c = own_clash
